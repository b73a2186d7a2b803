use Rattle.std.proofs.Common.{◌≡◌, ◌+◌, length}
use Rattle.bx_hub.proofs.hub.Hub.new.Given as goal

abbrev pub invariant-loop-reader : goal.invariant-loop-reader
invariant-loop-reader g l = length l.shards.items + length l.reader-iterator.rest.items ≡ l.fn.config.shards
