use Rattle.std.proofs.Common.{◌≡◌, length}
use Rattle.std.specs.List.{All}
use Rattle.bx_reshard.specs.Heirs.{IsEmptyOf}
use Rattle.bx_reshard.proofs.heirs.Heirs.new.Given as goal

abbrev pub invariant-loop-index : goal.invariant-loop-index
invariant-loop-index l = record {
  many : length l.shards.items ≡ l.index;
  empty : All (IsEmptyOf l.config) l.shards.items;
}
