use Rattle.std.proofs.Common.{◌≡◌, drop}
use Rattle.bx_entry.specs.Requests.{objects_of, all_messages}
use Rattle.bx_entry.proofs.RequestLemmas.{joined}
use Rattle.bx_entry.proofs.read.read_all.Given as goal

abbrev pub invariant-loop-cut : goal.invariant-loop-cut
invariant-loop-cut l = joined l.messages.items (all_messages (objects_of (drop l.cut-index l.cuts))) ≡ all_messages (objects_of l.cuts)
