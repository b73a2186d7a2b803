use Rattle.std.proofs.Common.{◌≡◌, drop}
use Rattle.bx_entry.specs.Requests.{all_messages}
use Rattle.bx_entry.proofs.RequestLemmas.{joined}
use Rattle.bx_entry.proofs.read.read_cut.Given as goal

abbrev pub invariant-loop-piece : goal.invariant-loop-piece
invariant-loop-piece l = joined l.messages.items (all_messages (drop l.piece-index l.piece-items)) ≡ joined l.initial.messages.items (all_messages l.piece-items)
