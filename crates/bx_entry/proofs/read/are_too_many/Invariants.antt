use Rattle.std.proofs.Common.{◌≡◌, length, nat_lt, drop}
use Rattle.bx_cut.specs.declared.document.TheConstants.{MAX_MESSAGES}
use Rattle.bx_entry.specs.Requests.{objects_of}
use Rattle.bx_entry.proofs.read.are_too_many.Given as goal

abbrev pub invariant-loop-cut : goal.invariant-loop-cut
invariant-loop-cut l = nat_lt l.room (length (objects_of (drop l.cut-index l.cuts))) ≡ nat_lt MAX_MESSAGES (length (objects_of l.cuts))
