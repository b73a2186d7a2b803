use Rattle.std.proofs.Common.{◌≡◌, ◌++◌, List, length}
use Rattle.std.specs.Map.{values_of}
use Rattle.bx_entry.specs.Registry.{Registered}
use Rattle.bx_roster.specs.Words.{sessions_in, AllFiled, entries}
use Rattle.bx_roster.proofs.roster.file_each.Given as goal

abbrev pub invariant-loop-record : goal.invariant-loop-record
invariant-loop-record l =
    (done : List Registered) × (AllFiled (entries l.queue) done × (length (entries l.queue) ≡ length done)
    × (done ++ sessions_in l.record-iterator ≡ sessions_in (values_of l.records.entries)) × (l.queue.room ≡ l.fn.queue.room))
