use Rattle.std.proofs.Common.{◌≡◌, length}
use Rattle.bx_entry.specs.Registry.{overdue_closed}
use Rattle.bx_roster.specs.Words.{live_in, with_live, AllFiled, IsFrom, IsRoster, entries}
use Rattle.bx_roster.proofs.table.settle_late.Given as goal

abbrev pub invariant-loop-due : goal.invariant-loop-due
invariant-loop-due l =
    IsRoster l.roster.members × AllFiled (entries l.queue) l.roster.members.live × IsFrom l.moment l.queue.waiting × (l.queue.room ≡ l.fn.queue.room)
    × (with_live l.roster.members (live_in (overdue_closed l.moment l.roster.members.live)) ≡ with_live l.fn.roster.members (live_in (overdue_closed l.moment l.fn.roster.members.live)))

abbrev pub decreases-loop-due : goal.decreases-loop-due
decreases-loop-due l = length l.queue.late
