use Rattle.std.proofs.Common.{◌≡◌, take}
use Rattle.bx_roster.specs.Queues.{past_numbers}
use Rattle.bx_roster.proofs.table.past_numbers.Given as goal

abbrev pub invariant-loop-due : goal.invariant-loop-due
invariant-loop-due l = l.numbers.items ≡ past_numbers l.moment l.roster.members.live (take l.due-index l.late)
