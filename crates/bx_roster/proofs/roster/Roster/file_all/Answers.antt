use Rattle.std.proofs.Common.{◌≤◌, length, sym, subst, arith}
use Rattle.bx_roster.specs.Words.{Prepared, entries}
use Rattle.bx_roster.proofs.Filing.{all-filed, few-kept}
use Rattle.bx_roster.proofs.roster.Roster.file_all.Goals as goal

pub file_each-requires-clause-few : goal.file_each-requires-clause-few
file_each-requires-clause-few c =
    omega (arith, few-kept _ c.self.invariant, subst (λ (v : Prepared). length v.members.live ≤ c.args.queue.now.room) (sym c.self.view_is) c.requires.few)

pub returns-clause-filed : goal.returns-clause-filed
returns-clause-filed c = rw (← c.self.view_is) (all-filed (entries c.file_each.new.queue) c.self.inside.records.entries c.file_each.ensures.filed c.self.inside.opened)

pub returns-clause-count : goal.returns-clause-count
returns-clause-count c = rw (← c.self.view_is) (omega (arith, few-kept _ c.self.invariant, c.file_each.ensures.count))
