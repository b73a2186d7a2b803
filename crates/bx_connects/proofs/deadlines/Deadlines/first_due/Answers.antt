use Rattle.std.proofs.Common.{arith}
use Rattle.bx_connects.proofs.DeadlineLemmas.{none_before}
use Rattle.bx_connects.proofs.deadlines.Deadlines.first_due.Goals as goal

pub returns-else-deadline-moment-clause-none : goal.returns-else-deadline-moment-clause-none
returns-else-deadline-moment-clause-none c = λ q early.
    none_before c.in_ok-hold.field-0.now c.args.self.now.holds.keys c.in_ok-hold.ensures.all_from q (omega (arith, early, c.if-deadline-moment.false))
