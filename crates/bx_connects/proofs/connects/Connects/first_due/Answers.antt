use Rattle.std.proofs.Common.{◌<◌, ℕ, Some, IfNone, sym, ◌∙◌, true≢false, subst}
use Rattle.bx_connects.specs.Connects.{IsHeldUntil}
use Rattle.bx_connects.proofs.HoldLemmas.{is_itself, is_such, earlier_or_later}
use Rattle.bx_connects.proofs.connects.Connects.first_due.Goals as goal
use Rattle.std.proofs.lemmas.Grind.{common_steps}
use Rattle.std.proofs.Common.{arith}

pub returns-in_err-session-clause-none : goal.returns-in_err-session-clause-none
returns-in_err-session-clause-none c =
    subst (λ o. IfNone o ((place session deadline : ℕ) → IsHeldUntil c.args.self.now place session (Some deadline) → c.args.moment < deadline)) (sym c.from_residual.ensures)
    (λ place session deadline held.
    earlier_or_later c.args.moment deadline
    (λ early. absurd (true≢false (
    sym (is_itself (record { held = c.self.inside.held; filed = c.self.inside.filed.entries }) place session deadline (subst (λ known. IsHeldUntil known place session (Some deadline)) (sym c.self.view_is) held))
    ∙ c.in_err-session.ensures.none place session deadline early))))

pub returns-clause-due : goal.returns-clause-due
returns-clause-due c = grind (arith, common_steps, is_such)
