use Rattle.std.proofs.Common.{rules, ap, sym, ◌∙◌}
use Rattle.bx_connects.specs.Words.{hold_at, unwatched_hold, is_held_until}
use Rattle.bx_connects.proofs.{ConnectLemmas.lookup-turned, HoldLemmas.unwatched_still}
use Rattle.bx_connects.proofs.held.HeldConnects.unwatch_all.Goals as goal
use Rattle.std.proofs.lemmas.Grind.{common_steps}
use Rattle.std.proofs.Common.{arith}

pub invariant_of-self : goal.invariant_of-self
invariant_of-self c = λ p s d.
    c.self.invariant p s d ∙ sym (unwatched_still (hold_at c.self.inside.by_place.entries p) s d)
    ∙ sym (ap (λ o. is_held_until o s d) (lookup-turned _ unwatched_hold _ (λ k v b w g call. search rules) _ _ c.retain.ensures.filtered p))

pub returns-clause-unwatched : goal.returns-clause-unwatched
returns-clause-unwatched c = grind (arith, common_steps, lookup-turned)
