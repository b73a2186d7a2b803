-- Schedules with one more step.
use Rattle.std.proofs.Common.{◌≡◌, List, [], ◌∷◌, ◌++◌, refl, sym, ap, arith, ◌∙◌, subst, append-nil, append_assoc}
use Rattle.bx_entry.specs.declared.Placing.{Ghosts}
use Rattle.bx_entry.specs.Placings.{Setup}
use Rattle.bx_world.specs.Words.{Ran, Steps, setup_of, world_of, WorldState, IsOutput, Runs, after}
use Rattle.bx_world.specs.declared.{step.Step.Step, step.StepOut.StepOut, world.World.World}
use Rattle.bx_world.proofs.AsOne.{headline}

runs_more : (setup : Setup) (w : WorldState) (steps : List Step) (outs : List StepOut) (last next : WorldState) (step : Step) (out : StepOut) → Runs setup w steps outs last → IsOutput setup last step out → next ≡ after last step out →
    Runs setup w (steps ++ step ∷ []) (outs ++ out ∷ []) next
runs_more setup w [] [] last next step out r i e = (subst (λ (v : WorldState). IsOutput setup v step out) r i, e ∙ ap (λ (v : WorldState). after v step out) r)
runs_more setup w [] (o ∷ outs) last next step out r i e = absurd r
runs_more setup w (s ∷ steps) [] last next step out r i e = absurd r
runs_more setup w (s ∷ steps) (o ∷ outs) last next step out r i e = (r.0, runs_more setup (after w s o) steps outs last next step out r.1 i e)

module _ {P : Type 0} {g : Ghosts P} where
  ran : (old new : World P g) (steps : List Step) (before outs given : List StepOut) → outs ≡ before ++ given → Runs (setup_of old) (world_of old) steps given (world_of new) → setup_of new ≡ setup_of old → Ran old steps before outs new
  ran old new steps before outs given b r s = record {
    given = given;
    behind = b;
    runs = r;
    one = headline (setup_of old) (world_of old) steps given (world_of new) (omega (arith, old.registry.config.limits.some_batch)) r;
    holds = λ k x e. (new.holds.holding k x e).holds;
    setup = s;
  }

  pub none_ran : (w : World P g) (outs : List StepOut) → Ran w [] outs outs w
  none_ran w outs = ran w w [] outs outs [] (sym (append-nil outs)) refl refl

  pub one_more_ran : (old now new : World P g) (steps more : List Step) (before outs : List StepOut) (step : Step) (out : StepOut) → Ran old steps before outs now → Steps now step out new → more ≡ steps ++ step ∷ [] →
      Ran old more before (outs ++ out ∷ []) new
  one_more_ran old now new steps more before outs step out r s e = ran old new more before (outs ++ out ∷ []) (r.given ++ out ∷ [])
      (ap (λ (os : List StepOut). os ++ out ∷ []) r.behind ∙ append_assoc before r.given (out ∷ []))
      (subst (λ (ss : List Step). Runs (setup_of old) (world_of old) ss (r.given ++ out ∷ []) (world_of new)) (sym e)
      (runs_more (setup_of old) (world_of old) steps r.given (world_of now) (world_of new) step out r.runs (subst (λ (u : Setup). IsOutput u (world_of now) step out) r.setup s.output) s.world))
      (s.setup ∙ r.setup)
