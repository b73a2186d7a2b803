use Rattle.std.proofs.Common.{◌≡◌, ◌<◌, ◌+◌, List, [], ◌∷◌, ◌++◌, length, take, sym, ap, ◌∙◌, subst}
use Rattle.std.proofs.lemmas.List.{take_more}
use Rattle.bx_world.specs.Seen.{Ran}
use Rattle.bx_world.specs.declared.step.{Step.Step, StepOut.StepOut}
use Rattle.bx_world.proofs.Runs.{none_ran, one_more_ran}
use Rattle.bx_world.proofs.world.World.run_schedule.Goals as goal

pub loop-index-init : goal.loop-index-init
loop-index-init g c = none_ran c.args.self.now c.args.outs.now.items

pub loop-index-preserved : goal.loop-index-preserved
loop-index-preserved g c =
    let loop = c.loop-index in
    let i = loop.index in
    let steps = c.args.steps.now in
    let step = c.index-steps-index.result in
    let out = c.step-out.result in
    let old = c.args.self.now in
    let new = c.step-out.new.self in
    let here : i < length steps = c.loop-index-test.true in
    let longer : take (i + 1) steps ≡ take i steps ++ step ∷ [] = take_more steps i step here ∙ ap (λ (s : Step). take i steps ++ s ∷ []) (sym c.index-steps-index.is) in
    let ran : Ran old (take (i + 1) steps) c.args.outs.now.items (loop.outs.items ++ out ∷ []) new =
    one_more_ran old loop.self new (take i steps) (take (i + 1) steps) c.args.outs.now.items loop.outs.items step out loop.invariant c.step-out.ensures longer in
    let pushed : c.push_reserved.new.self.items ≡ loop.outs.items ++ out ∷ [] = c.push_reserved.ensures.items ∙ ap (λ (os : List StepOut). os ++ out ∷ []) c.reserve.ensures.items in
    subst (λ (os : List StepOut). Ran old (take (i + 1) steps) c.args.outs.now.items os new) (sym pushed) ran
