use Rattle.std.proofs.Common.{ℕ, ◌<◌, ◌≡◌, ◌++◌, ◌∷◌, [], ◌∙◌, Err, ap, length, map, subst, sym}
use Rattle.std.proofs.lemmas.List.{length-map, map-append}
use Rattle.bx_entry.specs.Requests.{read_input}
use Rattle.bx_world.specs.Words.{admission, Steps, setup_of, world_of, WorldState}
use Rattle.bx_entry.specs.declared.{entry.Admitted.Admitted, input.AdmitFault.AdmitFault}
use Rattle.bx_world.specs.declared.step.Step.TheVariants.{Admit}
use Rattle.bx_fanout.specs.Stages.{seen_out}
use Rattle.bx_fanout.proofs.{Admitted.intake-admitted, Admitted.intake-of, Admitted.intake-refused, Admitted.took, Lagging.lags-on}
use Rattle.bx_fanout.proofs.take_in.take_in.Goals as goal

pub returns-in-Ok-clause-intake : goal.returns-in-Ok-clause-intake
returns-in-Ok-clause-intake g c =
    let w = c.args.world.now in
    let v = c.admit.new.world in
    let steps = c.in-Ok.ensures in
    let a = c.in-Ok.field-0 in
    let n0 = c.current_of.result in
    let at : n0.first ≡ a.first = c.current_of.ensures.first ∙ ap (λ (r : Admitted). r.first) (sym c.in-Ok.field-0-is) in
    let are : n0.slots.items ≡ a.slots = c.current_of.ensures.slots ∙ ap (λ (r : Admitted). r.slots) (sym c.in-Ok.field-0-is) in
    let inputs = map read_input c.args.inputs.now in
    let added = map seen_out c.args.added.now in
    let n = c.current_of.result in
    let many : length inputs ≡ length c.args.inputs.now = length-map c.args.inputs.now read_input in
    intake-of (setup_of v) (setup_of w) (map read_input (c.args.inputs.now ++ c.args.input.now ∷ [])) inputs (read_input c.args.input.now) (world_of v) c.args.held.now n added steps.setup
    (map-append read_input c.args.inputs.now (c.args.input.now ∷ []))
    (intake-admitted (setup_of w) inputs c.args.input.now (world_of w) (world_of v) c.args.held.now n added a.first a.slots w.registry.config.limits.some_batch c.requires.giving c.requires.settled steps.output steps.world
    (c.current_of.ensures.number ∙ c.requires.number ∙ sym many) at c.current_of.ensures.refusal c.current_of.ensures.items c.current_of.ensures.answers are)

pub returns-in-Err-Refused-clause-intake : goal.returns-in-Err-Refused-clause-intake
returns-in-Err-Refused-clause-intake g c =
    let w = c.args.world.now in
    let v = c.admit.new.world in
    let steps = subst (λ (f : AdmitFault). Steps w (Admit c.args.input.now) (admission (Err f)) v) c.in-Err-Refused.field-0-is c.in-Err-Refused.ensures in
    let inputs = map read_input c.args.inputs.now in
    let added = map seen_out c.args.added.now in
    let made = c.current_of-in-Err-Refused.ensures in
    let n = c.current_of-in-Err-Refused.result in
    let many : length inputs ≡ length c.args.inputs.now = length-map c.args.inputs.now read_input in
    intake-of (setup_of v) (setup_of w) (map read_input (c.args.inputs.now ++ c.args.input.now ∷ [])) inputs (read_input c.args.input.now) (world_of v) c.args.held.now n added steps.setup
    (map-append read_input c.args.inputs.now (c.args.input.now ∷ []))
    (intake-refused (setup_of w) inputs c.args.input.now (world_of w) (world_of v) c.args.held.now n added c.in-Err-Refused.refusal c.requires.giving c.requires.settled steps.output steps.world
    (made.number ∙ c.requires.number ∙ sym many) (made.first ∙ c.entries-end.ensures) made.refusal made.items made.answers (made.slots ∙ c.new.ensures))

pub returns-in-Ok-clause-lags : goal.returns-in-Ok-clause-lags
returns-in-Ok-clause-lags g c = λ more level.
    let w = c.args.world.now in
    let v = c.admit.new.world in
    let steps = c.in-Ok.ensures in
    let a = c.in-Ok.field-0 in
    let at : c.current_of.result.first ≡ length (world_of w).list =
    c.current_of.ensures.first ∙ ap (λ (r : Admitted). r.first) (sym c.in-Ok.field-0-is) ∙ (took (setup_of w) (world_of w) c.args.input.now a.first a.slots steps.output).at in
    lags-on w (world_of v) (ap (λ (x : WorldState). x.applied) steps.world) (subst (λ (n : ℕ). n < length (world_of v).list) at more) level
