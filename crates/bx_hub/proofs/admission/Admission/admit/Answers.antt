use Rattle.std.proofs.Common.{◌≡◌, ◌<◌, ◌++◌, [], ◌∷◌, ◌∙◌, List, length, sym, ap, ap₂, subst, arith, append-nil}
use Rattle.std.proofs.lemmas.Result.{IfOk-weaker}
use mathlib.Core.List.{IsPrefix}
use Rattle.bx_entry.specs.Placings.{Setup}
use Rattle.bx_entry.specs.Words.{ReadInput, added_by, refusal_of, Listed}
use Rattle.bx_entry.specs.declared.input.Input.{Input}
use Rattle.bx_window.specs.Steps.{adding, inputs_of, list_of, setup_of}
use Rattle.bx_window.specs.declared.law.LogStep.{LogStep}
use Rattle.bx_window.proofs.Lists.{inputs_of_adding}
use Rattle.bx_registry.specs.Slots.{admitted_slots}
use Rattle.bx_hub.specs.Submissions.{input_of}
use Rattle.bx_hub.specs.Records.{inputs_by}
use Rattle.bx_hub.specs.Posts.{AreSlotsAt, IsAdmittedAt, IsGrown}
use Rattle.bx_entry.specs.declared.entry.Admitted.{Admitted}
use Rattle.bx_hub.proofs.Posts.{admitted_by, entries_many, none_added, shows_none, shows_step, slots_by, unpublished_result, with_step}
use Rattle.bx_hub.proofs.Records.{none_by, nothing_recorded}
use Rattle.bx_hub.proofs.admission.Admission.admit.Goals as goal

pub returns-then-count-eq0-clause-admitted : goal.returns-then-count-eq0-clause-admitted
returns-then-count-eq0-clause-admitted g c =
    let seen = subst (λ (xs : List LogStep). IsPrefix c.args.pass.now xs) (sym c.tell_beyond.ensures.whole)
    c.tell_beyond.ensures.begins in
    let d = c.plan.new.self in
    let p = c.in_ok-plan.plan in
    let pass : List LogStep = c.tell_beyond.result in
    let input : ReadInput = input_of c.args.wanted.now in
    let none : p.elements ≡ [] = none_added p.elements (omega (arith, entries_many d.registry p c.in_ok-plan.ensures.continues, c.len-count.ensures, c.if-count-eq0.true)) in
    let is : d.registry.list ≡ list_of pass = d.listed ∙ ap list_of
    (c.plan.ensures.same.0 ∙ c.tell_beyond.ensures.same ∙ sym c.tell_beyond.ensures.whole) in
    let same : list_of pass ≡ list_of pass ++ p.elements = sym (append-nil (list_of pass)) ∙ ap (λ (xs : List Listed). list_of pass ++ xs) (sym none) in
    admitted_by input d.registry p c.args.pass.now pass pass is c.in_ok-plan.ensures.continues c.in_ok-plan.ensures.elements
    (ap (λ (xs : List Listed). refusal_of (length xs) input) d.listed ∙ c.in_ok-plan.ensures.allowed) seen same (shows_none pass)

pub returns-then-count-eq0-clause-grown : goal.returns-then-count-eq0-clause-grown
returns-then-count-eq0-clause-grown g c =
    let d = c.plan.new.self in
    let p = c.in_ok-plan.plan in
    let old : List Listed = list_of c.args.self.now.writer in
    let before : List Input = inputs_of c.args.self.now.writer in
    let none : p.elements ≡ [] = none_added p.elements (omega (arith, entries_many d.registry p c.in_ok-plan.ensures.continues, c.len-count.ensures, c.if-count-eq0.true)) in
    let nothing : inputs_by c.args.wanted.now ≡ [] = none_by c.args.wanted.now (sym c.in_ok-plan.ensures.elements ∙ none) in
    let same : d.writer ≡ c.args.self.now.writer = c.plan.ensures.same.0 ∙ c.tell_beyond.ensures.same in
    let whole = c.tell_beyond.ensures.whole in
    record {
      first_is = c.in_ok-plan.ensures.continues.first ∙ ap (λ (xs : List Listed). length xs) (d.listed ∙ ap list_of same);
      list_is = ap list_of whole ∙ sym (append-nil old) ∙ ap (λ (xs : List Listed). old ++ xs) (sym none ∙ c.in_ok-plan.ensures.elements);
      inputs_are = ap inputs_of whole ∙ sym (append-nil before) ∙ ap (λ (xs : List Input). before ++ xs) (sym nothing);
    }

pub returns-clause-grown : goal.returns-clause-grown
returns-clause-grown g c =
    let d = c.plan.new.self in
    let p = c.in_ok-plan.plan in
    let old : List LogStep = c.args.self.now.writer in
    let pass : List LogStep = c.tell_beyond.result in
    let new : List LogStep = c.publish.new.pass in
    let inputs : List Input = inputs_by c.args.wanted.now in
    let same : d.writer ≡ old = c.plan.ensures.same.0 ∙ c.tell_beyond.ensures.same in
    let whole : pass ≡ old = c.tell_beyond.ensures.whole in
    let first : p.batch.first ≡ length (list_of old) = c.in_ok-plan.ensures.continues.first ∙ ap (λ (xs : List Listed). length xs) (d.listed ∙ ap list_of same) in
    IfOk-weaker c.publish.result
    (λ a. ((a ≡ record { first = p.batch.first; slots = p.slots }) × (list_of new ≡ list_of pass ++ p.elements)) × (new ≡ pass ++ adding p.elements inputs ∷ []))
    (λ a. IsGrown (input_of c.args.wanted.now) inputs a.first old new)
    (λ a t. record {
      first_is = ap (λ (x : Admitted). x.first) t.0.0 ∙ first;
      list_is = t.0.1 ∙ ap₂ (λ (xs ys : List Listed). xs ++ ys) (ap list_of whole) c.in_ok-plan.ensures.elements;
      inputs_are = ap inputs_of t.1 ∙ inputs_of_adding pass p.elements inputs ∙ ap (λ (xs : List LogStep). inputs_of xs ++ inputs) whole;
    })
    (with_step (λ (a : Admitted). (a ≡ record { first = p.batch.first; slots = p.slots }) × (list_of new ≡ list_of pass ++ p.elements)) (new ≡ pass ++ adding p.elements inputs ∷ []) c.publish.result c.publish.ensures.taken c.publish.ensures.step)

pub returns-then-count-eq0-clause-recorded : goal.returns-then-count-eq0-clause-recorded
returns-then-count-eq0-clause-recorded g c =
    let d = c.plan.new.self in
    let p = c.in_ok-plan.plan in
    let none : p.elements ≡ [] = none_added p.elements (omega (arith, entries_many d.registry p c.in_ok-plan.ensures.continues, c.len-count.ensures, c.if-count-eq0.true)) in
    let nothing : inputs_by c.args.wanted.now ≡ [] = none_by c.args.wanted.now (sym c.in_ok-plan.ensures.elements ∙ none) in
    nothing_recorded c.args.self.now.writer (inputs_by c.args.wanted.now) c.args.self.now.recording d.recording c.args.self.now.record_end d.record_end
    nothing c.plan.ensures.same.2 c.plan.ensures.same.3

pub returns-clause-admitted : goal.returns-clause-admitted
returns-clause-admitted g c =
    let seen = subst (λ (xs : List LogStep). IsPrefix c.args.pass.now xs) (sym c.tell_beyond.ensures.whole)
    c.tell_beyond.ensures.begins in
    let d = c.plan.new.self in
    let p = c.in_ok-plan.plan in
    let pass : List LogStep = c.tell_beyond.result in
    let new : List LogStep = c.publish.new.pass in
    let input : ReadInput = input_of c.args.wanted.now in
    let is : d.registry.list ≡ list_of pass = d.listed ∙ ap list_of
    (c.plan.ensures.same.0 ∙ c.tell_beyond.ensures.same ∙ sym c.tell_beyond.ensures.whole) in
    let inputs : List Input = inputs_by c.args.wanted.now in
    IfOk-weaker c.publish.result
    (λ a. ((a ≡ record { first = p.batch.first; slots = p.slots }) × (list_of new ≡ list_of pass ++ p.elements)) × (new ≡ pass ++ adding p.elements inputs ∷ [])) (λ a. IsAdmittedAt input a.first c.args.pass.now new)
    (λ a t. subst (λ (x : Admitted). IsAdmittedAt input x.first c.args.pass.now new) (sym t.0.0)
    (admitted_by input d.registry p c.args.pass.now pass new is c.in_ok-plan.ensures.continues c.in_ok-plan.ensures.elements
    (ap (λ (xs : List Listed). refusal_of (length xs) input) d.listed ∙ c.in_ok-plan.ensures.allowed) seen t.0.1 (shows_step pass new (adding p.elements inputs) t.1)))
    (with_step (λ (a : Admitted). (a ≡ record { first = p.batch.first; slots = p.slots }) × (list_of new ≡ list_of pass ++ p.elements)) (new ≡ pass ++ adding p.elements inputs ∷ []) c.publish.result c.publish.ensures.taken c.publish.ensures.step)

pub returns-clause-slots : goal.returns-clause-slots
returns-clause-slots g c =
    let d = c.plan.new.self in
    let p = c.in_ok-plan.plan in
    let pass : List LogStep = c.tell_beyond.result in
    let new : List LogStep = c.publish.new.pass in
    let setup : Setup = setup_of g.L.LogId.config g.L.LogId.placing in
    let input : ReadInput = input_of c.args.wanted.now in
    let seen : list_of d.writer ≡ list_of pass = ap list_of
    (c.plan.ensures.same.0 ∙ c.tell_beyond.ensures.same ∙ sym c.tell_beyond.ensures.whole) in
    let first : p.batch.first ≡ length (list_of pass) = c.in_ok-plan.ensures.continues.first ∙ ap (λ (xs : List Listed). length xs) (d.listed ∙ seen) in
    let slots = subst (λ (xs : List Listed). p.slots ≡ admitted_slots setup xs p.elements) seen c.in_ok-plan.ensures.slots in
    IfOk-weaker c.publish.result (λ a. (a ≡ record { first = p.batch.first; slots = p.slots }) × (list_of new ≡ list_of pass ++ p.elements)) (λ a. AreSlotsAt setup input a.first new a.slots)
    (λ a t. subst (λ (x : Admitted). AreSlotsAt setup input x.first new x.slots) (sym t.0) (slots_by setup input p pass new first slots c.in_ok-plan.ensures.elements t.1)) c.publish.ensures.taken

pub returns-clause-refused : goal.returns-clause-refused
returns-clause-refused g c =
    let d = c.plan.new.self in
    let p = c.in_ok-plan.plan in
    let pass : List LogStep = c.tell_beyond.result in
    let input : ReadInput = input_of c.args.wanted.now in
    let some : 0 < length (added_by input) = subst (λ (xs : List Listed). 0 < length xs) c.in_ok-plan.ensures.elements
    (omega (arith, entries_many d.registry p c.in_ok-plan.ensures.continues, c.len-count.ensures, c.if-count-eq0.false)) in
    unpublished_result input (list_of d.writer) d.writer c.publish.new.self.writer pass c.publish.new.pass c.publish.result c.in_ok-plan.ensures.allowed
    (ap list_of (c.plan.ensures.same.0 ∙ c.tell_beyond.ensures.same ∙ sym c.tell_beyond.ensures.whole)) some
    c.publish.ensures.same c.publish.ensures.refused
