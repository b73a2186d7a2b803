use Rattle.std.proofs.Common.{◌≡◌, ◌++◌, ◌∙◌, List, length, sym, ap, ap₂, subst, arith}
use Rattle.bx_entry.specs.declared.input.Input.{Input}
use Rattle.bx_window.specs.declared.law.LogStep.{LogStep}
use Rattle.bx_registry.specs.Standings.{Standing}
use Rattle.bx_entry.specs.Listing.{Listed}
use Rattle.bx_window.specs.Steps.{inputs_of, list_of}
use Rattle.bx_window.proofs.Lists.{inputs_of_adding, list_of-adding}
use Rattle.std.specs.Option.{ForSome}
use Rattle.bx_hub.specs.Records.{inputs_by, list_by}
use Rattle.bx_hub.specs.declared.recording.Recording.{Recording}
use Rattle.bx_hub.proofs.Records.{list_by-append, some_by}
use Rattle.bx_hub.proofs.Posts.{continues, entries_many, places_end}
use Rattle.bx_hub.proofs.admission.Admission.publish.Goals as goal

pub publish-requires-clause-continues : goal.publish-requires-clause-continues
publish-requires-clause-continues g c =
    let d = c.args.self.now in
    continues g.L.LogId.config (list_of d.writer) d.registry c.args.plan c.inputs_by.result d.config d.listed c.requires.continues c.requires.some

pub publish-requires-clause-places : goal.publish-requires-clause-places
publish-requires-clause-places g c =
    let d = c.args.self.now in
    places_end (list_of d.writer) d.registry c.args.plan d.listed c.requires.continues

pub invariant_of-self : goal.invariant_of-self
invariant_of-self g c =
    let d = c.args.self.now in
    let p = c.args.plan in
    let made = c.commit.ensures in
    let grown = ap list_of c.in-Ok.ensures.ok ∙ list_of-adding d.writer p.elements c.inputs_by.result in
    let told = ap inputs_of c.in-Ok.ensures.ok ∙ inputs_of_adding d.writer p.elements c.inputs_by.result in
    record {
      config = ap (λ (l : Standing). l.config) made ∙ d.config;
      counted = ap (λ (l : Standing). l.shards) made ∙ d.counted;
      listed = ap (λ (l : Standing). l.list) made ∙ ap (λ (xs : List Listed). d.registry.list ++ xs) c.again-added.ensures ∙ ap (λ (xs : List Listed). xs ++ p.elements) d.listed ∙ sym grown;
      of_inputs = ap list_by told ∙ list_by-append (inputs_of d.writer) c.inputs_by.result ∙ ap₂ (λ (xs ys : List Listed). xs ++ ys) d.of_inputs (ap list_by c.inputs_by.ensures ∙ c.requires.inputs) ∙ sym grown;
      recorded = subst (λ o. ForSome o (λ (r : Recording g.row.L.Denot g.L.LogId). r.inputs ≡ inputs_of c.publish.new.self)) (sym c.take-recording.ensures.after) (λ r is. absurd (cc is));
    }

pub record-requires-clause-some : goal.record-requires-clause-some
record-requires-clause-some g c =
    some_by c.args.wanted.now (omega (arith, c.requires.some, entries_many c.args.self.now.registry c.args.plan c.requires.continues, ap (λ (xs : List Listed). length xs) c.requires.inputs))

pub record-requires-clause-grown : goal.record-requires-clause-grown
record-requires-clause-grown g c =
    let d = c.args.self.now in
    let inputs : List Input = inputs_by c.args.wanted.now in
    let before : d.writer ≡ c.replace-before.result = cc in
    ap inputs_of c.in-Ok.ensures.ok ∙ inputs_of_adding d.writer c.args.plan.elements c.inputs_by.result ∙ ap (λ (xs : List Input). inputs_of d.writer ++ xs) c.inputs_by.ensures
    ∙ ap (λ (xs : List LogStep). inputs_of xs ++ inputs) before
