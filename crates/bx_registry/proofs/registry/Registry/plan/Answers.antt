use Rattle.std.proofs.Common.{◌≡◌, ◌+◌, ◌≤◌, ◌++◌, ℕ, List, false, length, sym, subst, ap, ◌∙◌, arith}
use Rattle.std.specs.Prelude.{◌==◌}
use Rattle.bx_advice.specs.Limits.{greatest_length}
use Rattle.bx_entry.specs.{Listing.Listed, Listing.request, Placings.Setup, Placings.placed_by}
use Rattle.bx_roster.specs.Words.{Members, opened_by_each, room_of}
use Rattle.bx_roster.specs.declared.{edit.Edit.Edit, edit.Edits.TheVariants.Each}
use Rattle.bx_registry.specs.Words.{Amendment, CanCommit, Overlay, IsPlannedBy, Roll, Standing, admitted_slots, found, members_of, roll_between, slots_in}
use Rattle.bx_registry.specs.declared.plan.Plan.{Plan}
use Rattle.bx_entry.proofs.RequestLemmas.{length-listed}
use Rattle.bx_registry.proofs.{Longer.continues, Opening.few-opened, Planning.admitted, Planning.planned-at, Planning.planned-after, Slotting.slots_given}
use Rattle.bx_registry.proofs.registry.Registry.plan.Goals as goal

pub returns-clause-continues : goal.returns-clause-continues
returns-clause-continues g c =
    let inside = c.self.inside in
    let setup : Setup = placed_by inside.config inside.shards (g.P.Placing.place_of c.args.placing.now) in
    let members : Members = inside.table.members in
    let roll : Roll = roll_between inside.config members inside.clock inside.entries in
    let list : List Listed = request c.args.moment c.args.nonce c.args.messages.now in
    let end : ℕ = inside.entries + length c.args.messages.now in
    let many = length-listed c.args.moment c.args.nonce (length c.args.messages.now == 1) false c.args.messages.now in
    let long : end ≡ inside.entries + length list = omega (arith, many) in
    let room : end ≤ greatest_length = omega (arith, c.self.invariant.3, ap (λ (s : Standing). length s.list) c.self.view_is, (admitted c.args.moment (length c.args.self.now.list + length c.args.messages.now) c.in_ok-check.field-0 c.in_ok-check.ensures).1) in
    let planning = c.in_ok-planning.planning in
    let planned = c.in_ok-planning.ensures.planned in
    let edits = c.into_edits-edits.result in
    let at = planned-at setup roll c.new-overlay.result c.plan_all.new.overlay edits list planning.entries planning.slots planning.clock end
    c.new-overlay.ensures c.in_ok-planning.ensures.base c.into_edits-edits.ensures.edits c.into_edits-edits.ensures.can planned long room in
    let after = planned-after setup members inside.clock inside.entries c.new-overlay.result c.plan_all.new.overlay edits list planning.entries planning.slots planning.clock end
    c.new-overlay.ensures c.in_ok-planning.ensures.base c.into_edits-edits.ensures.edits planned long in
    let few = few-opened roll c.args.moment c.args.nonce c.args.messages.now edits planning.clock end at.edits after in
    let ready = c.prepare.new.self.ready in
    let change : Amendment = record { edits = Each edits; clock = planning.clock; length = end } in
    let made : Plan = record { batch = record { first = inside.entries; entries = planning.entries }; slots = planning.slots; elements = c.post.new.self; change = change } in
    let can : CanCommit roll ready change = record { planned = at; room = subst (λ (es : List Edit). opened_by_each es ≤ 1 → opened_by_each es ≤ room_of ready) c.as_slice.ensures c.in_ok-prepare.ensures.room few } in
    let elements : c.post.new.self ≡ list = c.post.ensures ∙ ap (λ (l : List Listed). l ++ list) c.new-elements.ensures in
    let said = subst (λ (d : Overlay). IsPlannedBy setup (members_of d) (members_of c.plan_all.new.overlay) inside.clock inside.entries list planning.entries planning.slots planning.clock) c.new-overlay.ensures planned in
    continues (record { config = inside.config; shards = inside.shards; list = inside.listing; ready = ready }) roll list made c.self.invariant.4 elements c.self.invariant.3 said.listed can after

pub returns-clause-slots : goal.returns-clause-slots
returns-clause-slots g c =
    let inside = c.self.inside in
    let setup : Setup = placed_by inside.config inside.shards (g.P.Placing.place_of c.args.placing.now) in
    let list : List Listed = request c.args.moment c.args.nonce c.args.messages.now in
    let planning = c.in_ok-planning.planning in
    let planned = subst (λ (d : Overlay). IsPlannedBy setup (members_of d) (members_of c.plan_all.new.overlay) inside.clock inside.entries list planning.entries planning.slots planning.clock) c.new-overlay.ensures
    c.in_ok-planning.ensures.planned in
    let elements : c.post.new.self ≡ list = c.post.ensures ∙ ap (λ (l : List Listed). l ++ list) c.new-elements.ensures in
    planned.answers ∙ ap (λ (r : Roll). slots_in setup (found r list)) c.self.invariant.4 ∙ slots_given setup inside.listing list ∙ ap (admitted_slots setup inside.listing) (sym elements)
    ∙ ap (λ (s : Standing). admitted_slots (placed_by s.config s.shards (g.P.Placing.place_of c.args.placing.now)) s.list c.post.new.self) c.self.view_is
