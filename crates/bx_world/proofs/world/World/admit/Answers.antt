use Rattle.std.proofs.Common.{◌≡◌, ◌+◌, length, refl, sym, ap, ◌∙◌}
use Rattle.std.specs.Prelude.{Ok}
use Rattle.bx_entry.specs.Inputs.{ReadInput, Request, added_by, refused_beyond}
use Rattle.bx_entry.specs.Listing.{request}
use Rattle.bx_entry.specs.Placings.{placed_by}
use Rattle.bx_entry.specs.Words.{read_by, read_input, refusal_of}
use Rattle.bx_entry.specs.declared.input.Input.TheVariants.{Post}
use Rattle.bx_registry.specs.Slots.{admitted_slots}
use Rattle.bx_registry.proofs.Faults.{planned_taken}
use Rattle.bx_world.proofs.Growing.{from_start, planned}
use Rattle.bx_world.proofs.world.World.admit.Goals as goal

pub returns : goal.returns
returns g c =
    let w = c.args.self.now in
    let a = c.args.arrival.now in
    let ok = c.in_ok-plan.ensures in
    let plan = c.in_ok-plan.plan in
    let read : read_input (Post a) ≡ Request a.moment a.nonce c.in_ok-messages.messages.items = ap (read_by a.moment a.nonce) c.in_ok-messages.ensures.messages in
    from_start w c.plan.new.self _ _ _ _ ok.same refl refl (c.append.ensures (Post a) (planned w c.plan.new.self plan (Post a) ok.same
    (ap (refusal_of (length w.registry.list)) read ∙ ap (λ ms. refused_beyond a.moment (length w.registry.list + length ms)) (sym c.deref-2.ensures.value) ∙ planned_taken _ (Ok plan) plan refl ok.refused)
    (ok.elements ∙ ap (request a.moment a.nonce) c.deref-2.ensures.value ∙ ap added_by (sym read))
    (ok.slots ∙ ap (λ p. admitted_slots (placed_by w.registry.config w.registry.shards (g.P.Placing.place_of p)) w.registry.list plan.elements) c.deref.ensures)))
