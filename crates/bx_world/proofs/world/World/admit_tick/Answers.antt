use Rattle.std.proofs.Common.{◌≡◌, refl, sym, ap, ◌∙◌}
use Rattle.std.specs.Prelude.{Ok}
use Rattle.bx_entry.specs.declared.input.Input.TheVariants.{Tick}
use Rattle.bx_registry.specs.Standings.{Standing}
use Rattle.bx_registry.specs.Slots.{admitted_slots}
use Rattle.bx_registry.proofs.Slotting.{tick_slots}
use Rattle.bx_registry.proofs.Faults.{planned_taken}
use Rattle.bx_world.specs.Words.{setup_of}
use Rattle.bx_world.proofs.Growing.{from_start, planned}
use Rattle.bx_world.proofs.world.World.admit_tick.Goals as goal

pub returns-clause-step : goal.returns-clause-step
returns-clause-step g c =
    let w = c.args.self.now in
    let ok = c.in_ok-plan.ensures in
    let plan = c.in_ok-plan.plan in
    let same : c.plan_tick.new.self ≡ record w.registry { ready = c.plan_tick.new.self.ready } = ok.same ∙ ap (λ (r : Standing). record w.registry { ready = r.ready }) (sym ok.same) in
    from_start w c.plan_tick.new.self _ _ _ _ same refl refl (c.append.ensures (Tick c.args.moment) (planned w c.plan_tick.new.self plan (Tick c.args.moment) same
    (planned_taken _ (Ok plan) plan refl ok.refused) ok.elements (ok.slots ∙ sym (tick_slots (setup_of w) w.registry.list c.args.moment) ∙ ap (admitted_slots (setup_of w) w.registry.list) (sym ok.elements))))
