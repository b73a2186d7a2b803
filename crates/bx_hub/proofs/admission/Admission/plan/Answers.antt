use Rattle.bx_window.specs.Steps.{list_of, setup_of}
use Rattle.bx_hub.proofs.Posts.{slots_planned, tick_planned}
use Rattle.bx_hub.proofs.admission.Admission.plan.Goals as goal

pub returns-in-Request-clause-slots : goal.returns-in-Request-clause-slots
returns-in-Request-clause-slots g c =
    let d = c.args.self.now in
    slots_planned g.L.LogId.config g.L.LogId.placing (g.P.Placing.place_of c.args.placing.now) d.registry (list_of d.writer) c.plan.result d.config d.counted c.requires.placing d.listed c.plan.ensures.slots

pub returns-in-Tick-clause-slots : goal.returns-in-Tick-clause-slots
returns-in-Tick-clause-slots g c =
    tick_planned (setup_of g.L.LogId.config g.L.LogId.placing) (list_of c.args.self.now.writer) _ c.plan_tick.result
    c.plan_tick.ensures.elements c.plan_tick.ensures.slots
