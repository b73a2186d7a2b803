use Rattle.bx_window.specs.Steps.{setup_of}
use Rattle.bx_cut.specs.Bodies.{texts_of}
use Rattle.bx_service.specs.Gatherings.{request_of}
use Rattle.bx_service.proofs.Tickets.{slots_below}
use Rattle.bx_service.proofs.backend.HubBackendBackend.admit.Goals as goal

pub new-requires : goal.new-requires
new-requires g c =
    let config = g.L.LogId.config in
    slots_below (setup_of config g.L.LogId.placing) (request_of c.in-Ok-Ok.access (record { moment = c.now.result; nonce = c.next.result }) (texts_of c.args.bodies))
    c.in-Ok.posted.first c.pass-pass.result c.post.new.pass c.in-Ok.posted.slots
    c.in-Ok.ensures.admitted c.in-Ok.ensures.slots
