use Rattle.std.proofs.Common.{option_map, string_bytes}
use Rattle.bx_cut.specs.Bodies.{texts_of}
use Rattle.bx_service.proofs.ExchangeLemmas.{for_future}
use Rattle.bx_service.proofs.exchange.Exchange+S+I+B+S+Witness+O.admitted.Goals as goal

pub returns-in-Ok-clause-value : goal.returns-in-Ok-clause-value
returns-in-Ok-clause-value g c = λ kept sent.
    for_future (g.S.Backend.answers c.args.backend.now) (g.S.Backend.rejects c.args.backend.now) (option_map string_bytes c.args.callback) (texts_of c.args.bodies) kept sent
    g.I.Future.gives c.in-Ok.items c.in-Ok.ensures.admitted
