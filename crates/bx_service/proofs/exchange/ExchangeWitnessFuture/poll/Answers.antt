use Rattle.std.proofs.Common.{rules}
use Rattle.std.specs.Arc.{arc_value}
use Rattle.bx_service.specs.Exchanges.{MayAnswer, kept_in}
use Rattle.bx_service.proofs.ExchangeLemmas.{some_kept}
use Rattle.bx_service.proofs.exchange.ExchangeWitnessFuture.poll.Goals as goal

pub returns-clause-value : goal.returns-clause-value
returns-clause-value g c =
    some_kept c.match-poll_admitted.polled c.args.self.now.backend
    (λ handle kept sent. MayAnswer (g.S.Backend.answers (arc_value handle)) (g.S.Backend.rejects (arc_value handle)) g.I.Future.gives g.D.Buf.unread
    g.B.Body.yields c.args.self.now.state kept sent)
    (kept_in c.if-is_pending.self.state) (search rules)
