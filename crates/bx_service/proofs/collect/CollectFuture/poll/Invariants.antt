use Rattle.std.proofs.Common.{◌≡◌}
use Rattle.futures.specs.Task.{Keeps}
use Rattle.bx_service.specs.Bodies.{Gives}
use Rattle.bx_service.proofs.collect.CollectFuture.poll.Given as goal

abbrev pub invariant-loop : goal.invariant-loop
invariant-loop g l =
    g.B.Body.can_poll l.self.body × Keeps l.initial.cx l.cx × (l.self.limit ≡ l.initial.self.limit)
    × ((r : _) → Gives g.D.Buf.unread (g.B.Body.yields l.self.body) l.self.limit l.self.bytes.items r
    → Gives g.D.Buf.unread (g.B.Body.yields l.initial.self.body) l.initial.self.limit l.initial.self.bytes.items r)
