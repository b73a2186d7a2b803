use Rattle.futures.specs.Task.{Keeps}
use Rattle.bare_hyper.proofs.answer.BareExchangeFuture.poll.Given as goal

abbrev pub invariant-loop : goal.invariant-loop
invariant-loop g l = g.B.Body.can_poll l.self.body × Keeps l.initial.cx l.cx
