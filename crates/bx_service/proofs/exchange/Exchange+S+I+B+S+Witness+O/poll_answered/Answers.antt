use Rattle.bx_service.proofs.exchange.Exchange+S+I+B+S+Witness+O.poll_answered.Goals as goal

pub returns-in-Pending-clause-same : goal.returns-in-Pending-clause-same
returns-in-Pending-clause-same g c = rw c.in-Held.is (λ backend kept sent given. (given.0, (c.in-Pending.ensures.same given.0 given.1.0, given.1.1)))
