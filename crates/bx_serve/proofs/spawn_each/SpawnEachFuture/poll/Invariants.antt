use Rattle.futures.specs.Task.{Keeps}
use Rattle.futures.specs.Runs.{AllItems}
use Rattle.bx_serve.proofs.spawn_each.SpawnEachFuture.poll.Given as goal

abbrev pub invariant-loop : goal.invariant-loop
invariant-loop g l =
    g.S.Stream.can_poll l.self.futures × AllItems (g.S.Stream.yields l.self.futures) g.F.Future.can_poll × Keeps l.initial.cx l.cx
