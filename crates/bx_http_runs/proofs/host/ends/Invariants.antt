use Rattle.bx_http_runs.proofs.host.ends.Given as goal

abbrev pub invariant-loop : goal.invariant-loop
invariant-loop g l = g.F.Future.can_poll l.future
