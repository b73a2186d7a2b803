use Rattle.std.proofs.Common.{◌≡◌}
use Rattle.bx_calls.specs.Ticks.{ticks, tick_entries}
use Rattle.bx_calls.proofs.ticker.ticks.Given as goal

abbrev pub invariant-loop-step : goal.invariant-loop-step
invariant-loop-step l = (l.entries ≡ tick_entries l.first l.step) × (l.elements ≡ ticks l.step)
