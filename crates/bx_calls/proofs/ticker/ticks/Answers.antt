use Rattle.bx_calls.proofs.Ticks.{ticks_more, entries_more}
use Rattle.bx_calls.proofs.ticker.ticks.Goals as goal

pub loop-step-preserved : goal.loop-step-preserved
loop-step-preserved c = (
  rw (c.in_ok-push.ensures.ok, c.loop-step.invariant.0, c.new.ensures) (entries_more c.args.first c.loop-step.step),
  rw (c.tick.ensures, c.loop-step.invariant.1) (ticks_more c.loop-step.step),
)
