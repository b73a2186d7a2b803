use Rattle.bx_transport.proofs.Scripts.{cut_here, goes_on}
use Rattle.bx_transport.proofs.response.cut_at_separator.Goals as goal

pub returns-in-Some-clause-value : goal.returns-in-Some-clause-value
returns-in-Some-clause-value c = cut_here c.args.text.now c.in-Some.escape.now c.loop-at.at c.loop-at.invariant c.in-Some.ensures.value

pub loop-at-preserved : goal.loop-at-preserved
loop-at-preserved c = goes_on c.args.text.now c.loop-at.at c.loop-at-test.true c.loop-at.invariant c.in_default.ensures.value
