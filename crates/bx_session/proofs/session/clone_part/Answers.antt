use Rattle.std.proofs.Common.{◌∙◌}
use Rattle.std.proofs.lemmas.{Iterator.YieldsList-from_take, Iterator.Adapters.YieldsList-from_skip, Iterator.Consumers.YieldsList-end, Iterator.Consumers.YieldsList-from_deque}
use Rattle.std.specs.VecDeque.Iter.{deque_iter_rest}
use Rattle.bx_session.proofs.session.clone_part.Goals as goal

pub returns : goal.returns
returns c =
    let all = YieldsList-end (YieldsList-from_take c.args.count (YieldsList-from_skip c.args.skipped (YieldsList-from_deque (deque_iter_rest c.args.events) cc) cc) cc)
    c.loop-event.yielded _ c.loop-event.yielded_by _ _ c.in-None.is c.next.ensures.steps in
    c.loop-event.invariant ∙ all.0
