use Rattle.std.proofs.Common.{rules, ◌≡◌, take, ◌∙◌}
use Rattle.std.specs.VecDeque.Iter.{deque_iter_rest}
use Rattle.bx_batches.proofs.Parts.{first_events}
use Rattle.bx_batches.proofs.window.Window.outstanding_batch.Goals as goal

pub returns-clause-events : goal.returns-clause-events
returns-clause-events c =
    let part : deque_iter_rest c.range.result ≡ take c.self.inside.out c.self.inside.events.items = search rules in
    part ∙ first_events c.self.inside.out c.self.inside.queue c.self.inside.events.items c.self.invariant.0 ∙ (search rules)
