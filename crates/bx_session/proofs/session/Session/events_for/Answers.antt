use Rattle.std.proofs.Common.{rules, ◌≡◌, IfOk, List, subst}
use Rattle.std.specs.VecDeque.Iter.{deque_iter_rest}
use Rattle.bx_message.specs.declared.event.Event.{Event}
use Rattle.bx_entry.specs.Words.{events_of, resumed}
use Rattle.bx_entry.specs.Sessions.{Publication, acknowledged, given}
use Rattle.bx_session.proofs.ConnectLemmas.{part_events}
use Rattle.bx_session.proofs.session.Session.events_for.Goals as goal

pub returns-clause-events : goal.returns-clause-events
returns-clause-events c =
    let queue : List Publication = c.args.self.now.kept.queue in
    let ahead = c.look_ahead-done.result in
    let all : deque_iter_rest c.events.result ≡ events_of queue = search rules in
    subst (λ (es : List Event). IfOk c.clone_part.result (λ events. events.items ≡ es))
    (part_events ahead.0 ahead.1 queue (given c.args.config.now (acknowledged c.args.acked (resumed c.args.self.now.kept))) (deque_iter_rest c.events.result) all c.look_ahead-done.ensures.part)
    c.clone_part.ensures
