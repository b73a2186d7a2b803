use Rattle.bx_laws.proofs.EventOrder.{answers_in_order, events_in_one_order}
use Rattle.bx_laws.proofs.laws.sessions_get_events_in_one_order.Goals as goal

pub returns-clause-events : goal.returns-clause-events
returns-clause-events c = events_in_one_order

pub returns-clause-answers : goal.returns-clause-answers
returns-clause-answers c = answers_in_order
