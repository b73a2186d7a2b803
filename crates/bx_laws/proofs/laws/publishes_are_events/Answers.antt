use Rattle.bx_theory.proofs.Gained.{publishes_are_events}
use Rattle.bx_laws.proofs.laws.publishes_are_events.Goals as goal

pub returns : goal.returns
returns c = publishes_are_events
