use Rattle.bx_theory.proofs.Fronts.{acknowledged_events_are_not_given_again}
use Rattle.bx_laws.proofs.laws.acknowledged_events_are_not_given_again.Goals as goal

pub returns : goal.returns
returns c = acknowledged_events_are_not_given_again
