use Rattle.bx_theory.proofs.Riding.{only_subscriptions_and_publishes_ride}
use Rattle.bx_laws.proofs.laws.only_subscriptions_and_publishes_ride.Goals as goal

pub returns : goal.returns
returns c = only_subscriptions_and_publishes_ride
