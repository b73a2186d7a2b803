use Rattle.bx_world.proofs.Giving.{no_event_given_again}
use Rattle.bx_world.proofs.laws.no_event_given_again.Goals as goal

pub returns : goal.returns
returns c = no_event_given_again
