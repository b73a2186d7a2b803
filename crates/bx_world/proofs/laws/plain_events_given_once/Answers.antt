use Rattle.bx_world.proofs.Apart.{plain_events_given_once}
use Rattle.bx_world.proofs.laws.plain_events_given_once.Goals as goal

pub returns : goal.returns
returns c = plain_events_given_once
