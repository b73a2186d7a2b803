use Rattle.bx_theory.proofs.Riding.{when_a_message_is_a_rider}
use Rattle.bx_laws.proofs.laws.when_a_message_is_a_rider.Goals as goal

pub returns : goal.returns
returns c = when_a_message_is_a_rider
