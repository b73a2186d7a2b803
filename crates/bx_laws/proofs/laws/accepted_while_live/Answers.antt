use Rattle.bx_theory.proofs.Senders.{accepted_while_live}
use Rattle.bx_laws.proofs.laws.accepted_while_live.Goals as goal

pub returns : goal.returns
returns c = accepted_while_live
