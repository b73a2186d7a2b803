use Rattle.bx_theory.proofs.Keeps.{queue_bounded}
use Rattle.bx_laws.proofs.laws.queue_bounded.Goals as goal

pub returns : goal.returns
returns c = queue_bounded
