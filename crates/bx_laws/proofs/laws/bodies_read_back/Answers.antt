use Rattle.bx_laws.proofs.ReadBack.{bodies}
use Rattle.bx_laws.proofs.laws.bodies_read_back.Goals as goal

pub returns : goal.returns
returns c = bodies
