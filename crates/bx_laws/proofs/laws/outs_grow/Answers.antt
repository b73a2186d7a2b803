use Rattle.bx_theory.proofs.Wholes.{outs_grow}
use Rattle.bx_laws.proofs.laws.outs_grow.Goals as goal

pub returns : goal.returns
returns c = outs_grow
