use Rattle.bx_theory.proofs.Riding.{rider_given}
use Rattle.bx_laws.proofs.laws.rider_given.Goals as goal

pub returns : goal.returns
returns c = rider_given
