use Rattle.bx_theory.proofs.Dues.{clock_is_greatest_moment}
use Rattle.bx_laws.proofs.laws.clock_is_greatest_moment.Goals as goal

pub returns : goal.returns
returns c = clock_is_greatest_moment
