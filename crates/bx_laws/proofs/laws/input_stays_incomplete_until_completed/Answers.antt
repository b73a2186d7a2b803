use Rattle.bx_theory.proofs.Opens.{input_stays_incomplete_until_completed}
use Rattle.bx_laws.proofs.laws.input_stays_incomplete_until_completed.Goals as goal

pub returns : goal.returns
returns c = input_stays_incomplete_until_completed
