use Rattle.bx_theory.proofs.Once.{given_once}
use Rattle.bx_laws.proofs.laws.given_once.Goals as goal

pub returns : goal.returns
returns c = given_once
