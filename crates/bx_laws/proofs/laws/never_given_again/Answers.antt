use Rattle.bx_theory.proofs.Runs.{never_given_again}
use Rattle.bx_laws.proofs.laws.never_given_again.Goals as goal

pub returns : goal.returns
returns c = never_given_again
