use Rattle.bx_theory.proofs.Riders.{no_riders_without_option}
use Rattle.bx_laws.proofs.laws.no_riders_without_option.Goals as goal

pub returns : goal.returns
returns c = no_riders_without_option
