use Rattle.bx_theory.proofs.Sole.{incomplete_input_is_one_held_connect}
use Rattle.bx_laws.proofs.laws.incomplete_input_is_one_held_connect.Goals as goal

pub returns : goal.returns
returns c = incomplete_input_is_one_held_connect
