use Rattle.bx_theory.proofs.Ascending.{held_inputs_are_in_order}
use Rattle.bx_laws.proofs.laws.held_inputs_are_in_order.Goals as goal

pub returns : goal.returns
returns c = held_inputs_are_in_order
