use Rattle.bx_theory.proofs.Opens.{incomplete_inputs_are_reported_held}
use Rattle.bx_laws.proofs.laws.incomplete_inputs_are_reported_held.Goals as goal

pub returns : goal.returns
returns c = incomplete_inputs_are_reported_held
