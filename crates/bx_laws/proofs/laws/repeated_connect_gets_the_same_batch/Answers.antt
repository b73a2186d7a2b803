use Rattle.bx_theory.proofs.Fronts.{repeated_connect_gets_the_same_batch}
use Rattle.bx_laws.proofs.laws.repeated_connect_gets_the_same_batch.Goals as goal

pub returns : goal.returns
returns c = repeated_connect_gets_the_same_batch
