use Rattle.bx_theory.proofs.Batches.{batch_repeats}
use Rattle.bx_laws.proofs.laws.batch_repeats.Goals as goal

pub returns : goal.returns
returns c = batch_repeats
