use Rattle.bx_theory.proofs.Counts.{queue_batch_and_counts_agree}
use Rattle.bx_laws.proofs.laws.queue_batch_and_counts_agree.Goals as goal

pub returns : goal.returns
returns c = queue_batch_and_counts_agree
