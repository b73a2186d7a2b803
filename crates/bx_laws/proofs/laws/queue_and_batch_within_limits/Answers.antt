use Rattle.bx_theory.proofs.Kept.{queue_and_batch_within_limits}
use Rattle.bx_laws.proofs.laws.queue_and_batch_within_limits.Goals as goal

pub returns : goal.returns
returns c = queue_and_batch_within_limits
