use Rattle.bx_shard.proofs.Sweeping.{refines_other_swept}
use Rattle.bx_shard.proofs.laws.refines_other_swept.Goals as goal

pub returns : goal.returns
returns c = refines_other_swept
