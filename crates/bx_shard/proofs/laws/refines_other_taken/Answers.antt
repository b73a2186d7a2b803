use Rattle.bx_shard.proofs.Taking.{refines_other_taken}
use Rattle.bx_shard.proofs.laws.refines_other_taken.Goals as goal

pub returns : goal.returns
returns c = refines_other_taken
