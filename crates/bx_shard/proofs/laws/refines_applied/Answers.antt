use Rattle.bx_shard.proofs.Onwards.{refines_applied}
use Rattle.bx_shard.proofs.laws.refines_applied.Goals as goal

pub returns : goal.returns
returns c = refines_applied
