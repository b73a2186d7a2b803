use Rattle.bx_shard.proofs.Waking.{refines_shut}
use Rattle.bx_shard.proofs.laws.refines_shut.Goals as goal

pub returns : goal.returns
returns c = refines_shut
