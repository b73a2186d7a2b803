use Rattle.bx_shard.proofs.Holding.{refines_longer_list}
use Rattle.bx_shard.proofs.laws.refines_longer_list.Goals as goal

pub returns : goal.returns
returns c = refines_longer_list
