use Rattle.bx_shard.proofs.Holding.{refines_when_new}
use Rattle.bx_shard.proofs.laws.refines_when_new.Goals as goal

pub returns : goal.returns
returns c = refines_when_new
