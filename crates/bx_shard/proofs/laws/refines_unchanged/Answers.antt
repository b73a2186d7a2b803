use Rattle.bx_shard.proofs.Holding.{refines_unchanged}
use Rattle.bx_shard.proofs.laws.refines_unchanged.Goals as goal

pub returns : goal.returns
returns c = refines_unchanged
