use Rattle.bx_shard.proofs.Waking.{refines_watched}
use Rattle.bx_shard.proofs.laws.refines_watched.Goals as goal

pub returns : goal.returns
returns c = refines_watched
