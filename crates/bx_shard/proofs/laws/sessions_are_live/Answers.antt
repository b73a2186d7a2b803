use Rattle.bx_shard.proofs.Holdings.{holds_reached}
use Rattle.bx_shard.proofs.laws.sessions_are_live.Goals as goal

pub returns : goal.returns
returns c = holds_reached
