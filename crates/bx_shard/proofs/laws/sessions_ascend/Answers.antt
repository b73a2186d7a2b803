use Rattle.bx_shard.proofs.Holdings.{sessions_ascend}
use Rattle.bx_shard.proofs.laws.sessions_ascend.Goals as goal

pub returns : goal.returns
returns c = sessions_ascend
