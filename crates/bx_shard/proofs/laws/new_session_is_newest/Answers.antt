use Rattle.bx_shard.proofs.Holdings.{new_session_is_newest}
use Rattle.bx_shard.proofs.laws.new_session_is_newest.Goals as goal

pub returns : goal.returns
returns c = new_session_is_newest
