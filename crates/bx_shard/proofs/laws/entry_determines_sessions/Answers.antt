use Rattle.bx_shard.proofs.Stepping.{entry_determines_sessions}
use Rattle.bx_shard.proofs.laws.entry_determines_sessions.Goals as goal

pub returns : goal.returns
returns c = entry_determines_sessions
