use Rattle.bx_hub.proofs.Held.{stands_in}
use Rattle.bx_hub.proofs.shard_state.ShardState.place.Goals as goal

pub returns-clause-stands : goal.returns-clause-stands
returns-clause-stands g c = stands_in c.args.self.now
