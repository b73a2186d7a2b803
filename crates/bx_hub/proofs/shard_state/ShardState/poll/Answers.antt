use Rattle.std.proofs.Common.{arith}
use Rattle.bx_hub.proofs.Held.{over_longer}
use Rattle.bx_hub.proofs.shard_state.ShardState.poll.Goals as goal

pub returns-in-Some-take_filed-clause-answer : goal.returns-in-Some-take_filed-clause-answer
returns-in-Some-take_filed-clause-answer g c = over_longer g.L.LogId.config c.advance.new.self.prefix c.front.result c.args.ticket.place c.in-Some-take_filed.filed (omega (arith, g.L.LogId.config.limits.some_batch)) c.front.ensures.longer c.in-Some-take_filed.ensures.answer
