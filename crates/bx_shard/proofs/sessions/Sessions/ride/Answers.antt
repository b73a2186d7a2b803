use Rattle.std.proofs.Common.{rules}
use Rattle.bx_connects.specs.Connects.{connect_at}
use Rattle.bx_shard.specs.Sessions.{kept_in}
use Rattle.bx_shard.proofs.Riding.{ridden_held}
use Rattle.bx_shard.proofs.sessions.Sessions.ride.Goals as goal

pub returns-in-Some-clause-held : goal.returns-in-Some-clause-held
returns-in-Some-clause-held c = λ held.
    ridden_held c.args.self.now.config c.args.place c.args.number c.ride-events.result.items (connect_at c.args.self.now.connects) (connect_at c.set_events.new.self) (kept_in c.args.self.now) _ held
    c.set_events.ensures (search rules)
