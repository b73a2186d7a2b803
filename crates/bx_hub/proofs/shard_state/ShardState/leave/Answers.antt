use Rattle.std.proofs.Common.{Bool, nat_eq, ap}
use Rattle.bx_shard.specs.Seen.{state}
use Rattle.bx_hub.proofs.Held.{learnt_by, stands_in, stands_watched}
use Rattle.bx_hub.proofs.shard_state.ShardState.leave.Goals as goal

pub invariant_of-self : goal.invariant_of-self
invariant_of-self g c =
    let d = c.args.self.now in
    let own : Bool = nat_eq c.args.ticket.shard d.shard.index in
    let new = state g.P.Placing.place_of c.watch.new.self in
    let t = stands_watched c.args.ticket.place c.args.waker new own (stands_in d) c.watch.ensures.own (λ e. ap (λ s. state g.P.Placing.place_of s) (c.watch.ensures.other e).1) c.watch.ensures.sound in
    record { learnt = learnt_by t; within = t.within; holds = t.holds }
