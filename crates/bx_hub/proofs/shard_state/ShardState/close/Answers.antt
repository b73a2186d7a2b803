use Rattle.bx_shard.specs.Seen.{state}
use Rattle.bx_hub.proofs.Held.{learnt_by, stands_in, stands_shut}
use Rattle.bx_hub.proofs.shard_state.ShardState.close.Goals as goal

pub invariant_of-self : goal.invariant_of-self
invariant_of-self g c =
    let t = stands_shut (state g.P.Placing.place_of c.shut.new.self) (stands_in c.args.self.now) c.shut.ensures.shut c.shut.ensures.sound in
    record { learnt = learnt_by t; within = t.within; holds = t.holds }
