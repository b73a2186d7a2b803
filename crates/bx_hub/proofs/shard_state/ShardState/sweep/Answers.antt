use Rattle.std.proofs.Common.{◌++◌, ◌∙◌, ℕ, List, ap}
use Rattle.bx_shard.specs.Seen.{state}
use Rattle.bx_hub.proofs.Held.{learnt_by, stands_in, stands_swept}
use Rattle.bx_hub.proofs.shard_state.ShardState.sweep.Goals as goal

pub invariant_of-self : goal.invariant_of-self
invariant_of-self g c =
    let d = c.args.self.now in
    let taken = c.join.ensures ∙ ap (λ (l : List ℕ). d.taken ++ l) c.of-places.ensures in
    let t = stands_swept c.args.before (state g.P.Placing.place_of c.sweep.new.self) (stands_in d) c.sweep.ensures.swept c.sweep.ensures.sound taken in
    record { learnt = learnt_by t; within = t.within; holds = t.holds }
