use Rattle.std.proofs.Common.{◌≡◌, ◌≤◌, ◌-◌}
use Rattle.bx_connects.specs.Waking.{AreWoken}
use Rattle.bx_shard.specs.Words.{state, connect_in}
use Rattle.bx_hub.proofs.shard_state.ShardState.apply_batch.Given as goal

abbrev pub invariant-loop-place : goal.invariant-loop-place
invariant-loop-place g l =
    (l.self.prefix ≡ l.initial.self.prefix) × (l.self.reader ≡ l.initial.self.reader) × (l.self.shard.index ≡ l.initial.self.shard.index)
    × (l.self.taken ≡ l.initial.self.taken) × (l.self.activity ≡ l.initial.self.activity)
    × (l.place ≡ l.self.shard.place) × (l.first ≤ l.place) × (l.place ≤ l.last)
    × AreWoken (connect_in (state g.P.Placing.place_of l.initial.self.shard)) (connect_in (state g.P.Placing.place_of l.self.shard)) l.initial.wakers l.wakers

abbrev pub decreases-loop-place : goal.decreases-loop-place
decreases-loop-place g l = l.last - l.place
