use Rattle.std.proofs.Common.{◌≡◌, ◌≤◌, ◌-◌}
use Rattle.bx_connects.specs.Waking.{AreWoken}
use Rattle.bx_shard.specs.Words.{state, connect_in}
use Rattle.bx_hub.proofs.shard_state.ShardState.go_on.Given as goal

abbrev pub invariant-loop-alloc : goal.invariant-loop-alloc
invariant-loop-alloc g l = (l.self.prefix ≡ l.initial.self.prefix) × (l.self.shard.place ≤ l.end) × (l.self.shard.index ≡ l.initial.self.shard.index)
    × (l.self.taken ≡ l.initial.self.taken) × (l.self.activity ≡ l.initial.self.activity)
    × AreWoken (connect_in (state g.P.Placing.place_of l.initial.self.shard)) (connect_in (state g.P.Placing.place_of l.self.shard)) l.initial.wakers l.wakers

abbrev pub decreases-loop-alloc : goal.decreases-loop-alloc
decreases-loop-alloc g l = l.end - l.self.shard.place
