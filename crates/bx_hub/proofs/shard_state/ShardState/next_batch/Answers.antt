use Rattle.std.proofs.Common.{◌≤◌, length, subst, arith}
use Rattle.bx_window.specs.Answers.{IsRight}
use Rattle.bx_window.specs.Steps.{list_of}
use Rattle.bx_hub.proofs.Held.{learnt_by, not_level, stands_in, stands_seen}
use Rattle.bx_hub.proofs.shard_state.ShardState.next_batch.Goals as goal

pub unreachable-requires : goal.unreachable-requires
unreachable-requires g c =
    let d = c.args.self.now in
    let seen = c.next.new.self in
    let right = subst (λ n. IsRight g.L.LogId.config seen c.place-place.result n) c.in-Ok-Level.field-0-is c.in-Ok-Level.ensures.right in
    let level : length (list_of seen) ≤ d.shard.place = omega (arith, right, c.place-place.ensures.place) in
    not_level seen (stands_in d) c.in-Ok-Level.ensures.grows c.requires level

pub invariant_of-self : goal.invariant_of-self
invariant_of-self g c =
    let t = stands_seen c.next.new.self (stands_in c.args.self.now) c.next.ensures.grows in
    record { learnt = learnt_by t; within = t.within; holds = t.holds }
