use Rattle.std.proofs.Common.{rules}
use Rattle.bx_shard.specs.Words.{Followed, IsSound, opens_in, setup_in, state}
use Rattle.bx_shard.proofs.{Applying.applied, Applying.still_fresh, Counting.formed_few}
use Rattle.bx_shard.proofs.shard.Shard.apply.Goals as goal

pub invariant_of-self-2 : goal.invariant_of-self-2
invariant_of-self-2 g c =
    let old = c.args.self.now in
    let e = c.args.entry.now in
    let new = c.follow.new.self in
    let followed : Followed (opens_in (setup_in g.P.Placing.place_of old) old.index e.kind) e old.sessions new = search rules in
    let sound : IsSound (state g.P.Placing.place_of old) = record {
      tied = record { patterns = old.counted; holds = old.held };
      fresh = old.fresh;
    } in
    record {
      some_shard = old.some_shard;
      shards_in_range = old.shards_in_range;
      counted = c.follow.ensures.counted;
      held = c.follow.ensures.held;
      batches = formed_few _ e old.place old.sessions new followed.sessions old.batches;
      fresh = still_fresh old.shards _ old.index old.is_closed_to_wakers old.place e old.sessions new c.requires.next sound followed;
    }

pub returns-clause-done : goal.returns-clause-done
returns-clause-done g c =
    let old = c.args.self.now in
    let e = c.args.entry.now in
    let new = c.follow.new.self in
    let followed : Followed (opens_in (setup_in g.P.Placing.place_of old) old.index e.kind) e old.sessions new = search rules in
    applied old.shards _ old.index old.is_closed_to_wakers old.place e old.sessions new c.requires.next followed
