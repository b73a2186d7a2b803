use Rattle.std.proofs.Common.{◌≡◌, ◌∙◌, refl, None}
use Rattle.bx_connects.specs.Connects.{connect_at}
use Rattle.bx_shard.specs.Sessions.{held_until}
use Rattle.bx_shard.proofs.Waking.{at_each, watched_held, watched_none}
use Rattle.bx_shard.proofs.shard.Shard.watch.Goals as goal

pub invariant_of-self : goal.invariant_of-self
invariant_of-self g c =
    let old = c.args.self.now in
    let before = connect_at old.sessions.connects in
    let after = connect_at c.watch.new.self in
    record {
      some_shard = old.some_shard;
      shards_in_range = old.shards_in_range;
      counted = old.counted;
      held = λ place n.
          at_each (λ o q. held_until q n ≡ held_until o n) old.is_closed_to_wakers c.args.ticket.place c.args.waker before after c.watch.ensures.stored
          (λ o. refl) (λ o. watched_held old.is_closed_to_wakers c.args.waker o n) place
          ∙ old.held place n;
      batches = old.batches;
      fresh = λ p l.
          at_each (λ o q. o ≡ None → q ≡ None) old.is_closed_to_wakers c.args.ticket.place c.args.waker before after c.watch.ensures.stored
          (λ o e. e) (λ o e. watched_none old.is_closed_to_wakers c.args.waker o e) p (old.fresh p l);
    }
