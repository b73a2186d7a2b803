use Rattle.std.proofs.Common.{◌≡◌, refl, ◌∙◌}
use Rattle.bx_window.specs.Steps.{before}
use Rattle.bx_window.proofs.Rings.{firsts_less, ends_less}
use Rattle.bx_window.proofs.ring.Ring.trim.Goals as goal

pub invariant_of-self : goal.invariant_of-self
invariant_of-self g c =
    let old = c.args.self.now in
    let next = c.args.trimmed.now in
    let same : before next.front ≡ old.front = c.if-follows.ensures.next refl in
    record {
      firsts = rw (c.drop_first.ensures.items, c.again.ensures) (firsts_less (λ k. k.first) old.batches.items next.count old.front next.front old.firsts same next.trimmed);
      ends = rw (c.drop_first.ensures.items, c.again.ensures) (ends_less (λ k. k.end) old.batches.items next.count old.front next.front old.ends same next.trimmed);
      capacity = c.drop_first.ensures.capacity ∙ old.capacity;
    }
