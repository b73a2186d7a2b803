use Rattle.std.proofs.Common.{◌≡◌, ◌<◌, ◌∷◌, [], ◌++◌, refl, ap, sym, ◌∙◌, subst, length}
use Rattle.std.specs.Arc.{arc_value}
use Rattle.bx_window.specs.Steps.{before, firsts_of, IsNewest}
use Rattle.bx_window.proofs.Rings.{room_left, firsts_more, ends_more, kept_ring}
use Rattle.bx_window.proofs.ring.Ring.add.Goals as goal

pub invariant_of-self : goal.invariant_of-self
invariant_of-self g c =
    let old = c.args.self.now in
    let next = c.args.published.now in
    let first = (arc_value next.batch).first in
    let new = c.of.result in
    let same : before next.front ≡ old.front = c.if-follows.ensures.next refl in
    let room : length (firsts_of old.front) < 4096 = room_left old.front next.front first same next.newest in
    let more = kept_ring (λ k. k.first) old.batches.items old.batches.capacity new old.front old.firsts old.capacity room in
    let items : c.push_back.new.self.items ≡ old.batches.items ++ new ∷ [] = ap (λ b. b.items) c.push_back.ensures.items ∙ more in
    let newest : IsNewest next.front new.first = subst (λ n. IsNewest next.front n) (sym c.of.ensures.first) next.newest in
    record {
      firsts = rw (items, c.again.ensures) (firsts_more (λ k. k.first) old.batches.items new old.front next.front old.firsts same newest);
      ends = rw (items, c.again.ensures) (ends_more (λ k. k.end) old.batches.items new first old.front next.front old.ends same next.newest c.of.ensures.end);
      capacity = ap (λ b. b.capacity) c.push_back.ensures.items ∙ old.capacity;
    }
