use Rattle.std.proofs.Common.{ap, sym, ◌∙◌, arith, List, length, filter}
use Rattle.std.proofs.lemmas.{List.Filters.dedup_is, List.Sums.length-filter, Result.on_ok_weaker}
use Rattle.bx_fanout.specs.HeldInputs.{Row, waits}
use Rattle.bx_fanout.proofs.Giving.{all-wait, marked-turned, marks-in-order}
use Rattle.bx_fanout.proofs.held_inputs.HeldInputs.give.Goals as goal

pub give_from-requires-clause-marked : goal.give_from-requires-clause-marked
give_from-requires-clause-marked c =
    marks-in-order c.self.inside.held.entries c.self.inside.answered.items _ _ _ c.self.invariant.ordered c.self.invariant.marked
    c.sort_unstable.ensures.permutation c.sort_unstable.ensures.sorted (dedup_is _ _ _ c.dedup.ensures.filtered) c.reverse.ensures.items

pub invariant_of-self : goal.invariant_of-self
invariant_of-self c = record {
  ordered = c.give_from.ensures.ordered;
  marked = marked-turned c.give_from.new.held.entries c.give_from.new.answered.items c.give_from.ensures.marked;
  room =
      let now = length-filter waits c.give_from.new.held.entries in
      let before = length-filter waits c.self.inside.held.entries in
      let same = ap (λ (rows : List Row). length rows) c.give_from.ensures.gives.others in
      omega (arith, c.self.invariant.room, c.sort_unstable.ensures.len, c.dedup.ensures.bound, c.dedup.ensures.capacity, c.sort_unstable.ensures.capacity, c.reverse.ensures.len, c.reverse.ensures.capacity, c.give_from.ensures.fewer, c.give_from.ensures.capacity);
}

pub returns-clause-all : goal.returns-clause-all
returns-clause-all c =
    on_ok_weaker c.give_from.result
    (λ none. sym (all-wait c.give_from.new.held.entries none) ∙ c.give_from.ensures.gives.others ∙ ap (λ (rows : List Row). filter waits rows) c.self.view_is)
    c.give_from.ensures.all
