use Rattle.std.proofs.Common.{◌≡◌, ◌≤◌, ◌+◌, ℕ, Some, true, length, slice_get, sym, subst, arith}
use Rattle.bx_world.specs.Words.{some_stands_at}
use Rattle.bx_world.proofs.Slowest.{not_above, not_below, stands_there}
use Rattle.bx_world.proofs.world.drop_applied.Goals as goal
use Rattle.bx_world.proofs.world.drop_applied.Goals.{After-least_place-least}

stands : (g : _) (c : After-least_place-least g) → some_stands_at c.least_place-least.result c.args.shards.now ≡ true
stands g c =
    let xs = c.args.shards.now in
    let there : slice_get xs 0 ≡ Some c.in-Some.shard.now = sym c.in-Some.ensures.value in
    c.least_place-least.ensures.same (subst (λ (p : ℕ). some_stands_at p xs ≡ true) (sym c.place.ensures.place) (stands_there xs 0 c.in-Some.shard.now there))

low : (g : _) (c : After-least_place-least g) → c.args.first.now ≤ c.least_place-least.result
low g c = not_below c.args.shards.now c.args.first.now c.least_place-least.result c.requires.first (stands g c)

pub overflow_sub-least : goal.overflow_sub-least
overflow_sub-least g c = low g (goal.at.overflow_sub-least g c).After-least_place-least

pub returns-in-Some-clause-onward : goal.returns-in-Some-clause-onward
returns-in-Some-clause-onward g c = low g (goal.at.returns-in-Some-clause-onward g c).After-least_place-least

pub returns-in-Some-clause-slowest : goal.returns-in-Some-clause-slowest
returns-in-Some-clause-slowest g c = stands g (goal.at.returns-in-Some-clause-slowest g c).After-least_place-least
