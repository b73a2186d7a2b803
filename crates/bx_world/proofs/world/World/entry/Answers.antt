use Rattle.std.proofs.Common.{◌≡◌, ◌≤◌, ◌∙◌, inr, arith, option_map, slice_get}
use Rattle.bx_entry.specs.Words.{entries}
use Rattle.bx_world.proofs.{Applications.none_past, Applications.some_there, Slowest.places_from, Upwards.next_kept}
use Rattle.bx_world.proofs.world.World.entry.Goals as goal
use Rattle.bx_world.proofs.world.World.entry.Goals.{After-entry_at}

pub returns-then-place-self-clause-none : goal.returns-then-place-self-clause-none
returns-then-place-self-clause-none g c =
    let w = c.args.self.now in
    inr (λ k n e.
    let from : w.first ≤ n = places_from w.shards.items w.first (λ j s there. (w.holds.holding j s there).past) k n e in
    omega (arith, c.if-place-self.true, from))

at_place : (g : _) (c : After-entry_at g) → option_map (λ e. e.now) c.entry_at.result ≡ slice_get (entries c.args.self.now.registry.config c.args.self.now.registry.list) c.args.place
at_place g c = c.entry_at.ensures ∙ next_kept c.args.self.now.holds c.args.place (omega (arith, c.if-place-self.false))

pub returns-clause-some : goal.returns-clause-some
returns-clause-some g c = some_there (λ e. e.now) (slice_get (entries c.args.self.now.registry.config c.args.self.now.registry.list) c.args.place) c.entry_at.result (at_place g (goal.at.returns-clause-some g c).After-entry_at)

pub returns-clause-none : goal.returns-clause-none
returns-clause-none g c = none_past (λ e. e.now) c.args.self.now.registry.config c.args.self.now.registry.list c.args.place _ c.entry_at.result (at_place g (goal.at.returns-clause-none g c).After-entry_at)
