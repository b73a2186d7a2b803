use Rattle.std.proofs.Common.{◌≡◌, ◌-◌, ◌≤◌, ◌∙◌, ℕ, ap, arith, length}
use Rattle.bx_world.specs.Refining.{some_stands_at}
use Rattle.bx_world.proofs.{Slowest.places_from, Standing.first_within, Standing.kept_sum}
use Rattle.bx_world.proofs.world.World.lacking.Goals as goal

pub returns-clause-most : goal.returns-clause-most
returns-clause-most g c = λ k n e.
    let w = c.args.self.now in
    let from : w.first ≤ n = places_from w.shards.items w.first (λ j s there. (w.holds.holding j s there).past) k n e in
    omega (arith, from, kept_sum w, c.len.ensures, w.kept.ok.0)

pub returns-clause-some : goal.returns-clause-some
returns-clause-some g c =
    let w = c.args.self.now in
    let here : length w.registry.list - c.len.result ≡ w.first = omega (arith, kept_sum w, c.len.ensures, w.kept.ok.0) in
    ap (λ (p : ℕ). some_stands_at p w.shards.items) here ∙ w.holds.slowest

pub returns-clause-in_list : goal.returns-clause-in_list
returns-clause-in_list g c = let w = c.args.self.now in omega (arith, kept_sum w, c.len.ensures, w.kept.ok.0)
