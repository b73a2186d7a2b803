use Rattle.std.proofs.Common.{◌≡◌, ◌<◌, ◌≤◌, ◌-◌, ℕ, List, Some, true, length, map, option_map, slice_get, slice_set, refl, sym, ap, ◌∙◌, subst, arith}
use Rattle.std.proofs.lemmas.{List.length-set, Option.slice_get_read}
use Rattle.bx_entry.specs.Words.{entries}
use Rattle.bx_shard.specs.declared.shard.Shard.{Shard}
use Rattle.bx_world.specs.Words.{EachRefines, IsApplication, some_stands_at, setup_of}
use Rattle.bx_world.proofs.{Applications.application_steps, Applications.dropped, Applications.each_applied, Applications.next_before, Applications.next_placed, Slowest.still_slowest, Standing.found_next, Standing.holds_there, Standing.kept_sum}
use Rattle.bx_world.proofs.world.World.apply.Goals as goal
use Rattle.bx_world.proofs.world.World.apply.Goals.{After-apply_next-applied, In-Some}

there : (g : _) (c : In-Some g) → slice_get c.args.self.now.shards.items c.args.shard ≡ Some c.in-Some.next.now
there g c =
    let row = c.args.self.now.shards in
    let here : c.args.shard < row.len = c.in-Some.ensures.variant.0 (refl {a = true}) in
    slice_get_read row.items row.len c.args.shard c.in-Some.next.now (omega (arith, row.ok.0)) here c.in-Some.ensures.value

pub entry_at-requires : goal.entry_at-requires
entry_at-requires g c =
    subst (λ (p : ℕ). c.args.self.now.first ≤ p) (sym c.place-place.ensures.place) (holds_there c.args.self.now c.args.shard c.in-Some.next.now (there g (goal.at.entry_at-requires g c).In-Some)).past

pub apply_next-applied-requires-clause-next : goal.apply_next-applied-requires-clause-next
apply_next-applied-requires-clause-next g c =
    let w = c.args.self.now in
    let old = c.in-Some.next.now in
    next_placed (λ e. e.now) w.registry.config w.registry.list old.place c.entry_at.result
    (found_next w c.args.shard old (there g (goal.at.apply_next-applied-requires-clause-next g c).In-Some) (λ e. e.now) c.entry_at.result c.place-place.result c.entry_at.ensures c.place-place.ensures.place)

pub apply_next-applied-requires-clause-end : goal.apply_next-applied-requires-clause-end
apply_next-applied-requires-clause-end g c =
    let w = c.args.self.now in
    let old = c.in-Some.next.now in
    next_before (λ e. e.now) w.registry.config w.registry.list old.place c.entry_at.result w.holds.bounded
    (found_next w c.args.shard old (there g (goal.at.apply_next-applied-requires-clause-end g c).In-Some) (λ e. e.now) c.entry_at.result c.place-place.result c.entry_at.ensures c.place-place.ensures.place)

is : (g : _) (c : After-apply_next-applied g) → slice_get c.args.self.now.shards.items c.args.shard ≡ Some c.in-Some.next.now →
    IsApplication g.P.Placing.place_of (entries c.args.self.now.registry.config c.args.self.now.registry.list) c.in-Some.next.now c.apply_next-applied.result c.apply_next-applied.new.shard
is g c at = c.apply_next-applied.ensures (entries c.args.self.now.registry.config c.args.self.now.registry.list)
    (found_next c.args.self.now c.args.shard c.in-Some.next.now at (λ e. e.now) c.entry_at.result c.place-place.result c.entry_at.ensures c.place-place.ensures.place)

each : (g : _) (c : After-apply_next-applied g) → slice_get c.args.self.now.shards.items c.args.shard ≡ Some c.in-Some.next.now →
    EachRefines g.P.Placing.place_of (setup_of c.args.self.now) c.args.self.now.registry.list c.args.self.now.taken c.args.self.now.first (slice_set c.args.self.now.shards.items c.args.shard c.apply_next-applied.new.shard)
each g c at = each_applied c.args.self.now c.args.shard c.in-Some.next.now c.apply_next-applied.new.shard at c.apply_next-applied.result (is g c at)

pub drop_applied-requires-clause-first : goal.drop_applied-requires-clause-first
drop_applied-requires-clause-first g c = λ k s e.
    (each g (goal.at.drop_applied-requires-clause-first g c).After-apply_next-applied (there g (goal.at.drop_applied-requires-clause-first g c).In-Some) k s (ap (λ (xs : List (Shard g.row.P.Denot)). slice_get xs k) (sym c.deref.ensures.value) ∙ e)).past

pub drop_applied-requires-clause-end : goal.drop_applied-requires-clause-end
drop_applied-requires-clause-end g c = λ k s e.
    let within : s.place ≤ length c.args.self.now.registry.list =
    (each g (goal.at.drop_applied-requires-clause-end g c).After-apply_next-applied (there g (goal.at.drop_applied-requires-clause-end g c).In-Some) k s (ap (λ (xs : List (Shard g.row.P.Denot)). slice_get xs k) (sym c.deref.ensures.value) ∙ e)).holds.within in
    omega (arith, within, kept_sum c.args.self.now)

pub drop_applied-requires-clause-some : goal.drop_applied-requires-clause-some
drop_applied-requires-clause-some g c =
    let w = c.args.self.now in
    subst (λ (xs : List (Shard g.row.P.Denot)). 1 ≤ length xs) (sym c.deref.ensures.value) (omega (arith, length-set w.shards.items c.args.shard c.apply_next-applied.new.shard, w.holds.counted, w.holds.some_shard))

pub drop_applied-requires-clause-slowest : goal.drop_applied-requires-clause-slowest
drop_applied-requires-clause-slowest g c = λ ahead.
    let w = c.args.self.now in
    let old = c.in-Some.next.now in
    let further : w.first < old.place = subst (λ (p : ℕ). w.first < p) c.place-place.ensures.place ahead in
    subst (λ (xs : List (Shard g.row.P.Denot)). some_stands_at w.first xs ≡ true) (sym c.deref.ensures.value)
    (still_slowest w.shards.items c.args.shard old c.apply_next-applied.new.shard w.first (there g (goal.at.drop_applied-requires-clause-slowest g c).In-Some) w.holds.slowest further)

pub invariant_of-self-2 : goal.invariant_of-self-2
invariant_of-self-2 g c =
    let w = c.args.self.now in
    let new = c.apply_next-applied.new.shard in
    let left = c.drop_applied.ensures in
    record {
      holds = dropped w.holds _ _ (slice_set w.shards.items c.args.shard new) (length-set w.shards.items c.args.shard new) (each g (goal.at.invariant_of-self-2 g c).After-apply_next-applied (there g (goal.at.invariant_of-self-2 g c).In-Some))
          (λ k s e. left.first k s (ap (λ (xs : List (Shard g.row.P.Denot)). slice_get xs k) c.deref.ensures.value ∙ e))
          (subst (λ (xs : List (Shard g.row.P.Denot)). some_stands_at c.drop_applied.new.first xs ≡ true) c.deref.ensures.value left.slowest) left.onward left.kept;
    }

pub returns : goal.returns
returns g c =
    let steps = application_steps c.args.self.now c.args.shard c.in-Some.next.now c.apply_next-applied.new.shard (there g (goal.at.returns g c).In-Some)
    c.apply_next-applied.result (is g (goal.at.returns g c).After-apply_next-applied (there g (goal.at.returns g c).In-Some)) in
    record { output = steps.0; world = steps.1; setup = refl }
