use Rattle.std.proofs.Common.{◌≡◌, ◌≤◌, ◌+◌, ◌-◌, ◌++◌, ℕ, List, Some, drop, take, length, map, true, slice_get, sym, ap, ◌∙◌, subst, arith}
use Rattle.std.specs.Prelude.{count_by, nat_lt}
use Rattle.std.specs.List.{refill}
use Rattle.bx_advice.specs.Limits.{greatest_length}
use Rattle.bx_entry.specs.declared.entry.Entry.{Entry}
use Rattle.bx_shard.specs.declared.shard.Shard.{Shard}
use Rattle.bx_shard.specs.Upward.{AreConsecutive, AreWithin, BroughtUp, count_behind, end_of}
use Rattle.bx_world.specs.Words.{WorldHolds, setup_of, some_stands_at}
use Rattle.bx_world.proofs.{Applications.dropped, Standing.kept_sum}
use Rattle.bx_world.proofs.Upwards.{count_upward, each_upward, kept_bounded, kept_consecutive, kept_within, places_onward, places_stopped, places_within, written_back}
use Rattle.bx_world.proofs.world.World.bring_up.Goals as goal
use Rattle.bx_world.proofs.world.World.bring_up.Goals.{After-bring_up-behind}

pub bring_up-behind-requires-clause-consecutive : goal.bring_up-behind-requires-clause-consecutive
bring_up-behind-requires-clause-consecutive g c κs lived = subst AreConsecutive (sym c.make_contiguous-kept.ensures.value) (kept_consecutive c.args.self.now.holds)

pub bring_up-behind-requires-clause-end : goal.bring_up-behind-requires-clause-end
bring_up-behind-requires-clause-end g c κs lived =
    subst (λ (es : List Entry). end_of es ≤ greatest_length) (sym c.make_contiguous-kept.ensures.value) (kept_bounded c.args.self.now.holds)

pub bring_up-behind-requires-clause-within : goal.bring_up-behind-requires-clause-within
bring_up-behind-requires-clause-within g c κs lived =
    subst (λ (es : List Entry). AreWithin es c.deref_mut.result.now) (sym c.make_contiguous-kept.ensures.value)
    (subst (AreWithin c.args.self.now.kept.items) (sym c.deref_mut.ensures.value) (kept_within c.args.self.now.holds))

brought : (g : _) (c : After-bring_up-behind g) → BroughtUp g.P.Placing.place_of c.args.self.now.kept.items c.args.self.now.shards.items c.bring_up-behind.new.shards
brought g c =
    subst (λ (es : List Entry). BroughtUp g.P.Placing.place_of es c.args.self.now.shards.items c.bring_up-behind.new.shards) c.make_contiguous-kept.ensures.value
    (subst (λ (xs : List (Shard g.row.P.Denot)). BroughtUp g.P.Placing.place_of c.make_contiguous-kept.result.now xs c.bring_up-behind.new.shards) c.deref_mut.ensures.value c.bring_up-behind.ensures.brought)

same_kept : (g : _) (c : After-bring_up-behind g) → refill c.args.self.now.kept.len c.args.self.now.kept.items c.make_contiguous-kept.result.now ≡ c.args.self.now.kept.items
same_kept g c = c.make_contiguous-kept.ensures.writes_back c.make_contiguous-kept.result.now c.make_contiguous-kept.ensures.len ∙ c.make_contiguous-kept.ensures.value

abbrev now : (g : _) (c : After-bring_up-behind g) → List (Shard g.row.P.Denot)
now g c = take c.args.self.now.shards.len (c.bring_up-behind.new.shards ++ drop (length c.bring_up-behind.new.shards) c.args.self.now.shards.items)

back : (g : _) (c : After-bring_up-behind g) → now g c ≡ c.bring_up-behind.new.shards
back g c = written_back c.args.self.now.shards.len c.args.self.now.shards.items c.bring_up-behind.new.shards (omega (arith, c.args.self.now.shards.ok.0)) (brought g c).all

places : (g : _) (c : After-bring_up-behind g) (k n : ℕ) → slice_get (map (λ (s : Shard g.row.P.Denot). s.place) (now g c)) k ≡ Some n →
    slice_get (map (λ (s : Shard g.row.P.Denot). s.place) c.bring_up-behind.new.shards) k ≡ Some n
places g c k n e = ap (λ (xs : List (Shard g.row.P.Denot)). slice_get (map (λ (s : Shard g.row.P.Denot). s.place) xs) k) (sym (back g c)) ∙ e

pub drop_applied-requires-clause-first : goal.drop_applied-requires-clause-first
drop_applied-requires-clause-first g c = λ k s e.
    let before = (goal.at.drop_applied-requires-clause-first g c).After-bring_up-behind in
    (each_upward c.args.self.now.holds c.bring_up-behind.new.shards (brought g before) k s (ap (λ (xs : List (Shard g.row.P.Denot)). slice_get xs k) (sym (c.deref.ensures.value ∙ back g before)) ∙ e)).past

pub drop_applied-requires-clause-end : goal.drop_applied-requires-clause-end
drop_applied-requires-clause-end g c = λ k s e.
    let before = (goal.at.drop_applied-requires-clause-end g c).After-bring_up-behind in
    let within : s.place ≤ length c.args.self.now.registry.list =
    (each_upward c.args.self.now.holds c.bring_up-behind.new.shards (brought g before) k s (ap (λ (xs : List (Shard g.row.P.Denot)). slice_get xs k) (sym (c.deref.ensures.value ∙ back g before)) ∙ e)).holds.within in
    omega (arith, within, kept_sum c.args.self.now, ap (λ (es : List Entry). length es) (same_kept g before))

pub drop_applied-requires-clause-some : goal.drop_applied-requires-clause-some
drop_applied-requires-clause-some g c =
    let before = (goal.at.drop_applied-requires-clause-some g c).After-bring_up-behind in
    subst (λ (xs : List (Shard g.row.P.Denot)). 1 ≤ length xs) (sym (c.deref.ensures.value ∙ back g before)) (omega (arith, (brought g before).all, c.args.self.now.holds.counted, c.args.self.now.holds.some_shard))

pub invariant_of-self : goal.invariant_of-self
invariant_of-self g c =
    let w = c.args.self.now in
    let before = (goal.at.invariant_of-self g c).After-bring_up-behind in
    let ys = c.bring_up-behind.new.shards in
    let left = c.drop_applied.ensures in
    let same : c.deref.result.now ≡ ys = c.deref.ensures.value ∙ back g before in
    record {
      holds = subst (WorldHolds g.P.Placing.place_of (setup_of w) w.registry.list w.taken c.drop_applied.new.first c.drop_applied.new.kept.items) (sym (back g before))
          (dropped w.holds _ _ ys (brought g before).all (each_upward w.holds ys (brought g before))
          (λ k s e. left.first k s (ap (λ (xs : List (Shard g.row.P.Denot)). slice_get xs k) same ∙ e))
          (subst (λ (xs : List (Shard g.row.P.Denot)). some_stands_at c.drop_applied.new.first xs ≡ true) same left.slowest) left.onward (left.kept ∙ ap (drop (c.drop_applied.new.first - w.first)) (same_kept g before)));
    }

pub returns-clause-onward : goal.returns-clause-onward
returns-clause-onward g c = λ k m n old new.
    let before = (goal.at.returns-clause-onward g c).After-bring_up-behind in
    places_onward c.args.self.now.holds c.bring_up-behind.new.shards (brought g before) k m n old (places g before k n new)

pub returns-clause-within : goal.returns-clause-within
returns-clause-within g c = λ k n new.
    let before = (goal.at.returns-clause-within g c).After-bring_up-behind in
    places_within c.args.self.now.holds c.bring_up-behind.new.shards (brought g before) k n (places g before k n new)

pub returns-clause-stopped : goal.returns-clause-stopped
returns-clause-stopped g c = λ k n e new next.
    let before = (goal.at.returns-clause-stopped g c).After-bring_up-behind in
    places_stopped c.args.self.now.holds c.bring_up-behind.new.shards (brought g before) k n e (places g before k n new) next

pub returns-clause-count : goal.returns-clause-count
returns-clause-count g c =
    let w = c.args.self.now in
    let before = (goal.at.returns-clause-count g c).After-bring_up-behind in
    let ys = c.bring_up-behind.new.shards in
    c.bring_up-behind.ensures.count ∙ ap (λ (es : List Entry). count_behind es ys) c.make_contiguous-kept.ensures.value ∙ count_upward w.holds ys (brought g before)
    ∙ ap (λ (xs : List (Shard g.row.P.Denot)). count_by (λ n. nat_lt n (length w.registry.list)) (map (λ (s : Shard g.row.P.Denot). s.place) xs)) (sym (back g before))
