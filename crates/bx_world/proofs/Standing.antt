-- The shards of a world after one of them is replaced.
use Rattle.std.proofs.Common.{◌≡◌, ◌≢◌, ℕ, ◌+◌, ◌-◌, ◌<◌, ◌≤◌, Option, Some, option_map, List, length, map, slice_get, slice_set, sym, ap, ◌∙◌, arith}
use Rattle.std.specs.Prelude.{slice_index}
use Rattle.std.proofs.lemmas.{List.length-map, List.length-set, Option.slice_get_within, Option.get_or_from_slice_get}
use Rattle.std.proofs.Math.Seq.{map-set_same}
use Rattle.bx_entry.specs.Words.{entries}
use Rattle.bx_entry.specs.declared.{Placing.Ghosts, entry.Entry.Entry}
use Rattle.bx_shard.specs.declared.shard.Shard.{Shard}
use Rattle.bx_world.specs.Words.{EachRefines, RefinesFrom, WorldHolds, setup_of, world_of}
use Rattle.bx_world.specs.declared.world.World.{World}
use Rattle.bx_world.proofs.{Rows.each_set, Rows.number_there, Slowest.not_above, Slowest.same_slowest, Upwards.kept_long, Upwards.next_kept}

pub first_within : {P : Type 0} {g : Ghosts P} (w : World P g) → w.first ≤ length w.registry.list
first_within w = not_above w.shards.items (length w.registry.list) w.first (λ k s e. (w.holds.holding k s e).holds.within) w.holds.slowest

pub kept_sum : {P : Type 0} {g : Ghosts P} (w : World P g) → w.first + length w.kept.items ≡ length w.registry.list
kept_sum w = omega (arith, first_within w, kept_long w.holds)

module _ {P : Type 0} {g : Ghosts P} (w : World P g) (i : ℕ) (old : Shard P) (there : slice_get w.shards.items i ≡ Some old) where
  pub holds_there : RefinesFrom g.place_of (setup_of w) w.registry.list w.taken w.first i old
  holds_there = w.holds.holding i old there

  pub in_range : i < length (world_of w).applied
  in_range = let l : i < length w.shards.items = slice_get_within w.shards.items i old there in omega (arith, l, length-map w.shards.items (λ (s : Shard P). s.place))

  pub place_there : slice_index (world_of w).applied i ≡ old.place
  place_there = number_there (λ (s : Shard P). s.place) w.shards.items i old there

  -- The entry that is found at the place of shard `i` is the next of the list.
  pub found_next : {X : Type 0} (entry_of : X → Entry) (found : Option X) (place : ℕ) → option_map entry_of found ≡ slice_get w.kept.items (place - w.first) → place ≡ old.place →
      option_map entry_of found ≡ slice_get (entries w.registry.config w.registry.list) old.place
  found_next entry_of found place e same = e ∙ ap (λ (p : ℕ). slice_get w.kept.items (p - w.first)) same ∙ next_kept w.holds old.place holds_there.past

  module _ (new : Shard P) where
    pub each_with : (taken : List ℕ) → RefinesFrom g.place_of (setup_of w) w.registry.list taken w.first i new →
        ((k : ℕ) (s : Shard P) → k ≢ i → RefinesFrom g.place_of (setup_of w) w.registry.list w.taken w.first k s → RefinesFrom g.place_of (setup_of w) w.registry.list taken w.first k s) →
        EachRefines g.place_of (setup_of w) w.registry.list taken w.first (slice_set w.shards.items i new)
    each_with taken here others =
        each_set (RefinesFrom g.place_of (setup_of w) w.registry.list taken w.first) w.shards.items i new (slice_get_within w.shards.items i old there) here (λ k s apart e. others k s apart (w.holds.holding k s e))

    pub same_places : new.place ≡ old.place → map (λ (s : Shard P). s.place) (slice_set w.shards.items i new) ≡ (world_of w).applied
    same_places e = map-set_same (λ (s : Shard P). s.place) w.shards.items i new old (e ∙ ap (λ (s : Shard P). s.place) (sym (get_or_from_slice_get w.shards.items i old old there)))

    -- The invariant after shard `i` changed, but not its place.
    pub still_holds : (taken : List ℕ) → new.place ≡ old.place → EachRefines g.place_of (setup_of w) w.registry.list taken w.first (slice_set w.shards.items i new) →
        WorldHolds g.place_of (setup_of w) w.registry.list taken w.first w.kept.items (slice_set w.shards.items i new)
    still_holds taken e each = record {
      bounded = w.holds.bounded;
      some_shard = w.holds.some_shard;
      shards_in_range = w.holds.shards_in_range;
      counted = length-set w.shards.items i new ∙ w.holds.counted;
      holding = each;
      slowest = same_slowest w.shards.items (slice_set w.shards.items i new) w.first (same_places e) w.holds.slowest;
      kept_is = w.holds.kept_is;
    }
