-- The shards before and after their sessions are redistributed.
use Rattle.std.proofs.Common.{◌≡◌, ℕ, ◌<◌, ◌≤◌, true, Some, List, length, map, option_map, slice_get, sym, ap, ◌∙◌, subst, arith}
use Rattle.std.specs.Prelude.{replicate}
use Rattle.std.proofs.Common.{Vec, Global}
use Rattle.std.proofs.lemmas.{Option.slice_get-map, List.length-map}
use Rattle.bx_history.proofs.Elements.{mapped}
use Rattle.bx_entry.specs.Listing.{Listed}
use Rattle.bx_entry.specs.Placings.{placed_by}
use Rattle.bx_entry.specs.declared.{Placing.Ghosts, entry.Entry.Entry}
use Rattle.bx_reshard.specs.Redistribution.{Redistributed}
use Rattle.bx_shard.specs.Words.{Refines, state, Setup, State, holds_props}
use Rattle.bx_shard.specs.declared.shard.Shard.{Shard}
use Rattle.bx_reshard.proofs.RedistributionLaws.{refines_redistributed}
use Rattle.bx_world.specs.Words.{EachRefines, WorldHolds, some_stands_at, setup_of}
use Rattle.bx_world.specs.declared.world.World.{World}
use Rattle.bx_world.proofs.{Slowest.all_stand, Slowest.not_below, Slowest.not_above, Starting.all_same}

module _ {P : Type 0} (place_of : P → ℕ → ℕ → ℕ) (setup : Setup) (list : List Listed) (taken : List ℕ) (first : ℕ) (xs : List (Shard P)) where
  pub at_end : EachRefines place_of setup list taken first xs → ((k n : ℕ) → slice_get (map (λ (s : Shard P). s.place) xs) k ≡ Some n → length list ≤ n) →
      (k : ℕ) (s : Shard P) → slice_get xs k ≡ Some s → s.place ≡ length list
  at_end each level k s e =
      let within : s.place ≤ length list = (each k s e).holds.within in
      let past : length list ≤ s.place = level k s.place (slice_get-map (λ (s : Shard P). s.place) xs k ∙ ap (option_map (λ (s : Shard P). s.place)) e) in
      omega (arith, within, past)

  pub states_hold : EachRefines place_of setup list taken first xs → ((k n : ℕ) → slice_get (map (λ (s : Shard P). s.place) xs) k ≡ Some n → length list ≤ n) →
      (k : ℕ) (t : State) → slice_get (map (state place_of) xs) k ≡ Some t → Refines setup list taken k (length list) t
  states_hold each level k t e =
      let m = mapped (state place_of) xs k t e in
      subst (Refines setup list taken k (length list)) m.is
      (subst (λ (n : ℕ). Refines setup list taken k n (state place_of m.one)) (at_end each level k m.one m.there) (each k m.one m.there).holds)

  pub shards_hold : first ≤ length list → ((k : ℕ) (t : State) → slice_get (map (state place_of) xs) k ≡ Some t → Refines setup list taken k (length list) t) → EachRefines place_of setup list taken first xs
  shards_hold from each k s e =
      let held : Refines setup list taken k (length list) (state place_of s) = each k (state place_of s) (slice_get-map (state place_of) xs k ∙ ap (option_map (state place_of)) e) in
      let place : s.place ≡ length list = held.place_is in
      record { holds = subst (λ (n : ℕ). Refines setup list taken k n (state place_of s)) (sym place) held; past = omega (arith, place, from) }

  pub end_places : ((k : ℕ) (t : State) → slice_get (map (state place_of) xs) k ≡ Some t → Refines setup list taken k (length list) t) → (n : ℕ) → length xs ≡ n →
      map (λ (s : Shard P). s.place) xs ≡ replicate n (length list)
  end_places each n many =
      all_same (λ (s : Shard P). s.place) xs n (length list) many
      (λ k s e. (each k (state place_of s) (slice_get-map (state place_of) xs k ∙ ap (option_map (state place_of)) e)).place_is)

  pub none_kept : EachRefines place_of setup list taken first xs → ((k n : ℕ) → slice_get (map (λ (s : Shard P). s.place) xs) k ≡ Some n → length list ≤ n) → some_stands_at first xs ≡ true → first ≡ length list
  none_kept each level some =
      let low : length list ≤ first = not_below xs (length list) first (λ k s e. let at : s.place ≡ length list = at_end each level k s e in omega (arith, at)) some in
      let high : first ≤ length list = not_above xs (length list) first (λ k s e. let at : s.place ≡ length list = at_end each level k s e in omega (arith, at)) some in
      omega (arith, low, high)

-- The shards `ys` of a redistributed world hold, and have applied the whole list.
pub record AreAtEnd {P : Type 0} (place_of : P → ℕ → ℕ → ℕ) (setup : Setup) (list : List Listed) (taken : List ℕ) (first : ℕ) (kept : List Entry) (ys : List (Shard P)) : Type 0 where
  pub holds : WorldHolds place_of setup list taken first kept ys
  pub places : map (λ (s : Shard P). s.place) ys ≡ replicate setup.shards (length list)

pub redistributed_at_end : {P : Type 0} (place_of : P → ℕ → ℕ → ℕ) (setup : Setup) (list : List Listed) (taken : List ℕ) (first : ℕ) (kept : List Entry) (xs ys : List (Shard P)) →
    (shards : ℕ) (placing : ℕ → ℕ → ℕ) → 0 < setup.config.limits.batch → ((m : ℕ) → setup.placing m setup.shards < setup.shards) →
    WorldHolds place_of setup list taken first kept xs → ((k n : ℕ) → slice_get (map (λ (s : Shard P). s.place) xs) k ≡ Some n → length list ≤ n) → 1 ≤ shards → shards ≤ 64 →
    Redistributed placing shards (map (state place_of) xs) (map (state place_of) ys) → AreAtEnd place_of (placed_by setup.config shards placing) list taken first kept ys
redistributed_at_end {P} place_of setup list taken first kept xs ys shards placing room below h level some_shard few redistributed =
    let other : Setup = placed_by setup.config shards placing in
    let held : (k : ℕ) (t : State) → slice_get (map (state place_of) ys) k ≡ Some t → Refines other list taken k (length list) t =
    refines_redistributed setup list taken (length list) shards placing (map (state place_of) xs) (map (state place_of) ys) room (length-map xs (state place_of) ∙ h.counted) below
    (states_hold place_of setup list taken first xs h.holding level) redistributed in
    let first_is : first ≡ length list = none_kept place_of setup list taken first xs h.holding level h.slowest in
    let long : length ys ≡ shards = sym (length-map ys (state place_of)) ∙ redistributed.many in
    let at : map (λ (s : Shard P). s.place) ys ≡ replicate shards (length list) = end_places place_of other list taken first ys held shards long in
    record {
      holds = record {
        bounded = h.bounded;
        some_shard = some_shard;
        shards_in_range = few;
        counted = long;
        holding = shards_hold place_of other list taken first ys (omega (arith, first_is)) held;
        slowest = subst (λ (n : ℕ). some_stands_at n ys ≡ true) (sym first_is) (all_stand ys shards (length list) at some_shard);
        kept_is = h.kept_is;
      };
      places = at;
    }

-- ---- the unchanged world

pub same_world : {P : Type 0} {g : Ghosts P} (w : World P g) (row : Vec (Shard P) Global) → row ≡ w.shards →
    (holds : WorldHolds g.place_of (setup_of w) w.registry.list w.taken w.first w.kept.items row.items) → record w { shards = row; holds = holds } ≡ w
same_world {P} {g} w row is =
    subst (λ (r : Vec (Shard P) Global). (holds : WorldHolds g.place_of (setup_of w) w.registry.list w.taken w.first w.kept.items r.items) → record w { shards = r; holds = holds } ≡ w) (sym is)
    (λ holds. let once : IsProp (WorldHolds g.place_of (setup_of w) w.registry.list w.taken w.first w.kept.items w.shards.items) = hlevel holds_props in ap (λ x. record w { holds = x }) (once holds w.holds))
