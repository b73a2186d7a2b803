-- Proves when some shard lacks entries.
use Rattle.std.proofs.Common.{◌≡◌, ℕ, ◌<◌, ◌≤◌, ◌∙◌, arith, ap, count_by, length, List, [], ◌∷◌, nat_lt, option_map, refl, slice_get, Some}
use Rattle.std.specs.Prelude.{suc}
use Rattle.std.proofs.lemmas.Option.{slice_get-map}
use Rattle.bx_entry.specs.declared.Placing.{Ghosts}
use Rattle.bx_shard.specs.declared.shard.Shard.{Shard}
use Rattle.bx_world.specs.Refining.{StandFrom}
use Rattle.bx_world.specs.Words.{world_of, WorldState}
use Rattle.bx_world.specs.declared.world.World.{World}
use Rattle.bx_world.proofs.Slowest.{not_above, not_below}
use Rattle.bx_fanout.specs.CurrentInputs.{IsLevel}
use Rattle.bx_fanout.proofs.TakingIn.{count-behind-cons}

pub none-lack : (len : ℕ) (xs : List ℕ) → ((k n : ℕ) → slice_get xs k ≡ Some n → len ≤ n) → count_by (λ (n : ℕ). nat_lt n len) xs ≡ 0
none-lack len [] each = refl
none-lack len (x ∷ xs) each =
    let here : len ≤ x = each 0 x refl in
    let rest : count_by (λ (n : ℕ). nat_lt n len) xs ≡ 0 = none-lack len xs (λ k n found. each (suc k) n found) in
    grind (arith, count-behind-cons len x xs)

module _ {P : Type 0} {g : Ghosts P} where
  -- Some shard of `v` lacks entries if `v` has a longer list than `w`, and the shards of both have
  -- applied the same numbers of entries.
  pub lags-on : (w : World P g) (v : WorldState) → v.applied ≡ (world_of w).applied → length (world_of w).list < length v.list → ¬ IsLevel v
  lags-on w v same more level =
      let xs : List (Shard P) = w.shards.items in
      let from : StandFrom (length v.list) xs = λ k s found. level k s.place (ap (λ (ns : List ℕ). slice_get ns k) same ∙ slice_get-map (λ (x : Shard P). x.place) xs k ∙ ap (option_map (λ (x : Shard P). x.place)) found) in
      let low : length v.list ≤ w.first = not_below xs (length v.list) w.first from w.holds.slowest in
      let high : w.first ≤ length w.registry.list = not_above xs (length w.registry.list) w.first (λ k s found. (w.holds.holding k s found).holds.within) w.holds.slowest in
      let less : length w.registry.list < length v.list = more in
      omega arith
