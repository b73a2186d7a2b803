-- What the shards of a new world hold.
use Rattle.std.proofs.Common.{◌≡◌, ℕ, zero, suc, Some, None, List, [], ◌∷◌, ◌++◌, length, map, slice_get, refl, sym, ap, ◌∙◌, subst, arith}
use Rattle.std.specs.Prelude.{replicate}
use Rattle.std.specs.Arc.{arc_value}
use Rattle.bx_history.proofs.Elements.{each_push}
use Rattle.bx_advice.specs.declared.config.Config.{Config}
use Rattle.bx_entry.specs.Listing.{Listed}
use Rattle.bx_entry.specs.declared.entry.Entry.{Entry}
use Rattle.bx_registry.specs.Standings.{Standing}
use Rattle.bx_shard.specs.Words.{Refines, setup_in, state, IsSound, connect_in, session_in}
use Rattle.bx_shard.specs.declared.shard.Shard.{Shard}
use Rattle.bx_shard.proofs.Holding.{refines_when_new}
use Rattle.bx_world.specs.Words.{EachRefines, WorldHolds, WorldState, new_world}
use Rattle.bx_entry.specs.Placings.{placed_by}
use Rattle.bx_world.proofs.Slowest.{all_stand}

pub record IsFirst {P : Type 0} (place_of : P → ℕ → ℕ → ℕ) (config : Config) (placing : P) (k : ℕ) (s : Shard P) : Type 0 where
  pub config_is : s.sessions.config ≡ config
  pub shards_is : s.shards ≡ config.shards
  pub placing_is : arc_value s.placing ≡ placing
  pub index_is : s.index ≡ k
  pub place_is : s.place ≡ 0
  pub sessions : (n : ℕ) → session_in (state place_of s) n ≡ None
  pub connects : (p : ℕ) → connect_in (state place_of s) p ≡ None
  pub sound : IsSound (state place_of s)

abbrev pub AreFirst : {P : Type 0} → (P → ℕ → ℕ → ℕ) → Config → P → List (Shard P) → Type 0
AreFirst {P} place_of config placing xs = (k : ℕ) (s : Shard P) → slice_get xs k ≡ Some s → IsFirst place_of config placing k s

pub one_more_first : {P : Type 0} (place_of : P → ℕ → ℕ → ℕ) (config : Config) (placing : P) (xs : List (Shard P)) (n : ℕ) (y : Shard P) → length xs ≡ n → AreFirst place_of config placing xs → IsFirst place_of config placing n y →
    AreFirst place_of config placing (xs ++ y ∷ [])
one_more_first place_of config placing xs n y e each here = each_push (IsFirst place_of config placing) xs y each (subst (λ (k : ℕ). IsFirst place_of config placing k y) (sym e) here)

setup_is : {P : Type 0} (place_of : P → ℕ → ℕ → ℕ) (config : Config) (placing : P) (k : ℕ) (s : Shard P) → IsFirst place_of config placing k s → setup_in place_of s ≡ placed_by config config.shards (place_of placing)
setup_is {P} place_of config placing k s h =
    ap (λ (c : Config). placed_by c s.shards (place_of (arc_value s.placing))) h.config_is
    ∙ ap (λ (n : ℕ). placed_by config n (place_of (arc_value s.placing))) h.shards_is
    ∙ ap (λ (p : P). placed_by config config.shards (place_of p)) h.placing_is

pub first_hold : {P : Type 0} (place_of : P → ℕ → ℕ → ℕ) (config : Config) (placing : P) (xs : List (Shard P)) → AreFirst place_of config placing xs → EachRefines place_of (placed_by config config.shards (place_of placing)) [] [] 0 xs
first_hold place_of config placing xs each k s e =
    let h : IsFirst place_of config placing k s = each k s e in
    record {
      holds = subst (λ (n : ℕ). Refines (placed_by config config.shards (place_of placing)) [] [] k n (state place_of s)) (sym h.place_is)
          (refines_when_new (placed_by config config.shards (place_of placing)) k (state place_of s) (setup_is place_of config placing k s h) h.index_is h.place_is h.sound h.sessions h.connects);
      past = omega arith;
    }

pub all_same : {X : Type 0} (f : X → ℕ) (xs : List X) (n m : ℕ) → length xs ≡ n → ((k : ℕ) (x : X) → slice_get xs k ≡ Some x → f x ≡ m) → map f xs ≡ replicate n m
all_same f [] zero m e each = refl
all_same f [] (suc n) m e each = absurd (omega (arith, e))
all_same f (x ∷ xs) zero m e each = absurd (omega (arith, e))
all_same f (x ∷ xs) (suc n) m e each =
    ap (λ (i : ℕ). i ∷ map f xs) (each 0 x refl) ∙ ap (λ (is : List ℕ). m ∷ is) (all_same f xs n m (omega (arith, e)) (λ k v g. each (suc k) v g))

pub first_places : {P : Type 0} (place_of : P → ℕ → ℕ → ℕ) (config : Config) (placing : P) (xs : List (Shard P)) (n : ℕ) → length xs ≡ n → AreFirst place_of config placing xs → map (λ (s : Shard P). s.place) xs ≡ replicate n 0
first_places {P} place_of config placing xs n e each = all_same (λ (s : Shard P). s.place) xs n 0 e (λ k s g. (each k s g).place_is)

-- ---- the new world

module _ {P : Type 0} (place_of : P → ℕ → ℕ → ℕ) (config : Config) (placing : P) (reg : Standing) (is : (reg.config ≡ config) × (reg.shards ≡ config.shards) × (reg.list ≡ [])) where
  same_standing : (X : Config → ℕ → List Listed → Type 0) → X config config.shards [] → X reg.config reg.shards reg.list
  same_standing X x =
      subst (λ (c : Config). X c reg.shards reg.list) (sym is.0)
      (subst (λ (n : ℕ). X config n reg.list) (sym is.1) (subst (X config config.shards) (sym is.2) x))

  pub holds_first : (xs : List (Shard P)) (kept : List Entry) (taken : List ℕ) → kept ≡ [] → taken ≡ [] → length xs ≡ config.shards → AreFirst place_of config placing xs →
      WorldHolds place_of (placed_by reg.config reg.shards (place_of placing)) reg.list taken 0 kept xs
  holds_first xs kept taken none_kept none_taken many each =
      same_standing (λ c n list. WorldHolds place_of (placed_by c n (place_of placing)) list taken 0 kept xs) (record {
        bounded = omega arith;
        some_shard = config.some_shard;
        shards_in_range = config.shards_in_range;
        counted = many;
        holding = subst (λ (ns : List ℕ). EachRefines place_of (placed_by config config.shards (place_of placing)) [] ns 0 xs) (sym none_taken) (first_hold place_of config placing xs each);
        slowest = all_stand xs config.shards 0 (first_places place_of config placing xs config.shards many each) config.some_shard;
        kept_is = none_kept;
      })

  pub world_first : (ns taken : List ℕ) → ns ≡ replicate config.shards 0 → taken ≡ [] →
      record { list = reg.list; applied = ns; taken = taken } ≡ new_world (placed_by reg.config reg.shards (place_of placing))
  world_first ns taken n t =
      same_standing (λ c m list. record { list = list; applied = ns; taken = taken } ≡ new_world (placed_by c m (place_of placing)))
      (ap (λ (xs : List ℕ). record { list = []; applied = xs; taken = taken }) n ∙ ap (λ (xs : List ℕ). record { list = []; applied = replicate config.shards 0; taken = xs }) t)
