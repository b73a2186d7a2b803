-- Shards that advance one after another, and in parts.
use Rattle.std.proofs.Common.{ℕ, ◌+◌, ◌<◌, ◌≤◌, ◌≡◌, List, length, get_or, set, ap, sym, subst, arith, ◌∙◌, ⊎_elim}
use Rattle.std.proofs.lemmas.{Bool.cases_eq, List.get_or-set_same, List.get_or-set_other, Option.get_or_from_slice_get, Option.slice_get-get_or, Option.slice_get_within}
use Rattle.bx_entry.specs.declared.entry.Entry.{Entry}
use Rattle.bx_shard.specs.declared.shard.Shard.{Shard}
use Rattle.bx_shard.specs.Upward.{BroughtUp, WentOn}

pub record WentSoFar {P : Type 0} (place_of : P → ℕ → ℕ → ℕ) (es : List Entry) (n : ℕ) (old new : List (Shard P)) : Type 0 where
  pub done : (j : ℕ) (d : Shard P) → j < n → j < length old → WentOn place_of es (get_or old j d) (get_or new j d)
  pub rest : (j : ℕ) (d : Shard P) → n ≤ j → get_or new j d ≡ get_or old j d

get_or_any : {X : Type 0} (xs : List X) (i : ℕ) (c d : X) → i < length xs → get_or xs i c ≡ get_or xs i d
get_or_any xs i c d below = get_or_from_slice_get xs i (get_or xs i d) c (slice_get-get_or xs i d below)

module _ {P : Type 0} (place_of : P → ℕ → ℕ → ℕ) (es : List Entry) where
  pub went_further : (n : ℕ) (old mid : List (Shard P)) (s t : Shard P) → WentSoFar place_of es n old mid → length mid ≡ length old → n < length old →
      WentOn place_of es (get_or mid n s) t → WentSoFar place_of es (n + 1) old (set mid n t)
  went_further n old mid s t h len within went = let below : n < length mid = omega (arith, len, within) in record {
    done = λ j d before inside. ⊎_elim
        (λ e. let was : get_or mid n s ≡ get_or old j d = get_or_any mid n s d below ∙ h.rest n d (omega arith) ∙ ap (λ (k : ℕ). get_or old k d) (sym e) in
        let is : t ≡ get_or (set mid n t) j d = sym (get_or-set_same mid n t d below) ∙ ap (λ (k : ℕ). get_or (set mid n t) k d) (sym e) in
        subst (λ (x : Shard P). WentOn place_of es x (get_or (set mid n t) j d)) was (subst (λ (y : Shard P). WentOn place_of es (get_or mid n s) y) is went))
        (λ ne. subst (λ (y : Shard P). WentOn place_of es (get_or old j d) y) (sym (get_or-set_other mid n j t d ne)) (h.done j d (omega (arith, before, ne)) inside))
        (cases_eq j n);
    rest = λ j d past. get_or-set_other mid n j t d (λ e. omega (arith, e, past)) ∙ h.rest j d (omega (arith, past));
  }

  pub brought_each : (old new : List (Shard P)) → length new ≡ length old → ((k : ℕ) (d : Shard P) → k < length old → WentOn place_of es (get_or old k d) (get_or new k d)) → BroughtUp place_of es old new
  brought_each old new len each = record {
    all = len;
    each = λ k s t was is. subst (λ (x : Shard P). WentOn place_of es x t) (get_or_from_slice_get old k s s was)
        (subst (λ (y : Shard P). WentOn place_of es (get_or old k s) y) (get_or_from_slice_get new k t s is) (each k s (slice_get_within old k s was)));
  }

  pub went_all : (n : ℕ) (old new : List (Shard P)) → WentSoFar place_of es n old new → length new ≡ length old → length old ≤ n → BroughtUp place_of es old new
  went_all n old new h len past = brought_each old new len (λ k d inside. h.done k d (omega (arith, inside, past)) inside)

  pub went_in_part : (part after : List (Shard P)) (k : ℕ) (d s t : Shard P) → BroughtUp place_of es part after → k < length part → get_or part k d ≡ s → get_or after k d ≡ t → WentOn place_of es s t
  went_in_part part after k d s t h inside was is =
      subst (λ (x : Shard P). WentOn place_of es x t) was (subst (λ (y : Shard P). WentOn place_of es (get_or part k d) y) is
      (h.each k (get_or part k d) (get_or after k d) (slice_get-get_or part k d inside) (slice_get-get_or after k d (omega (arith, inside, h.all)))))
