-- The lowest position of the shards, and a window that was trimmed there.
use Rattle.std.proofs.Common.{ℕ, suc, ◌≡◌, ◌≤◌, ◌+◌, ◌++◌, List, [], ◌∷◌, Option, Some, None, option_map, unwrap_or, length, drop, nat_le, cond, slice_index_or, Bool, true, false, refl, sym, ap, subst, arith}
use Rattle.std.specs.Prelude.{IfSome}
use Rattle.std.specs.List.{All}
use Rattle.std.proofs.lemmas.List.Elements.{All-push, All-weaker}
use Rattle.bx_window.specs.Steps.{below, firsts_of, list_of}
use Rattle.bx_window.specs.declared.law.LogStep.{LogStep}
use Rattle.bx_hub.specs.Posts.{IsUntrimmable}
use Rattle.bx_hub.specs.declared.shard_state.evidence.ShardAdvance.{ShardAdvance}

below_dropped : (n end : ℕ) (fs : List ℕ) → below n end (drop (below n end fs) fs) ≡ 0
below_dropped n end [] = refl
below_dropped n end (f ∷ fs) = by (below_dropped n end fs) (nat_le (slice_index_or fs 0 end) n) refl
  where
    by : below n end (drop (below n end fs) fs) ≡ 0 → (b : Bool) → nat_le (slice_index_or fs 0 end) n ≡ b → below n end (drop (cond b (1 + below n end fs) 0) (f ∷ fs)) ≡ 0
    by rest true e =
        let one : suc (below n end fs) ≡ 1 + below n end fs = omega arith in
        subst (λ (k : ℕ). below n end (drop k (f ∷ fs)) ≡ 0) one rest
    by rest false e = ap (λ (b : Bool). cond b (1 + below n end fs) 0) e

pub untrimmable : (place : ℕ) (old new : List LogStep) → list_of new ≡ list_of old → firsts_of new ≡ drop (below place (length (list_of old)) (firsts_of old)) (firsts_of old) → IsUntrimmable place new
untrimmable place old new same trimmed = cc (same, trimmed, below_dropped place (length (list_of old)) (firsts_of old))

-- ---- One more position

module _ {L : Type 0} where
  least_before : (lowest : Option (ShardAdvance L)) (places : List ℕ) (low : ℕ) → All (λ p. unwrap_or (option_map (λ (s : ShardAdvance L). s.place) lowest) 0 ≤ p) places → (lowest ≡ None → places ≡ []) →
      IfSome lowest (λ s. low ≤ s.place) → All (λ p. low ≤ p) places
  least_before None places low old none least = subst (λ (ps : List ℕ). All (λ p. low ≤ p) ps) (sym (none refl)) (λ k d h. absurd (omega (arith, h)))
  least_before (Some s) places low old none least = All-weaker (λ p. s.place ≤ p) (λ p. low ≤ p) (λ p h. omega (arith, h, least)) places old

  pub least_last : (lowest : Option (ShardAdvance L)) (places new : List ℕ) (place low : ℕ) → All (λ p. unwrap_or (option_map (λ (s : ShardAdvance L). s.place) lowest) 0 ≤ p) places → (lowest ≡ None → places ≡ []) → low ≤ place →
      IfSome lowest (λ s. low ≤ s.place) → new ≡ places ++ place ∷ [] → All (λ p. low ≤ p) new
  least_last lowest places new place low old none one least is = subst (λ (ps : List ℕ). All (λ p. low ≤ p) ps) (sym is) (All-push (λ p. low ≤ p) places place (least_before lowest places low old none least) one)
