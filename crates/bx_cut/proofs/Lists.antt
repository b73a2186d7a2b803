-- Parts separated by commas, one at a time.
use Rattle.std.proofs.Common.{◌≡◌, ℕ, zero, suc, ◌<◌, ◌≤◌, List, [], ◌∷◌, ◌++◌, length, Option, Some, None, sym, ap, ◌∙◌, arith}
use Rattle.std.proofs.lemmas.{List.append_assoc, List.append-nil, Grind.common_steps}
use Rattle.bx_cut.specs.Cut.{past_byte, first_and_more, separated, listed, split_value, split_member}
use Rattle.bx_cut.proofs.Reach.{past_byte-shorter, split_value-shorter, split_member-shorter}

abbrev pub Shortens : {A : Type 0} → (List ℕ → Option (A × List ℕ)) → Type 0
Shortens {A} split = (t : List ℕ) (p : A × List ℕ) → Some p ≡ split t → length p.1 < length t

module _ {A : Type 0} (split : List ℕ → Option (A × List ℕ)) (shortens : Shortens split) where
  first_same : (more again : List ℕ → List A × List ℕ) (t : List ℕ) (o : Option (A × List ℕ)) → ((p : A × List ℕ) (r : List ℕ) → Some p ≡ o → Some r ≡ past_byte 44 p.1 → more r ≡ again r)
      → first_and_more split more t o ≡ first_and_more split again t o
  first_same more again t o h1 = grind (arith, common_steps)

  at_end : (n : ℕ) (t : List ℕ) → length t ≡ 0 → ([], t) ≡ separated split n t
  unfolding separated
  at_end n t h1 = grind (arith, common_steps)

  pub enough : (n m : ℕ) (t : List ℕ) → length t ≤ n → length t ≤ m → separated split n t ≡ separated split m t
  unfolding separated
  enough zero m t h k = at_end m t (omega arith)
  enough (suc n) zero t h k = sym (at_end (suc n) t (omega arith))
  enough (suc n) (suc m) t h k =
      first_same (separated split n) (separated split m) t (split t)
      (λ p r e f. enough n m r (omega (arith, shortens t p e, past_byte-shorter 44 p.1 r f)) (omega (arith, shortens t p e, past_byte-shorter 44 p.1 r f)))

  pub turn : (t : List ℕ) → listed split t ≡ first_and_more split (listed split) t (split t)
  unfolding separated
  turn t = enough (length t) (suc (length t)) t (omega arith) (omega arith) ∙ unroll
    where
      unroll : separated split (suc (length t)) t ≡ first_and_more split (listed split) t (split t)
      unroll = first_same (separated split (length t)) (listed split) t (split t)
          (λ p r e f. enough (length t) (length r) r (omega (arith, shortens t p e, past_byte-shorter 44 p.1 r f)) (omega arith))

  pub listed-none : (t : List ℕ) → None ≡ split t → listed split t ≡ ([], t)
  listed-none t e = turn t ∙ ap (first_and_more split (listed split) t) (sym e)

  pub listed-last : (t : List ℕ) (p : A × List ℕ) → Some p ≡ split t → None ≡ past_byte 44 p.1 → listed split t ≡ (p.0 ∷ [], p.1)
  listed-last t p e f = grind (arith, common_steps, turn)

  pub listed-more : (t : List ℕ) (p : A × List ℕ) (r : List ℕ) → Some p ≡ split t → Some r ≡ past_byte 44 p.1 → listed split t ≡ (p.0 ∷ (listed split r).0, (listed split r).1)
  listed-more t p r e f = grind (arith, common_steps, turn)

  -- ---- the parts found so far, and the others

  pub grown-none : (done : List A) (t : List ℕ) (whole : List A × List ℕ) → None ≡ split t → (done ++ (listed split t).0, (listed split t).1) ≡ whole → (done, t) ≡ whole
  grown-none done t whole e h = grind (arith, common_steps, listed-none, append-nil)

  pub grown-last : (done : List A) (t : List ℕ) (p : A × List ℕ) (whole : List A × List ℕ) → Some p ≡ split t → None ≡ past_byte 44 p.1 → (done ++ (listed split t).0, (listed split t).1) ≡ whole → (done ++ p.0 ∷ [], p.1) ≡ whole
  grown-last done t p whole e f h = sym (ap (λ (q : List A × List ℕ). (done ++ q.0, q.1)) (listed-last t p e f)) ∙ h

  pub grown-more : (done : List A) (t : List ℕ) (p : A × List ℕ) (r : List ℕ) (whole : List A × List ℕ) → Some p ≡ split t → Some r ≡ past_byte 44 p.1 → (done ++ (listed split t).0, (listed split t).1) ≡ whole
      → ((done ++ p.0 ∷ []) ++ (listed split r).0, (listed split r).1) ≡ whole
  grown-more done t p r whole e f h = grind (arith, common_steps, listed-more, append_assoc)

  pub found-none : (done : List A) (t : List ℕ) (all : List A) → None ≡ split t → done ++ (listed split t).0 ≡ all → done ≡ all
  found-none done t all e h = sym (append-nil done) ∙ sym (ap (λ (q : List A × List ℕ). done ++ q.0) (listed-none t e)) ∙ h

  pub found-last : (done : List A) (t : List ℕ) (p : A × List ℕ) (all : List A) → Some p ≡ split t → None ≡ past_byte 44 p.1 → done ++ (listed split t).0 ≡ all → done ++ p.0 ∷ [] ≡ all
  found-last done t p all e f h = sym (ap (λ (q : List A × List ℕ). done ++ q.0) (listed-last t p e f)) ∙ h

  pub found-more : (done : List A) (t : List ℕ) (p : A × List ℕ) (r : List ℕ) (all : List A) → Some p ≡ split t → Some r ≡ past_byte 44 p.1 → done ++ (listed split t).0 ≡ all
      → (done ++ p.0 ∷ []) ++ (listed split r).0 ≡ all
  found-more done t p r all e f h = append_assoc done (p.0 ∷ []) (listed split r).0 ∙ sym (ap (λ (q : List A × List ℕ). done ++ q.0) (listed-more t p r e f)) ∙ h

pub Shortens-split_value : Shortens split_value
Shortens-split_value t p e = split_value-shorter t p e

pub Shortens-split_member : Shortens split_member
Shortens-split_member t p e = split_member-shorter t p e
