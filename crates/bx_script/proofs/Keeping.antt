-- How a part of a line is appended to what is kept.
use Rattle.std.proofs.Common.{◌≡◌, ℕ, suc, ◌-◌, ◌<◌, ◌≤◌, Bool, true, false, eqb, ltb, cond, List, [], ◌∷◌, ◌++◌, fold, length, take, refl, sym, ap, ◌∙◌, arith, append_assoc, append-nil, length-append, take_all, min, eqb-true, Result, Ok, Err, OnOk, is_ok}
use Rattle.std.proofs.lemmas.{Grind.common_steps, Bool.lt-ltb, Bool.ltb-true, Bool.ltb-false}
use Rattle.bx_script.specs.Kept.{without_zeros, is_lone_zero, keep_byte}

-- ---- After bytes that are not a lone zero

longer_is_no_zero : (k : List ℕ) (x : ℕ) → 0 < length k → is_lone_zero (k ++ x ∷ []) ≡ false
longer_is_no_zero [] x h = absurd (omega arith)
longer_is_no_zero (y ∷ k) x h = grind (arith, common_steps)

next_room : (limit : ℕ) (k : List ℕ) (x : ℕ) (xs : List ℕ)
    → fold (keep_byte limit) (k ++ x ∷ []) xs ≡ (k ++ x ∷ []) ++ take (limit - length (k ++ x ∷ [])) xs
    → fold (keep_byte limit) k xs ≡ k ++ take (limit - length k) xs
    → (b : Bool) → ltb (length k) limit ≡ b → fold (keep_byte limit) (cond b (k ++ x ∷ []) k) xs ≡ k ++ take (limit - length k) (x ∷ xs)
next_room limit k x xs more same true e =
    let low : length k < limit = ltb-true _ _ e in
    let room : limit - length k ≡ suc (limit - length (k ++ x ∷ [])) = omega (arith, length-append k (x ∷ [])) in
    more ∙ append_assoc k (x ∷ []) _ ∙ sym (ap (λ n. k ++ take n (x ∷ xs)) room)
next_room limit k x xs more same false e =
    let full : limit ≤ length k = ltb-false _ _ e in
    let room : limit - length k ≡ 0 = omega arith in
    same ∙ ap (λ n. k ++ take n xs) room ∙ sym (ap (λ n. k ++ take n (x ∷ xs)) room)

pub keeps_room : (limit : ℕ) (k xs : List ℕ) → is_lone_zero k ≡ false → 0 < length k → fold (keep_byte limit) k xs ≡ k ++ take (limit - length k) xs
keeps_room limit k [] none some = sym (ap (λ l. k ++ l) (take_all (limit - length k) [] (omega arith)) ∙ append-nil k)
keeps_room limit k (x ∷ xs) none some =
    let longer : 0 < length (k ++ x ∷ []) = omega (arith, length-append k (x ∷ [])) in
    let more = keeps_room limit (k ++ x ∷ []) xs (longer_is_no_zero k x some) longer in
    let same = keeps_room limit k xs none some in
    rw none (next_room limit k x xs more same (ltb (length k) limit) refl)

-- ---- After a lone zero

zeros_are_dropped : (limit : ℕ) (xs : List ℕ) → fold (keep_byte limit) (48 ∷ []) xs ≡ fold (keep_byte limit) (48 ∷ []) (without_zeros xs)
zeros_are_dropped limit [] = refl
zeros_are_dropped limit (x ∷ xs) = grind (arith, common_steps, zeros_are_dropped limit xs)

abbrev pub IsStripped : List ℕ → Type 0
IsStripped [] = Unit {0}
IsStripped (x ∷ xs) = eqb x 48 ≡ false

pub strips : (xs : List ℕ) → IsStripped (without_zeros xs)
strips [] = tt
strips (x ∷ xs) = grind (arith, common_steps, strips xs)

keeps_stripped : (limit : ℕ) (xs : List ℕ) → 1 < limit → IsStripped xs → fold (keep_byte limit) (48 ∷ []) xs ≡ 48 ∷ take (limit - 1) xs
keeps_stripped limit [] low h = ap (λ l. 48 ∷ l) (sym (take_all (limit - 1) [] (omega arith)))
keeps_stripped limit (x ∷ xs) low h =
    let room : limit - 1 ≡ suc (limit - 2) = omega arith in
    let more = keeps_room limit (48 ∷ x ∷ []) xs refl (omega arith) in
    rw (h, lt-ltb 1 limit low) (more ∙ sym (ap (λ n. 48 ∷ take n (x ∷ xs)) room))

pub keeps_behind_zero : (limit : ℕ) (xs : List ℕ) → 1 < limit → fold (keep_byte limit) (48 ∷ []) xs ≡ 48 ∷ take (limit - 1) (without_zeros xs)
keeps_behind_zero limit xs low = zeros_are_dropped limit xs ∙ keeps_stripped limit (without_zeros xs) low (strips xs)

-- ---- A part of a line

lone_zero_is : (k : List ℕ) → is_lone_zero k ≡ true → k ≡ 48 ∷ []
lone_zero_is k h = grind (arith, common_steps, eqb-true)

take_within : (n : ℕ) (xs : List ℕ) → take (min n (length xs)) xs ≡ take n xs
take_within n xs = grind (arith, common_steps)

pub keeps_part : (limit : ℕ) (k part p : List ℕ) → 1 < limit → 0 < length k → p ≡ cond (is_lone_zero k) (without_zeros part) part
    → fold (keep_byte limit) k part ≡ k ++ take (min (limit - length k) (length p)) p
keeps_part limit k part p low some chosen =
    by_test (is_lone_zero k) refl chosen ∙ ap (λ l. k ++ l) (sym (take_within (limit - length k) p))
  where
    by_test : (b : Bool) → is_lone_zero k ≡ b → p ≡ cond b (without_zeros part) part → fold (keep_byte limit) k part ≡ k ++ take (limit - length k) p
    by_test true e is =
        let zero = lone_zero_is k e in
        ap (λ l. fold (keep_byte limit) l part) zero ∙ keeps_behind_zero limit part low ∙ ap (λ l. 48 ∷ take (limit - 1) l) (sym is) ∙ sym (ap (λ l. l ++ take (limit - length l) p) zero)
    by_test false e is = keeps_room limit k part e some ∙ ap (λ l. k ++ take (limit - length k) l) (sym is)

pub when_ok : {T E : Type 0} (r : Result T E) (items a b c : List ℕ) → items ≡ cond (is_ok r) a b → a ≡ c → OnOk r (items ≡ c)
when_ok (Ok x) items a b c e f = e ∙ f
when_ok (Err x) items a b c e f = tt
