-- A list that is cut at the first byte with a given value.
use Rattle.std.proofs.Common.{◌≡◌, ℕ, suc, ◌+◌, ◌<◌, ◌≤◌, Bool, true, false, eqb, cond, not, List, [], ◌∷◌, ◌++◌, length, take, drop, refl, sym, ap, ◌∙◌, arith, position, Option, Some, None, eqb-true, eq-eqb, append-nil, zero, ◌⊎◌, inl, inr}
use Rattle.std.proofs.lemmas.{Bool.le-ltb, Bool.lt-ltb, Grind.common_steps, List.Sums.position_or_len_is}
use Rattle.memchr.specs.Find.{IsFirstByte, is_byte}
use Rattle.bx_script.specs.Replay.{is_newline}
use Rattle.std.specs.List.{before_first, after_first, position_or_len, slice_split, onto_first}

module _ (c : ℕ) where
  abbrev test : ℕ → Bool
  test x = eqb x c

  abbrev pub Lacks : List ℕ → Type 0
  Lacks [] = Unit {0}
  Lacks (x ∷ xs) = (test x ≡ false) × Lacks xs

  pub position_past : (x : ℕ) (xs : List ℕ) → test x ≡ false → position_or_len test (x ∷ xs) ≡ suc (position_or_len test xs)
  position_past x xs h = let past : 1 + position_or_len test xs ≡ suc (position_or_len test xs) = omega arith in rw h past

  pub before_past : (x : ℕ) (xs : List ℕ) → test x ≡ false → before_first test (x ∷ xs) ≡ x ∷ before_first test xs
  before_past x xs h = ap (λ n. take n (x ∷ xs)) (position_past x xs h)

  pub after_past : (x : ℕ) (xs : List ℕ) → test x ≡ false → after_first test (x ∷ xs) ≡ after_first test xs
  after_past x xs h =
      let past : position_or_len test (x ∷ xs) + 1 ≡ suc (position_or_len test xs + 1) = omega (arith, position_past x xs h) in
      ap (λ n. drop n (x ∷ xs)) past

  pub before_at : (x : ℕ) (xs : List ℕ) → test x ≡ true → before_first test (x ∷ xs) ≡ []
  before_at x xs h = rw h

  pub after_at : (x : ℕ) (xs : List ℕ) → test x ≡ true → after_first test (x ∷ xs) ≡ xs
  after_at x xs h = rw h

  pub before_behind : (m xs : List ℕ) → Lacks m → before_first test (m ++ xs) ≡ m ++ before_first test xs
  before_behind [] xs h = refl
  before_behind (x ∷ m) xs h = before_past x (m ++ xs) h.0 ∙ ap (λ l. x ∷ l) (before_behind m xs h.1)

  pub after_behind : (m xs : List ℕ) → Lacks m → after_first test (m ++ xs) ≡ after_first test xs
  after_behind [] xs h = refl
  after_behind (x ∷ m) xs h = after_past x (m ++ xs) h.0 ∙ after_behind m xs h.1

  pub before_lacks : (xs : List ℕ) → Lacks (before_first test xs)
  before_lacks [] = tt
  before_lacks (x ∷ xs) = next (before_lacks xs) (test x) refl
    where
      next : Lacks (before_first test xs) → (b : Bool) → test x ≡ b → Lacks (take (cond (not b) (1 + position_or_len test xs) 0) (x ∷ xs))
      next rest true e = tt
      next rest false e = let past : 1 + position_or_len test xs ≡ suc (position_or_len test xs) = omega arith in rw past (e, rest)

  pub position_within : (xs : List ℕ) → position_or_len test xs ≤ length xs
  position_within [] = omega arith
  position_within (x ∷ xs) = grind (arith, common_steps, position_within xs)

  pub none_is_all : (xs : List ℕ) → position test xs ≡ None → position_or_len test xs ≡ length xs
  none_is_all xs h = grind (arith, common_steps, position_within xs)

  pub taken_through : (xs : List ℕ) → position_or_len test xs < length xs → take (position_or_len test xs + 1) xs ≡ before_first test xs ++ c ∷ []
  taken_through [] h = absurd (omega arith)
  taken_through (x ∷ xs) h = grind (arith, common_steps, taken_through xs, eqb-true)

  -- ---- Lists with the byte, and without it

  pub lacks_taken : (n : ℕ) (xs : List ℕ) → Lacks xs → Lacks (take n xs)
  lacks_taken zero xs h = tt
  lacks_taken (suc n) [] h = tt
  lacks_taken (suc n) (x ∷ xs) h = (h.0, lacks_taken n xs h.1)

  pub before_all : (xs : List ℕ) → Lacks xs → before_first test xs ≡ xs
  before_all [] h = refl
  before_all (x ∷ xs) h = before_past x xs h.0 ∙ ap (λ l. x ∷ l) (before_all xs h.1)

  pub after_all : (xs : List ℕ) → Lacks xs → after_first test xs ≡ []
  after_all [] h = refl
  after_all (x ∷ xs) h = after_past x xs h.0 ∙ after_all xs h.1

  pub split_all : (xs : List ℕ) → Lacks xs → slice_split test xs ≡ xs ∷ []
  split_all [] h = refl
  split_all (x ∷ xs) h = rw h.0 (ap (onto_first x) (split_all xs h.1))

  pub split_behind : (m xs : List ℕ) → Lacks m → slice_split test (m ++ c ∷ xs) ≡ m ∷ slice_split test xs
  split_behind [] xs h = rw (eq-eqb c c refl)
  split_behind (x ∷ m) xs h = rw h.0 (ap (onto_first x) (split_behind m xs h.1))

  pub before_it : (m xs : List ℕ) → Lacks m → before_first test (m ++ c ∷ xs) ≡ m
  before_it m xs h = before_behind m (c ∷ xs) h ∙ ap (λ l. m ++ l) (before_at c xs (eq-eqb c c refl)) ∙ append-nil m

  pub after_it : (m xs : List ℕ) → Lacks m → after_first test (m ++ c ∷ xs) ≡ xs
  after_it m xs h = after_behind m (c ∷ xs) h ∙ after_at c xs (eq-eqb c c refl)

  pub record Parted (xs : List ℕ) : Type 0 where
    pub front : List ℕ
    pub back : List ℕ
    pub lacks : Lacks front
    pub whole : xs ≡ front ++ c ∷ back

  next_parted : (x : ℕ) (xs : List ℕ) → Lacks xs ⊎ Parted xs → (b : Bool) → test x ≡ b → Lacks (x ∷ xs) ⊎ Parted (x ∷ xs)
  next_parted x xs rest true e = inr (record { front = []; back = xs; lacks = tt; whole = ap (λ y. y ∷ xs) (eqb-true x c e) })
  next_parted x xs (inl lacks) false e = inl (e, lacks)
  next_parted x xs (inr p) false e = inr (record { front = x ∷ p.front; back = p.back; lacks = (e, p.lacks); whole = ap (λ l. x ∷ l) p.whole })

  pub parted : (xs : List ℕ) → Lacks xs ⊎ Parted xs
  parted [] = inl tt
  parted (x ∷ xs) = next_parted x xs (parted xs) (test x) refl

pub split_some : (p : ℕ → Bool) (xs : List ℕ) → (a : List ℕ) × (b : List (List ℕ)) × (slice_split p xs ≡ a ∷ b)
split_some p [] = ([], [], refl)
split_some p (x ∷ xs) = next (p x) (split_some p xs)
  where
    next : (b : Bool) → ((a : List ℕ) × (b : List (List ℕ)) × (slice_split p xs ≡ a ∷ b)) → (a : List ℕ) × (d : List (List ℕ)) × (cond b ([] ∷ slice_split p xs) (onto_first x (slice_split p xs)) ≡ a ∷ d)
    next true rest = ([], slice_split p xs, refl)
    next false rest = (x ∷ rest.0, rest.1, ap (onto_first x) rest.2)

is_false : (b : Bool) → (b ≡ true → ⊥) → b ≡ false
is_false b never = grind (arith, common_steps)

pub newline_found : (text : List ℕ) (r : Option ℕ) → IsFirstByte (is_byte 10) text r → r ≡ position is_newline text
newline_found text None none =
    let at : position_or_len is_newline text ≡ length text =
    position_or_len_is is_newline text (length text) 0 (omega arith) (λ k below. is_false _ (none k (omega arith) below)) (λ below. absurd (let no : ⊥ = omega (arith, below) in no)) in
    sym (ap (λ b. cond b (Some (position_or_len is_newline text)) None) (le-ltb (position_or_len is_newline text) (length text) (omega (arith, at))))
newline_found text (Some k) found =
    let at : position_or_len is_newline text ≡ k =
    position_or_len_is is_newline text k 0 (omega (arith, found.0.high)) (λ j below. is_false _ (found.0.before j (omega arith) below)) (λ below. found.1) in
    ap Some (sym at) ∙ sym (ap (λ b. cond b (Some (position_or_len is_newline text)) None) (lt-ltb (position_or_len is_newline text) (length text) (omega (arith, at, found.0.high))))
