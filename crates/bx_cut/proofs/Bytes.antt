-- The lexer's first step, by the first byte of a text.
use Rattle.std.proofs.Common.{◌≡◌, ◌≢◌, ℕ, suc, ◌+◌, ◌⊎◌, Bool, true, false, cond, ◌||◌, ◌==◌, List, [], ◌∷◌, ◌++◌, length, take, drop, refl, sym, ap, ◌∙◌, subst, arith}
use Rattle.std.proofs.lemmas.Bool.{true≢false, eqb-true, or_cases}
use Rattle.std.proofs.lemmas.{List.take-append-drop, Grind.common_steps}
use Rattle.std.specs.List.{prefix_len}
use Rattle.json.specs.Word.{is_operator, is_space, ends_word}
use Rattle.json.specs.Lex.{between, other, class, lex}
use Rattle.bx_cut.specs.Cut.{past_blank, outside, opens, closes, nest_len, is_word_byte}

pub space_cases : (P : ℕ → Type 0) → P 32 → P 9 → P 10 → P 13 → (x : ℕ) → is_space x ≡ true → P x
space_cases P a b c d x h = third (or_cases ((x == 32) || (x == 9) || (x == 10)) (x == 13) h)
  where
    at : (n : ℕ) → P n → (x == n) ≡ true → P x
    at n p e = subst P (sym (eqb-true x n e)) p

    first : ((x == 32) ≡ true) ⊎ ((x == 9) ≡ true) → P x
    first h1 = grind (arith, common_steps)

    second : (((x == 32) || (x == 9)) ≡ true) ⊎ ((x == 10) ≡ true) → P x
    second h1 = grind (arith, common_steps)

    third : (((x == 32) || (x == 9) || (x == 10)) ≡ true) ⊎ ((x == 13) ≡ true) → P x
    third h1 = grind (arith, common_steps)

pub record Other (x : ℕ) : Type 0 where
  pub class_is : class x ≡ other
  pub quote_not : (x == 34) ≡ false
  pub opens_not : opens x ≡ false
  pub closes_not : closes x ≡ false
  pub word_byte : is_word_byte x ≡ true

pub is_other : (x : ℕ) → x ≢ 34 → x ≢ 92 → x ≢ 123 → x ≢ 125 → x ≢ 91 → x ≢ 93 → x ≢ 58 → x ≢ 44 → x ≢ 32 → x ≢ 9 → x ≢ 10 → x ≢ 13 → Other x
is_other x a b c d e f g h i j k l = grind (arith, common_steps)

pub byte_cases : (P : ℕ → Type 0) → P 34 → P 92 → P 123 → P 125 → P 91 → P 93 → P 58 → P 44 → ((x : ℕ) → Other x → P x) → (x : ℕ) → is_space x ≡ false → P x
byte_cases P a b c d e f g h o x s =
    at 34 a (λ i. at 92 b (λ j. at 123 c (λ k. at 125 d (λ l. at 91 e (λ m. at 93 f (λ n. at 58 g (λ p. at 44 h (λ q.
    let blank : (y : ℕ) → is_space y ≡ true → x ≡ y → ⊥ = λ y t z. true≢false (sym (ap is_space z ∙ t) ∙ s) in
    o x (is_other x i j k l m n p q (blank 32 refl) (blank 9 refl) (blank 10 refl) (blank 13 refl))))))))))
  where
    at : (n : ℕ) → P n → ((x ≡ n → ⊥) → P x) → P x
    at n p q = grind (arith, common_steps)

-- ---- leading whitespace

pub record Blank (w : List ℕ) : Type 0 where
  pub lexes : (z : List ℕ) → lex between (w ++ z) ≡ lex between z
  pub nests : (depth : ℕ) (z : List ℕ) → nest_len outside depth (w ++ z) ≡ length w + nest_len outside depth z
  pub passed : (z : List ℕ) → past_blank (w ++ z) ≡ past_blank z
  pub ends : (z : List ℕ) → ends_word z ≡ true → ends_word (w ++ z) ≡ true

no_blank : Blank []
no_blank = record { lexes = λ z. refl; nests = λ depth z. omega arith; passed = λ z. refl; ends = λ z e. e }

pub next_one : (n : ℕ) (x : ℕ) (xs : List ℕ) → drop (1 + n) (x ∷ xs) ≡ drop n xs
next_one n x xs = let s : 1 + n ≡ suc n = omega arith in ap (λ k. drop k (x ∷ xs)) s

blank_more : (w : List ℕ) → Blank w → (x : ℕ) → is_space x ≡ true → Blank (x ∷ w)
unfolding lex nest_len
blank_more w b x h = space_cases (λ y. Blank (y ∷ w)) (step 32 (λ z. refl) (λ depth z. refl) (λ z. refl) refl) (step 9 (λ z. refl) (λ depth z. refl) (λ z. refl) refl)
    (step 10 (λ z. refl) (λ depth z. refl) (λ z. refl) refl) (step 13 (λ z. refl) (λ depth z. refl) (λ z. refl) refl) x h
  where
    step : (y : ℕ) → ((z : List ℕ) → lex between (y ∷ z) ≡ lex between z) → ((depth : ℕ) (z : List ℕ) → nest_len outside depth (y ∷ z) ≡ 1 + nest_len outside depth z)
        → ((z : List ℕ) → past_blank (y ∷ z) ≡ drop (1 + prefix_len is_space z) (y ∷ z)) → is_space y ≡ true → Blank (y ∷ w)
    step y l n p e = record {
      lexes = λ z. l (w ++ z) ∙ b.lexes z;
      nests = λ depth z. omega (arith, n depth (w ++ z), b.nests depth z);
      passed = λ z. p (w ++ z) ∙ next_one (prefix_len is_space (w ++ z)) y (w ++ z) ∙ b.passed z;
      ends = λ z h. ap (λ t. is_operator y || t) e ∙ or_true (is_operator y);
    }
      where
        or_true : (t : Bool) → (t || true) ≡ true
        or_true t = grind (arith, common_steps)

abbrev pub blanks : List ℕ → List ℕ
blanks t = take (prefix_len is_space t) t

pub Blank-blanks : (t : List ℕ) → Blank (blanks t)
Blank-blanks [] = no_blank
Blank-blanks (x ∷ xs) = by_test (is_space x) refl (Blank-blanks xs)
  where
    by_test : (s : Bool) → is_space x ≡ s → Blank (blanks xs) → Blank (take (cond s (1 + prefix_len is_space xs) 0) (x ∷ xs))
    by_test true e b =
        let n : suc (prefix_len is_space xs) ≡ 1 + prefix_len is_space xs = omega arith in
        subst (λ (k : ℕ). Blank (take k (x ∷ xs))) n (blank_more (blanks xs) b x e)
    by_test false e b = no_blank

pub split_blanks : (t : List ℕ) → t ≡ blanks t ++ past_blank t
split_blanks t = sym (take-append-drop (prefix_len is_space t) t)

pub past-lex : (t : List ℕ) → lex between t ≡ lex between (past_blank t)
past-lex t = ap (lex between) (split_blanks t) ∙ (Blank-blanks t).lexes (past_blank t)

abbrev pub BeginsFull : List ℕ → Type 0
BeginsFull [] = Unit {0}
BeginsFull (x ∷ xs) = is_space x ≡ false

pub past-full : (t : List ℕ) → BeginsFull (past_blank t)
past-full [] = tt
past-full (x ∷ xs) = grind (arith, common_steps, next_one, past-full xs)
