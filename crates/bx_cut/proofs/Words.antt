-- The text of a number or a literal, up to the end of the word.
use Rattle.std.proofs.Common.{◌≡◌, ℕ, ◌+◌, ◌-◌, ◌<◌, Bool, true, false, cond, ◌&&◌, ◌||◌, ◌==◌, nat_eq, List, [], ◌∷◌, ◌++◌, length, take, drop, Option, Some, None, option_and_then, refl, sym, ap, ◌∙◌, subst, arith}
use Rattle.std.proofs.lemmas.{Bool.true≢false, Bool.eqb-true, Bool.Decides.Decides-eqb, Slice.Eq.starts_is, Grind.common_steps}
use Rattle.std.proofs.lemmas.List.{append_assoc, take-append-drop, length-append, take_at}
use Rattle.std.specs.{Char.is_ascii_digit, List.prefix_len, List.starts_with}
use Rattle.json.specs.Token.{Token, number, boolean, null, bad}
use Rattle.json.specs.Word.{head, ends_word, after_digits, after_minus, after_sign, after_whole, after_fraction, after_exponent, after_number, number_before, literal, word}
use Rattle.json.specs.Print.{IsNumber}
use Rattle.json.proofs.Printed.Numbers.{number_alone}
use Rattle.json.specs.Ascii as ascii
use Rattle.bx_cut.specs.Cut.{outside, nest_len, is_word_byte}
use Rattle.bx_cut.proofs.{Bytes.Other, Reach.from_and_then, Reach.some_same}

pub record Letter (x : ℕ) : Type 0 where
  pub other : Other x
  pub low : x < 128

abbrev pub AllOther : List ℕ → Type 0
AllOther [] = Unit {0}
AllOther (x ∷ xs) = Letter x × AllOther xs

all_both : (xs ys : List ℕ) → AllOther xs → AllOther ys → AllOther (xs ++ ys)
all_both [] ys h k = k
all_both (x ∷ xs) ys h k = (h.0, all_both xs ys h.1 k)

pub other_nests : (s : List ℕ) → AllOther s → (depth : ℕ) (z : List ℕ) → nest_len outside depth (s ++ z) ≡ length s + nest_len outside depth z
unfolding nest_len
other_nests [] h depth z = omega arith
other_nests (x ∷ xs) h depth z = grind (arith, common_steps, other_nests xs h.1 depth z)

ends_none : (z : List ℕ) → ends_word z ≡ true → prefix_len is_word_byte z ≡ 0
ends_none z h1 = grind (arith, common_steps)

pub other_len : (s : List ℕ) → AllOther s → (z : List ℕ) → ends_word z ≡ true → prefix_len is_word_byte (s ++ z) ≡ length s
other_len [] h z e = ends_none z e
other_len (x ∷ xs) h z e = ap (λ b. cond b (1 + prefix_len is_word_byte (xs ++ z)) 0) h.0.other.word_byte ∙ omega (arith, other_len xs h.1 z e)

-- ---- the bytes of the parts of a number

pub record Part (t r : List ℕ) : Type 0 where
  pub taken : List ℕ
  pub at : t ≡ taken ++ r
  pub all : AllOther taken

nothing : (t : List ℕ) → Part t t
nothing t = record { taken = []; at = refl; all = tt }

both : (t u r : List ℕ) → Part t u → Part u r → Part t r
both t u r p q = record {
  taken = p.taken ++ q.taken;
  at = p.at ∙ ap (λ (x : List ℕ). p.taken ++ x) q.at ∙ sym (append_assoc p.taken q.taken r);
  all = all_both p.taken q.taken p.all q.all;
}

one : (c : ℕ) → Letter c → (t : List ℕ) → (head t == c) ≡ true → Part t (drop 1 t)
one c o [] h = let e : 32 ≡ c = eqb-true 32 c h in absurd (true≢false (sym (subst Letter (sym e) o).other.word_byte))
one c o (x ∷ xs) h = let e : x ≡ c = eqb-true x c h in record { taken = x ∷ []; at = refl; all = (subst Letter (sym e) o, tt) }

digit_other : (y : ℕ) → is_ascii_digit y ≡ true → Letter y
digit_other y h = grind (arith, common_steps)

all_digits : (t : List ℕ) → AllOther (take (prefix_len is_ascii_digit t) t)
all_digits [] = tt
all_digits (x ∷ xs) = by_test (is_ascii_digit x) refl (all_digits xs)
  where
    by_test : (b : Bool) → is_ascii_digit x ≡ b → AllOther (take (prefix_len is_ascii_digit xs) xs) → AllOther (take (cond b (1 + prefix_len is_ascii_digit xs) 0) (x ∷ xs))
    by_test b h1 h2 = grind (arith, common_steps)

digits : (t r : List ℕ) → Some r ≡ after_digits t → Part t r
digits t r e = by_test (prefix_len is_ascii_digit t == 0) e
  where
    n : ℕ
    n = prefix_len is_ascii_digit t

    by_test : (b : Bool) → Some r ≡ cond b None (Some (drop (prefix_len is_ascii_digit t) t)) → Part t r
    by_test true f = cc
    by_test false f =
        let same : r ≡ drop (prefix_len is_ascii_digit t) t = cc in
        record { taken = take (prefix_len is_ascii_digit t) t; at = sym (take-append-drop (prefix_len is_ascii_digit t) t) ∙ ap (λ (x : List ℕ). take (prefix_len is_ascii_digit t) t ++ x) (sym same); all = all_digits t }

minus_other : Letter 45
minus_other = record { low = omega arith; other = record { class_is = refl; quote_not = refl; opens_not = refl; closes_not = refl; word_byte = refl } }

minus : (t : List ℕ) → Part t (after_minus t)
minus t = grind (arith, common_steps, one, minus_other, nothing)

sign : (t : List ℕ) → Part t (after_sign t)
sign t = by_tests (head t == 45) (head t == 43) refl refl
  where
    by_tests : (a b : Bool) → (head t == 45) ≡ a → (head t == 43) ≡ b → Part t (cond (a || b) (drop 1 t) t)
    by_tests true b e f = one 45 minus_other t e
    by_tests false true e f = one 43 (record { low = omega arith; other = record { class_is = refl; quote_not = refl; opens_not = refl; closes_not = refl; word_byte = refl } }) t f
    by_tests false false e f = nothing t

drop_same : (t u r : List ℕ) → Some r ≡ Some u → Part t u → Part t r
drop_same t u r e p = subst (Part t) (sym (some_same r u e)) p

whole : (t r : List ℕ) → Some r ≡ after_whole t → Part t r
whole t r e = grind (arith, common_steps, drop_same, one, digit_other, digits)

fraction : (t r : List ℕ) → Some r ≡ after_fraction t → Part t r
fraction t r e = by_test (head t == 46) refl e
  where
    by_test : (b : Bool) → (head t == 46) ≡ b → Some r ≡ cond b (after_digits (drop 1 t)) (Some t) → Part t r
    by_test true e f = both t (drop 1 t) r (one 46 (record { low = omega arith; other = record { class_is = refl; quote_not = refl; opens_not = refl; closes_not = refl; word_byte = refl } }) t e) (digits (drop 1 t) r f)
    by_test false e f = drop_same t t r f (nothing t)

exponent : (t r : List ℕ) → Some r ≡ after_exponent t → Part t r
exponent t r e = by_tests (head t == 101) (head t == 69) refl refl e
  where
    then_digits : Part t (drop 1 t) → Some r ≡ after_digits (after_sign (drop 1 t)) → Part t r
    then_digits p f = both t (drop 1 t) r p (both (drop 1 t) (after_sign (drop 1 t)) r (sign (drop 1 t)) (digits (after_sign (drop 1 t)) r f))

    by_tests : (a b : Bool) → (head t == 101) ≡ a → (head t == 69) ≡ b → Some r ≡ cond (a || b) (after_digits (after_sign (drop 1 t))) (Some t) → Part t r
    by_tests true b e f g = then_digits (one 101 (record { low = omega arith; other = record { class_is = refl; quote_not = refl; opens_not = refl; closes_not = refl; word_byte = refl } }) t e) g
    by_tests false true e f g = then_digits (one 69 (record { low = omega arith; other = record { class_is = refl; quote_not = refl; opens_not = refl; closes_not = refl; word_byte = refl } }) t f) g
    by_tests false false e f g = drop_same t t r g (nothing t)

pub number_part : (t r : List ℕ) → Some r ≡ after_number t → Part t r
unfolding after_number
number_part t r e =
    let v = from_and_then after_exponent (option_and_then after_fraction (after_whole (after_minus t))) r e in
    let w = from_and_then after_fraction (after_whole (after_minus t)) v.0 v.1 in
    both t (after_minus t) r (minus t) (both (after_minus t) w.0 r (whole (after_minus t) w.0 w.1) (both w.0 v.0 r (fraction w.0 v.0 w.2) (exponent v.0 r v.2)))

-- ---- the text of a word

abbrev pub true_text : List ℕ
true_text = 116 ∷ 114 ∷ 117 ∷ 101 ∷ []

abbrev pub false_text : List ℕ
false_text = 102 ∷ 97 ∷ 108 ∷ 115 ∷ 101 ∷ []

abbrev pub null_text : List ℕ
null_text = 110 ∷ 117 ∷ 108 ∷ 108 ∷ []

abbrev pub Ended : List ℕ → List ℕ → Type 0
Ended s t = (r : List ℕ) × (t ≡ s ++ r) × (ends_word r ≡ true)

abbrev pub WordText : List ℕ → Token → Type 0
WordText t (number s) = Ended s t × AllOther s × IsNumber s
WordText t (boolean true) = Ended true_text t
WordText t (boolean false) = Ended false_text t
WordText t null = Ended null_text t
WordText t _ = Unit {0}

either : (t : List ℕ) (b : Bool) (x y : Token) → WordText t x → WordText t y → WordText t (cond b x y)
either t b x y h1 h2 = grind (arith, common_steps)

named : (t name : List ℕ) (k : Token) → (Ended name t → WordText t k) → WordText t (literal name k t)
named t name k f = by_tests (starts_with nat_eq t name) (ends_word (drop (length name) t)) refl refl
  where
    by_tests : (a b : Bool) → starts_with nat_eq t name ≡ a → ends_word (drop (length name) t) ≡ b → WordText t (cond (a && b) k bad)
    by_tests true true e g = f (drop (length name) t, (starts_is Decides-eqb t name true (sym e)).0 refl, g)
    by_tests true false e g = tt
    by_tests false b e g = tt

numbered : (t : List ℕ) (o : Option (List ℕ)) → o ≡ after_number t → WordText t (number_before t o)
numbered t None e = tt
numbered t (Some r) e = by_test (ends_word r) refl
  where
    by_test : (b : Bool) → ends_word r ≡ b → WordText t (cond b (number (take (length t - length r) t)) bad)
    by_test true f =
        let p = number_part t r e in
        let long : length p.taken ≡ length t - length r = omega (arith, ap length p.at, length-append p.taken r) in
        let front : p.taken ≡ take (length t - length r) t = sym (ap (take (length t - length r)) p.at ∙ take_at p.taken r (length t - length r) long) in
        let at = p.at ∙ ap (λ (x : List ℕ). x ++ r) front in
        ((r, at, f), subst AllOther front p.all, number_alone (take (length t - length r) t) r f (ap after_number (sym at) ∙ sym e))
    by_test false f = tt

pub word_text : (t : List ℕ) → WordText t (word t)
unfolding word
word_text t =
    either t (head t == 116) _ _ (named t ascii.true_text (boolean true) (λ h. h)) (either t (head t == 102) _ _ (named t ascii.false_text (boolean false) (λ h. h))
    (either t (head t == 110) _ _ (named t ascii.null_text null (λ h. h)) (numbered t (after_number t) refl)))
