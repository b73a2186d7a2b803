-- The lengths of strings and nested values.
use Rattle.std.proofs.Common.{◌≡◌, ℕ, suc, ◌+◌, ◌-◌, ◌<◌, ◌≤◌, ◌⊎◌, inl, inr, Bool, true, false, cond, ◌==◌, List, [], ◌∷◌, length, take, drop, get_or, Option, Some, None, option_map, option_and_then, refl, sym, ap, ◌∙◌, subst, arith}
use Rattle.std.proofs.lemmas.{List.drop_more, List.drop_all, List.take_all, List.length-drop, Bool.eqb-true, Bool.true≢false, Grind.common_steps}
use Rattle.std.proofs.lemmas.Str.{IsCharBoundary-end, IsCharBoundary-after_ascii, IsCharBoundary-start}
use Rattle.std.specs.{List.prefix_len, Str.IsUtf8, Str.IsCharBoundary}
use Rattle.json.specs.{Word.is_space, Align.span, Align.span_byte}
use Rattle.json.specs.Lex.{Mode, in_string, in_escape, quote, backslash, operator, space, other}
use Rattle.bx_cut.specs.Cut.{Scan, outside, quoted, escaped, opens, closes, nest_len, value_len, is_word_byte, begins_with, after_first, past_byte, past_blank, split_value, split_member, Member, after_key, with_value, IsRest}

span_of_tests : (a b c d : Bool) (k : Mode → ℕ) → span_byte in_string (cond a quote (cond b backslash (cond c operator (cond d space other)))) k ≡ cond a 1 (cond b (1 + k in_escape) (1 + k in_string))
span_of_tests a b c d k = grind (arith, common_steps)

pub span-cons : (x : ℕ) (xs : List ℕ) → span in_string (x ∷ xs) ≡ cond (x == 34) 1 (cond (x == 92) (1 + span in_escape xs) (1 + span in_string xs))
unfolding span
span-cons x xs = span_of_tests (x == 34) (x == 92) _ _ (λ m. span m xs)

pub span-in_string : (d : List ℕ) (i : ℕ) → i < length d → span in_string (drop i d) ≡ cond (get_or d i 0 == 34) 1 (cond (get_or d i 0 == 92) (1 + span in_escape (drop (i + 1) d)) (1 + span in_string (drop (i + 1) d)))
span-in_string d i h = ap (span in_string) (drop_more d i 0 h) ∙ span-cons (get_or d i 0) (drop (i + 1) d)

pub span-in_escape : (d : List ℕ) (i : ℕ) → i < length d → span in_escape (drop i d) ≡ 1 + span in_string (drop (i + 1) d)
unfolding span
span-in_escape d i h = ap (span in_escape) (drop_more d i 0 h)

pub span-end : (d : List ℕ) (i : ℕ) (m : Mode) → length d ≤ i → span m (drop i d) ≡ 0
unfolding span
span-end d i m h = ap (span m) (drop_all i d h)

pub nest-outside : (d : List ℕ) (i depth : ℕ) → i < length d → nest_len outside depth (drop i d)
    ≡ 1 + cond (get_or d i 0 == 34) (nest_len quoted depth (drop (i + 1) d)) (cond (opens (get_or d i 0)) (nest_len outside (depth + 1) (drop (i + 1) d)) (cond (closes (get_or d i 0)) (cond (depth == 0) 0 (nest_len outside (depth - 1) (drop (i + 1) d))) (nest_len outside depth (drop (i + 1) d))))
unfolding nest_len
nest-outside d i depth h = ap (nest_len outside depth) (drop_more d i 0 h)

pub nest-end : (d : List ℕ) (i depth : ℕ) (m : Scan) → length d ≤ i → nest_len m depth (drop i d) ≡ 0
unfolding nest_len
nest-end d i depth m h = ap (nest_len m depth) (drop_all i d h)

abbrev pub mode_of : Bool → Mode
mode_of true = in_escape
mode_of false = in_string

abbrev pub scan_of : Bool → Scan
scan_of true = escaped
scan_of false = quoted

past_one : (n k : ℕ) (x : ℕ) (xs : List ℕ) → n ≡ 1 + k → drop n (x ∷ xs) ≡ drop k xs
past_one n k x xs e = let s : n ≡ suc k = omega arith in ap (λ j. drop j (x ∷ xs)) s

one_more : (a b s depth x : ℕ) (xs : List ℕ) → a ≡ s + nest_len outside depth (drop s xs) → b ≡ 1 + a → b ≡ 1 + s + nest_len outside depth (drop (1 + s) (x ∷ xs))
one_more a b s depth x xs h e = let same = past_one (1 + s) s x xs refl in rw same (omega arith)

pub nest-string : (e : Bool) (depth : ℕ) (xs : List ℕ) → nest_len (scan_of e) depth xs ≡ span (mode_of e) xs + nest_len outside depth (drop (span (mode_of e) xs) xs)
unfolding nest_len span
nest-string true depth [] = refl
nest-string false depth [] = refl
nest-string true depth (x ∷ xs) = one_more _ _ _ depth x xs (nest-string false depth xs) refl
nest-string false depth (x ∷ xs) = grind (arith, common_steps, span-cons, one_more, nest-string true depth xs, nest-string false depth xs)

-- ---- a scan ends with the text, or after a quote or a closing bracket

-- `n` is the length of the text `t`, or `P` holds of the byte of `t` before index `n`.
abbrev pub EndsBy : (ℕ → Type 0) → List ℕ → ℕ → Type 0
EndsBy P t n = (n ≡ length t) ⊎ ((k : ℕ) × (n ≡ suc k) × (k < length t) × P (get_or t k 0))

module _ (P : ℕ → Type 0) where
  ends_one : (x : ℕ) (xs : List ℕ) → P x → EndsBy P (x ∷ xs) 1
  ends_one x xs h = inr (0, refl, omega arith, h)

  pub ends_more : (x : ℕ) (xs : List ℕ) (n : ℕ) → EndsBy P xs n → EndsBy P (x ∷ xs) (1 + n)
  ends_more x xs n (inl e) = inl (omega arith)
  ends_more x xs n (inr e) = inr (suc e.0, omega (arith, e.1), omega (arith, e.2), e.3)

  module _ (at_quote : P 34) (at_close : (x : ℕ) → closes x ≡ true → P x) where
    pub ends_string : (e : Bool) (xs : List ℕ) → EndsBy P xs (span (mode_of e) xs)
    unfolding span
    ends_string true [] = inl refl
    ends_string false [] = inl refl
    ends_string true (x ∷ xs) = ends_more x xs _ (ends_string false xs)
    ends_string false (x ∷ xs) = subst (EndsBy P (x ∷ xs)) (sym (span-cons x xs)) (by_tests (ends_string true xs) (ends_string false xs) (x == 34) (x == 92) (eqb-true x 34))
      where
        by_tests : EndsBy P xs (span in_escape xs) → EndsBy P xs (span in_string xs) → (a b : Bool) → (a ≡ true → x ≡ 34) → EndsBy P (x ∷ xs) (cond a 1 (cond b (1 + span in_escape xs) (1 + span in_string xs)))
        by_tests after_escape after_plain true b q = ends_one x xs (subst P (sym (q refl)) at_quote)
        by_tests after_escape after_plain false true q = ends_more x xs _ after_escape
        by_tests after_escape after_plain false false q = ends_more x xs _ after_plain

    pub ends_nested : (m : Scan) (depth : ℕ) (xs : List ℕ) → EndsBy P xs (nest_len m depth xs)
    unfolding nest_len
    ends_nested outside depth [] = inl refl
    ends_nested quoted depth [] = inl refl
    ends_nested escaped depth [] = inl refl
    ends_nested escaped depth (x ∷ xs) = ends_more x xs _ (ends_nested quoted depth xs)
    ends_nested quoted depth (x ∷ xs) = by_tests (ends_nested outside depth xs) (ends_nested escaped depth xs) (ends_nested quoted depth xs) (x == 34) (x == 92)
      where
        by_tests : EndsBy P xs (nest_len outside depth xs) → EndsBy P xs (nest_len escaped depth xs) → EndsBy P xs (nest_len quoted depth xs) → (a b : Bool)
            → EndsBy P (x ∷ xs) (1 + cond a (nest_len outside depth xs) (cond b (nest_len escaped depth xs) (nest_len quoted depth xs)))
        by_tests f g h true b = ends_more x xs _ f
        by_tests f g h false true = ends_more x xs _ g
        by_tests f g h false false = ends_more x xs _ h
    ends_nested outside depth (x ∷ xs) =
        by_tests (ends_nested quoted depth xs) (ends_nested outside (depth + 1) xs) (ends_nested outside (depth - 1) xs) (ends_nested outside depth xs) (x == 34) (opens x) (closes x) (depth == 0) (at_close x)
      where
        by_tests : EndsBy P xs (nest_len quoted depth xs) → EndsBy P xs (nest_len outside (depth + 1) xs) → EndsBy P xs (nest_len outside (depth - 1) xs) → EndsBy P xs (nest_len outside depth xs)
            → (a b c d : Bool) → (c ≡ true → P x)
            → EndsBy P (x ∷ xs) (1 + cond a (nest_len quoted depth xs) (cond b (nest_len outside (depth + 1) xs) (cond c (cond d 0 (nest_len outside (depth - 1) xs)) (nest_len outside depth xs))))
        by_tests f g h k true b c d q = ends_more x xs _ f
        by_tests f g h k false true c d q = ends_more x xs _ g
        by_tests f g h k false false true true q = ends_one x xs (q refl)
        by_tests f g h k false false true false q = ends_more x xs _ h
        by_tests f g h k false false false d q = ends_more x xs _ k

  ends_len : (t : List ℕ) (n : ℕ) → EndsBy P t n → n ≤ length t
  ends_len t n h1 = grind (arith, common_steps)

abbrev pub EndsWell : List ℕ → ℕ → Type 0
EndsWell = EndsBy (λ x. x < 128)

closes_ascii : (x : ℕ) → closes x ≡ true → x < 128
closes_ascii x h = grind (arith, h, common_steps)

quote_ascii : 34 < 128
quote_ascii = omega arith

well_string : (xs : List ℕ) → EndsWell xs (span in_string xs)
well_string xs = ends_string (λ x. x < 128) quote_ascii closes_ascii false xs

well_nested : (xs : List ℕ) → EndsWell xs (nest_len outside 0 xs)
well_nested xs = ends_nested (λ x. x < 128) quote_ascii closes_ascii outside 0 xs

pub span_le : (xs : List ℕ) → span in_string xs ≤ length xs
span_le xs = ends_len (λ x. x < 128) xs (span in_string xs) (well_string xs)

prefix_len_le : (p : ℕ → Bool) (t : List ℕ) → prefix_len p t ≤ length t
prefix_len_le p [] = omega arith
prefix_len_le p (x ∷ xs) = grind (arith, common_steps, prefix_len_le p xs)

ends_boundary : (t : List ℕ) (n : ℕ) → IsUtf8 t → EndsWell t n → IsCharBoundary t n
ends_boundary t n u (inl e) = subst (IsCharBoundary t) (sym e) (IsCharBoundary-end t)
ends_boundary t n u (inr e) =
    let next : e.0 + 1 ≡ n = omega (arith, e.1) in
    subst (IsCharBoundary t) next (IsCharBoundary-after_ascii t e.0 u e.2 e.3)

pub string_boundary : (t : List ℕ) → IsUtf8 t → 0 < length t → IsCharBoundary t (1 + span in_string (drop 1 t))
string_boundary [] u h = let no : ⊥ = omega arith in absurd no
string_boundary (x ∷ xs) u h = ends_boundary (x ∷ xs) _ u (ends_more (λ x. x < 128) x xs _ (well_string xs))

pub nested_boundary : (t : List ℕ) → IsUtf8 t → 0 < length t → IsCharBoundary t (1 + nest_len outside 0 (drop 1 t))
nested_boundary [] u h = let no : ⊥ = omega arith in absurd no
nested_boundary (x ∷ xs) u h = ends_boundary (x ∷ xs) _ u (ends_more (λ x. x < 128) x xs _ (well_nested xs))

pub value_len-at : (t : List ℕ) → 0 < length t → value_len t ≡ cond (get_or t 0 0 == 34) (1 + span in_string (drop 1 t)) (cond (opens (get_or t 0 0)) (1 + nest_len outside 0 (drop 1 t)) (prefix_len is_word_byte t))
unfolding value_len
value_len-at t h1 = grind (arith, common_steps)

pub value_len-nil : value_len [] ≡ 0
unfolding value_len
value_len-nil = refl

pub first_boundary : (b : ℕ) (t : List ℕ) → IsUtf8 t → begins_with b t ≡ true → b < 128 → IsCharBoundary t 1
first_boundary b [] u h s = absurd (true≢false (sym h))
first_boundary b (x ∷ xs) u h s =
    let e : x ≡ b = eqb-true x b h in
    IsCharBoundary-after_ascii (x ∷ xs) 0 u (omega arith) (omega arith)

some_none : {A : Type 0} {B : Type 0} (r : B) → Some r ≡ None → A
some_none r e = cc

pub some_same : {A : Type 0} (x y : A) → Some x ≡ Some y → x ≡ y
some_same x y e = cc

pub from_cond_none : {A : Type 0} (y : A) (b : Bool) (o : Option A) → Some y ≡ cond b None o → (b ≡ false) × (Some y ≡ o)
from_cond_none y true o e = some_none y e
from_cond_none y false o e = (refl, e)

pub from_cond_some : {A : Type 0} (y : A) (b : Bool) (o : Option A) → Some y ≡ cond b o None → (b ≡ true) × (Some y ≡ o)
from_cond_some y true o e = (refl, e)
from_cond_some y false o e = some_none y e

pub from_map : {A B : Type 0} (f : A → B) (o : Option A) (y : B) → Some y ≡ option_map f o → (x : A) × (Some x ≡ o) × (y ≡ f x)
from_map f None y e = some_none y e
from_map f (Some x) y e = (x, refl, some_same y (f x) e)

pub from_and_then : {A B : Type 0} (f : A → Option B) (o : Option A) (y : B) → Some y ≡ option_and_then f o → (x : A) × (Some x ≡ o) × (Some y ≡ f x)
from_and_then f None y e = some_none y e
from_and_then f (Some x) y e = (x, refl, e)

value_len_le : (t : List ℕ) → value_len t ≤ length t
unfolding value_len
value_len_le t = grind (arith, common_steps, ends_len, well_string, well_nested, prefix_len_le)

pub after_first-length : (b : ℕ) (t r : List ℕ) → Some r ≡ after_first b t → length r + 1 ≡ length t
unfolding after_first
after_first-length b t r h1 = grind (arith, common_steps)

pub IsRest-drop : (n : ℕ) (t : List ℕ) → IsCharBoundary t n → IsRest (drop n t) t
IsRest-drop n t b = grind (arith, common_steps)

pub IsRest-whole : (t : List ℕ) → IsUtf8 t → IsRest t t
IsRest-whole t u = IsRest-drop 0 t (IsCharBoundary-start t u)

pub IsRest-of : (s r t : List ℕ) → IsRest s r → IsRest r t → IsRest s t
IsRest-of s r t h k = grind (arith, common_steps)

pub past_byte-shorter : (b : ℕ) (t r : List ℕ) → Some r ≡ past_byte b t → length r < length t
past_byte-shorter b t r e = omega (arith, after_first-length b (past_blank t) r e, length-drop (prefix_len is_space t) t)

pub split_value-shorter : (t : List ℕ) (p : List ℕ × List ℕ) → Some p ≡ split_value t → length p.1 < length t
unfolding split_value
split_value-shorter t p e = grind (arith, common_steps, from_cond_none, some_same, common_steps, value_len_le, length-drop)

with_value-shorter : (t key : List ℕ) (v : Option (List ℕ × List ℕ)) (p : Member × List ℕ) → ((q : List ℕ × List ℕ) → Some q ≡ v → length q.1 < length t) → Some p ≡ with_value key v → length p.1 < length t
with_value-shorter t key v p h e = grind (arith, common_steps)

pub split_member-shorter : (t : List ℕ) (p : Member × List ℕ) → Some p ≡ split_member t → length p.1 < length t
unfolding split_member
split_member-shorter t p e =
    let key = from_and_then after_key (split_value t) p e in
    let first = split_value-shorter t key.0 key.1 in
    let then_value = λ (r : List ℕ). with_value key.0.0 (split_value r) in
    let quoted = from_cond_some p (begins_with 34 key.0.0) (option_and_then then_value (past_byte 58 key.0.1)) key.2 in
    let colon = from_and_then then_value (past_byte 58 key.0.1) p quoted.1 in
    let second = past_byte-shorter 58 key.0.1 colon.0 colon.1 in
    let third = with_value-shorter colon.0 key.0.0 (split_value colon.0) p (split_value-shorter colon.0) colon.2 in
    omega (arith, first, second, third)

-- ---- lemmas for the functions of `scan.rt`

pub ruleset string_ends = (span-in_string, span-in_escape, span-end, common_steps)

pub ruleset nest_ends = (nest-outside, nest-end, common_steps)

pub past_first : (b : List ℕ) → take (length b - 1) (drop 1 b) ≡ drop 1 b
past_first b = take_all (length b - 1) (drop 1 b) (omega (arith, length-drop 1 b))

pub ruleset value_ends = (past_first, value_len-nil, value_len-at, string_boundary, nested_boundary, common_steps)
