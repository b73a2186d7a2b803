-- No value's text ends with whitespace, and only whitespace follows the last value.
use Rattle.std.proofs.Common.{◌≡◌, ℕ, suc, ◌+◌, ◌<◌, ◌≤◌, inl, inr, Bool, true, false, cond, ◌==◌, List, [], ◌∷◌, ◌++◌, length, take, get_or, refl, sym, ap, ◌∙◌, subst, arith}
use Rattle.std.proofs.Math.Seq.{get_or-append_seam}
use Rattle.std.proofs.lemmas.{List.append-nil, List.append_assoc, List.length-append, List.length-drop, List.Sums.prefix_len_passes, Grind.common_steps}
use Rattle.std.specs.List.{prefix_len}
use Rattle.json.specs.{Align.span, Token.Token, Word.is_space}
use Rattle.json.specs.Lex.{Lexeme, token, comma, colon, between, in_string, lex, Place, after_value, after_comma, begins_colon, place_token, punctuate}
use Rattle.serde_json.specs.Data.{Items, item}
use Rattle.bx_cut.specs.Words.{past_blank, is_word_byte, outside, closes, opens, nest_len, value_len, BeginsBare, EndsBare, IsBare, IsBlank, IsShut, StandsIn, GoesOnIn, AreObjectsOf, Object}
use Rattle.bx_cut.proofs.Bytes.{byte_cases, BeginsFull, past-full, past-lex, blanks, split_blanks}
use Rattle.bx_cut.proofs.{Reach.EndsBy, Reach.ends_more, Reach.ends_string, Reach.ends_nested, Values.Fits, Values.Text}

-- ---- no value's text ends with whitespace

abbrev NoSpace : ℕ → Type 0
NoSpace x = is_space x ≡ false

closes_full : (x : ℕ) → closes x ≡ true → NoSpace x
closes_full x h = grind (arith, common_steps)

word_full : (x : ℕ) → is_word_byte x ≡ true → NoSpace x
word_full x h = grind (arith, common_steps)

value_ends : (t : List ℕ) (k : ℕ) → value_len t ≡ suc k → suc k < length t → NoSpace (get_or t k 0)
unfolding value_len
value_ends [] k e h = let no : ⊥ = omega (arith, h) in absurd no
value_ends (x ∷ xs) k e h = by_tests (x == 34) (opens x) (ends_more NoSpace x xs _ (ends_string NoSpace refl closes_full false xs)) (ends_more NoSpace x xs _ (ends_nested NoSpace refl closes_full outside 0 xs)) e
  where
    ended : (n : ℕ) → n ≡ suc k → EndsBy NoSpace (x ∷ xs) n → NoSpace (get_or (x ∷ xs) k 0)
    ended n e (inl f) = let no : ⊥ = omega (arith, e, f, h) in absurd no
    ended n e (inr f) = let same : f.0 ≡ k = omega (arith, e, f.1) in subst (λ (i : ℕ). NoSpace (get_or (x ∷ xs) i 0)) same f.3

    by_tests : (a b : Bool) → EndsBy NoSpace (x ∷ xs) (1 + span in_string xs) → EndsBy NoSpace (x ∷ xs) (1 + nest_len outside 0 xs)
        → cond a (1 + span in_string xs) (cond b (1 + nest_len outside 0 xs) (prefix_len is_word_byte (x ∷ xs))) ≡ suc k → NoSpace (get_or (x ∷ xs) k 0)
    by_tests true b f g e = ended (1 + span in_string xs) e f
    by_tests false true f g e = ended (1 + nest_len outside 0 xs) e g
    by_tests false false f g e = word_full (get_or (x ∷ xs) k 0) (prefix_len_passes is_word_byte (x ∷ xs) k 0 (omega (arith, e)))

comma_fits : Fits (44 ∷ [])
unfolding lex
comma_fits = (refl, refl)

text_ends : (v : List ℕ) (ts : List Token) → Text v ts → EndsBare v
text_ends v ts x front last same =
    let whole : v ++ (44 ∷ []) ≡ front ++ (last ∷ (44 ∷ [])) = ap (λ (t : List ℕ). t ++ (44 ∷ [])) same ∙ append_assoc front (last ∷ []) (44 ∷ []) in
    let long : length v ≡ suc (length front) = omega (arith, ap length same, length-append front (last ∷ [])) in
    let ends : value_len (v ++ (44 ∷ [])) ≡ suc (length front) = x.long (44 ∷ []) comma_fits ∙ long in
    let inside : suc (length front) < length (v ++ (44 ∷ [])) = omega (arith, long, length-append v (44 ∷ [])) in
    let at : get_or (v ++ (44 ∷ [])) (length front) 0 ≡ last = ap (λ (t : List ℕ). get_or t (length front) 0) whole ∙ get_or-append_seam front last (44 ∷ []) 0 in
    subst NoSpace at (value_ends (v ++ (44 ∷ [])) (length front) ends inside)

text_begins : (v : List ℕ) (ts : List Token) → Text v ts → BeginsBare v
text_begins v ts x = ap past_blank (sym (append-nil v)) ∙ x.full [] ∙ append-nil v

pub text_bare : (v : List ℕ) (ts : List Token) → Text v ts → IsBare v
text_bare v ts x = (text_begins v ts x, text_ends v ts x)

-- ---- whitespace

pub blanks_blank : (t : List ℕ) → IsBlank (blanks t)
blanks_blank [] = refl
blanks_blank (x ∷ xs) = by_test (is_space x) refl (blanks_blank xs)
  where
    by_test : (s : Bool) → is_space x ≡ s → IsBlank (blanks xs) → IsBlank (take (cond s (1 + prefix_len is_space xs) 0) (x ∷ xs))
    by_test s h1 h2 = grind (arith, common_steps)

prefix_le : (t : List ℕ) → prefix_len is_space t ≤ length t
prefix_le [] = omega arith
prefix_le (x ∷ xs) = grind (arith, common_steps, prefix_le xs)

past_nothing : (t : List ℕ) → past_blank t ≡ [] → IsBlank t
past_nothing t e = omega (arith, ap length e, length-drop (prefix_len is_space t) t, prefix_le t)

-- ---- a text without tokens is whitespace

placed : (p : Place) (t : Token) (c : Bool) (k : Place → List Token) → place_token p t c k ≡ [] → ⊥
placed p t c k h1 = grind (arith, common_steps)

after_a_comma : (ls : List Lexeme) → punctuate after_comma ls ≡ [] → ⊥
unfolding punctuate
after_a_comma [] e = cc
after_a_comma (token t ∷ ls) e = placed after_comma t (begins_colon ls) (λ next. punctuate next ls) e
after_a_comma (comma ∷ ls) e = cc
after_a_comma (colon ∷ ls) e = cc

pub nothing_left : (t : List ℕ) → punctuate after_value (lex between t) ≡ [] → IsBlank t
unfolding lex punctuate
nothing_left t h = go (past_blank t) refl (past-full t) (sym (ap (punctuate after_value) (past-lex t)) ∙ h)
  where
    go : (u : List ℕ) → past_blank t ≡ u → BeginsFull u → punctuate after_value (lex between u) ≡ [] → IsBlank t
    go u h1 h2 h3 = grind (arith, common_steps, past_nothing, byte_cases, placed, after_a_comma)

-- ---- positions of the messages

pub shut_at : (t xs : List ℕ) → past_blank t ≡ 93 ∷ xs → punctuate after_value (lex between xs) ≡ [] → IsShut t
shut_at t xs e h = (blanks t, xs, split_blanks t ∙ ap (λ (x : List ℕ). blanks t ++ x) e, blanks_blank t, nothing_left xs h)

pub stands_at : (o : Object) (os : List Object) (t r : List ℕ) → past_blank t ≡ o.0 ++ r → GoesOnIn os r → StandsIn (o ∷ os) t
stands_at o os t r e h = (blanks t, r, split_blanks t ∙ ap (λ (x : List ℕ). blanks t ++ x) e, blanks_blank t, h)

pub goes_on_at : (os : List Object) (d : _) (ds : Items) → AreObjectsOf os (item d ds) → (t r : List ℕ) → past_blank t ≡ 44 ∷ r → StandsIn os r → GoesOnIn os t
goes_on_at [] d ds a t r e s = absurd a
goes_on_at (o ∷ os) d ds a t r e s = (blanks t, r, split_blanks t ∙ ap (λ (x : List ℕ). blanks t ++ x) e, blanks_blank t, s.0, s.1, s.2, s.3, s.4)
