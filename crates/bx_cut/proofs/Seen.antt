-- The text of each token.
use Rattle.std.proofs.Common.{◌≡◌, ℕ, Bool, true, false, cond, List, [], ◌∷◌, drop, Option, Some, refl, sym, ap, ◌∙◌, subst, arith}
use Rattle.std.proofs.lemmas.{Bool.false≢true, Grind.common_steps}
use Rattle.std.specs.List.{prefix_len}
use Rattle.json.specs.Token.{Token, begin_object, end_object, begin_array, end_array, key, string, number, boolean, null, bad}
use Rattle.json.specs.{Text.content, Text.plain, Align.span}
use Rattle.json.specs.Word.{is_space, number_before, word}
use Rattle.json.specs.Lex.{colon, between, in_word, in_string, Class, lex_byte, lex, string_token, Place, fresh, after_value, after_comma, after_key, begins_colon, place_token, punctuate}
use Rattle.bx_cut.specs.Cut.{past_blank, is_word_byte}
use Rattle.bx_cut.proofs.Bytes.{Other, byte_cases, space_cases, BeginsFull, past-full, past-lex, next_one}
use Rattle.bx_cut.proofs.Reach.{mode_of, span-cons}

-- ---- after a string or a word

pub string-lex : (e : Bool) (xs : List ℕ) → lex (mode_of e) xs ≡ lex between (drop (span (mode_of e) xs) xs)
unfolding lex span
string-lex true [] = refl
string-lex false [] = refl
string-lex true (x ∷ xs) = string-lex false xs ∙ ap (lex between) (sym (next_one (span in_string xs) x xs))
string-lex false (x ∷ xs) = grind (arith, common_steps, span-cons, next_one, string-lex true xs, string-lex false xs)

pub word-lex : (xs : List ℕ) → lex in_word xs ≡ lex between (drop (prefix_len is_word_byte xs) xs)
unfolding lex
word-lex [] = refl
word-lex (x ∷ xs) = grind (arith, common_steps, next_one, space_cases, byte_cases, word-lex xs)

-- ---- a colon

pub record ColonAt (z : List ℕ) : Type 0 where
  pub rest : List ℕ
  pub text : past_blank z ≡ 58 ∷ rest
  pub lexed : lex between z ≡ colon ∷ lex between rest

pub colon_at : (z : List ℕ) → begins_colon (lex between z) ≡ true → ColonAt z
unfolding lex
colon_at z h = go (past_blank z) refl (past-full z) (ap begins_colon (sym (past-lex z)) ∙ h)
  where
    at : List ℕ → ℕ → Type 0
    at xs y = past_blank z ≡ y ∷ xs → begins_colon (lex between (y ∷ xs)) ≡ true → ColonAt z

    go : (u : List ℕ) → past_blank z ≡ u → BeginsFull u → begins_colon (lex between u) ≡ true → ColonAt z
    go [] e f h = absurd (false≢true h)
    go (x ∷ xs) e f h =
        byte_cases (λ (y : ℕ). past_blank z ≡ y ∷ xs → begins_colon (lex between (y ∷ xs)) ≡ true → ColonAt z) (λ e h. absurd (false≢true h)) (λ e h. absurd (false≢true h)) (λ e h. absurd (false≢true h)) (λ e h. absurd (false≢true h)) (λ e h. absurd (false≢true h)) (λ e h. absurd (false≢true h))
        (λ e h. record { rest = xs; text = e; lexed = past-lex z ∙ ap (lex between) e }) (λ e h. absurd (false≢true h))
        (λ y o e h. absurd (false≢true (sym (ap (λ (c : Class). begins_colon (lex_byte between c y xs (λ m. lex m xs))) o.class_is) ∙ h))) x f e h

-- ---- a text by its first token, before a value

abbrev pub start : Bool → Place
start true = fresh
start false = after_comma

abbrev pub SeenMark : ℕ → Place → List ℕ → List Token → Type 0
SeenMark c p t rest = (xs : List ℕ) × (past_blank t ≡ c ∷ xs) × (punctuate p (lex between xs) ≡ rest)

abbrev pub SeenWord : List ℕ → Token → List Token → Type 0
SeenWord t k rest = (x : ℕ) × (xs : List ℕ) × (past_blank t ≡ x ∷ xs) × Other x × (word (x ∷ xs) ≡ k) × (punctuate after_value (lex in_word xs) ≡ rest)

abbrev pub past_string : List ℕ → List ℕ
past_string xs = drop (span in_string xs) xs

abbrev pub Seen : Bool → List ℕ → Token → List Token → Type 0
Seen b t begin_object rest = SeenMark 123 fresh t rest
Seen b t end_object rest = (b ≡ true) × SeenMark 125 after_value t rest
Seen b t begin_array rest = SeenMark 91 fresh t rest
Seen b t end_array rest = (b ≡ true) × SeenMark 93 after_value t rest
Seen b t (key s) rest = (xs : List ℕ) × (ys : List ℕ) × (past_blank t ≡ 34 ∷ xs) × (content plain xs ≡ Some s) × (past_blank (past_string xs) ≡ 58 ∷ ys) × (punctuate fresh (lex between ys) ≡ rest)
Seen b t (string s) rest =
    (xs : List ℕ) × (past_blank t ≡ 34 ∷ xs) × (content plain xs ≡ Some s) × (begins_colon (lex between (past_string xs)) ≡ false) × (punctuate after_value (lex between (past_string xs)) ≡ rest)
Seen b t bad rest = Unit {0}
Seen b t k rest = SeenWord t k rest

abbrev pub Matches : Bool → List ℕ → List Token → Type 0
Matches b t [] = Unit {0}
Matches b t (k ∷ rest) = Seen b t k rest

-- A number, a literal or a bad token.
abbrev pub IsWord : Token → Type 0
IsWord (number s) = Unit {0}
IsWord (boolean v) = Unit {0}
IsWord null = Unit {0}
IsWord bad = Unit {0}
IsWord _ = ⊥

either : (b : Bool) (x y : Token) → IsWord x → IsWord y → IsWord (cond b x y)
either b x y h1 h2 = grind (arith, common_steps)

number_word : (t : List ℕ) (o : Option (List ℕ)) → IsWord (number_before t o)
number_word t o = grind (arith, common_steps)

pub is_word : (t : List ℕ) → IsWord (word t)
unfolding word
is_word t = grind (arith, common_steps, either, number_word)

module _ (t xs : List ℕ) where
  seen_word : (b : Bool) (x : ℕ) → Other x → past_blank t ≡ x ∷ xs → (k : Token) → word (x ∷ xs) ≡ k → IsWord k → Matches b t (place_token (start b) k (begins_colon (lex in_word xs)) (λ next. punctuate next (lex in_word xs)))
  seen_word b x h1 h2 k h3 h4 = grind (arith, common_steps)

  seen_text : (b : Bool) (s : List ℕ) → past_blank t ≡ 34 ∷ xs → content plain xs ≡ Some s → (c : Bool) → begins_colon (lex in_string xs) ≡ c
      → Matches b t (place_token (start b) (string s) c (λ next. punctuate next (lex in_string xs)))
  unfolding punctuate
  seen_text true s e h true f = let c = colon_at (past_string xs) (ap begins_colon (sym (string-lex false xs)) ∙ f) in (xs, c.rest, e, h, c.text, sym (ap (punctuate after_key) (string-lex false xs ∙ c.lexed)))
  seen_text false s e h true f = let c = colon_at (past_string xs) (ap begins_colon (sym (string-lex false xs)) ∙ f) in (xs, c.rest, e, h, c.text, sym (ap (punctuate after_key) (string-lex false xs ∙ c.lexed)))
  seen_text true s e h false f = (xs, e, h, ap begins_colon (sym (string-lex false xs)) ∙ f, ap (punctuate after_value) (sym (string-lex false xs)))
  seen_text false s e h false f = (xs, e, h, ap begins_colon (sym (string-lex false xs)) ∙ f, ap (punctuate after_value) (sym (string-lex false xs)))

  seen_string : (b : Bool) → past_blank t ≡ 34 ∷ xs → (o : Option (List ℕ)) → content plain xs ≡ o → Matches b t (place_token (start b) (string_token o) (begins_colon (lex in_string xs)) (λ next. punctuate next (lex in_string xs)))
  seen_string b h1 o h2 = grind (arith, common_steps, seen_text)

  seen_marks : (b : Bool) (x : ℕ) → is_space x ≡ false → past_blank t ≡ x ∷ xs → Matches b t (punctuate (start b) (lex between (x ∷ xs)))
  unfolding lex punctuate
  seen_marks true = byte_cases (λ (y : ℕ). past_blank t ≡ y ∷ xs → Matches true t (punctuate fresh (lex between (y ∷ xs)))) (λ e. seen_string true e (content plain xs) refl) (λ e. tt) (λ e. (xs, e, refl)) (λ e. (refl, (xs, e, refl))) (λ e. (xs, e, refl)) (λ e. (refl, (xs, e, refl))) (λ e. tt) (λ e. tt)
      (λ y o e. subst (λ (c : Class). Matches true t (punctuate fresh (lex_byte between c y xs (λ m. lex m xs)))) (sym o.class_is) (seen_word true y o e (word (y ∷ xs)) refl (is_word (y ∷ xs))))
  seen_marks false = byte_cases (λ (y : ℕ). past_blank t ≡ y ∷ xs → Matches false t (punctuate after_comma (lex between (y ∷ xs)))) (λ e. seen_string false e (content plain xs) refl) (λ e. tt) (λ e. (xs, e, refl)) (λ e. tt) (λ e. (xs, e, refl)) (λ e. tt) (λ e. tt) (λ e. tt)
      (λ y o e. subst (λ (c : Class). Matches false t (punctuate after_comma (lex_byte between c y xs (λ m. lex m xs)))) (sym o.class_is) (seen_word false y o e (word (y ∷ xs)) refl (is_word (y ∷ xs))))

pub seen : (b : Bool) (t : List ℕ) → Matches b t (punctuate (start b) (lex between t))
unfolding lex punctuate
seen b t = grind (arith, common_steps, past-lex, past-full, seen_marks)
