-- If one separator of a text is replaced by its escape, the tokens stay the same.
use Rattle.std.proofs.Common.{◌≡◌, ℕ, zero, suc, ◌+◌, ◌<◌, ◌≤◌, Bool, true, false, cond, ◌&&◌, ◌||◌, ◌==◌, nat_lt, List, [], ◌∷◌, ◌++◌, length, Option, Some, None, option_and_then, refl, sym, ap, ap₂, ◌∙◌, subst, arith}
use Rattle.std.proofs.lemmas.{Bool.false≢true, Bool.true≢false, Bool.and_parts, Bool.eqb-true, List.length-append, Option.option_and_then_some}
use Rattle.std.specs.Char.{is_digit, encode_utf8}
use Rattle.json.specs.Token.{Token, key, string, number, boolean, null, bad}
use Rattle.json.specs.Text.{code_unit, short_escape, is_high_surrogate, is_low_surrogate, surrogate_pair, Within, plain, after_backslash, after_u, after_high, prepend, content}
use Rattle.json.specs.Word.{is_operator, is_space, ends_word, after_number, word}
use Rattle.json.specs.Lex.{Lexeme, token, comma, colon, operator_lexeme, Mode, between, in_word, in_string, in_escape, Class, quote, backslash, operator, space, other, class, lex_byte, lex, string_token}
use Rattle.json.proofs.Printed.Numbers.{in_word-ended, lex-number}
use Rattle.bx_cut.proofs.{Seen.IsWord, Seen.is_word, Local.no_some}
use Rattle.bx_cut.proofs.Values.{true_other, false_other, null_other}
use Rattle.bx_cut.proofs.Words.{AllOther, WordText, Ended, word_text, true_text, false_text, null_text}

-- A text, and the same text with one separator replaced by its escape.
pub data Replaced : List ℕ → List ℕ → Type 0 where
  here : (lines : Bool) (r : List ℕ) → Replaced (226 ∷ 128 ∷ cond lines 168 169 ∷ r) (92 ∷ 117 ∷ 50 ∷ 48 ∷ 50 ∷ cond lines 56 57 ∷ r)
  there : (x : ℕ) (t u : List ℕ) → Replaced t u → Replaced (x ∷ t) (x ∷ u)

some_text : {t v : List ℕ} → Replaced t v → 0 < length t
some_text (here b r) = omega arith
some_text (there x t u more) = omega arith

skip : (x : ℕ) (xs v : List ℕ) → Replaced (x ∷ xs) v → (226 ≡ x → ⊥) → (us : List ℕ) × (v ≡ x ∷ us) × Replaced xs us
skip x xs v (here b r) n = absurd (n refl)
skip x xs v (there y ys u R) n = (u, refl, R)

-- ---- the content of a string

-- If `o` is `Some` with bytes, `p` is `Some` with the same bytes.
abbrev Stays : Option (List ℕ) → Option (List ℕ) → Type 0
Stays o p = (s : List ℕ) → o ≡ Some s → p ≡ Some s

either : (b : Bool) {o p o' p' : Option (List ℕ)} → Stays o o' → Stays p p' → Stays (cond b o p) (cond b o' p')
either true f g = f
either false f g = g

in_front : (a : List ℕ) (o p : Option (List ℕ)) → Stays o p → Stays (prepend a o) (prepend a p)
in_front a None p f s e = no_some s e
in_front a (Some r) p f s e = ap (prepend a) (f r refl) ∙ e

of_each : (f g : ℕ → Option (List ℕ)) (o : Option ℕ) → ((n : ℕ) → Stays (f n) (g n)) → Stays (option_and_then f o) (option_and_then g o)
of_each f g None h s e = e
of_each f g (Some n) h s e = h n s e

if_some : (b : Bool) (o : Option (List ℕ)) (s : List ℕ) → cond b o None ≡ Some s → (b ≡ true) × (o ≡ Some s)
if_some true o s e = (refl, e)
if_some false o s e = no_some s e

joined : (a b c : ℕ) (o : Option (List ℕ)) → prepend (a ∷ b ∷ c ∷ []) o ≡ prepend (a ∷ []) (prepend (b ∷ []) (prepend (c ∷ []) o))
joined a b c None = refl
joined a b c (Some s) = refl

skip4 : (a b c d u : ℕ) (xs v : List ℕ) → code_unit a b c d ≡ Some u → Replaced (a ∷ b ∷ c ∷ d ∷ xs) v → (us : List ℕ) × (v ≡ a ∷ b ∷ c ∷ d ∷ us) × Replaced xs us
unfolding code_unit
skip4 a b c d u xs v e R =
    let p = and_parts (is_digit a 16 && is_digit b 16 && is_digit c 16) (is_digit d 16) (by_test _ _ e) in
    let q = and_parts (is_digit a 16 && is_digit b 16) (is_digit c 16) p.0 in
    let r = and_parts (is_digit a 16) (is_digit b 16) q.0 in
    let i = skip a _ v R (no a r.0) in
    let j = skip b _ i.0 i.2 (no b r.1) in
    let k = skip c _ j.0 j.2 (no c q.1) in
    let l = skip d xs k.0 k.2 (no d p.1) in
    (l.0, (cc), l.2)
  where
    by_test : (t : Bool) (n : ℕ) → cond t (Some n) None ≡ Some u → t ≡ true
    by_test true n e = refl
    by_test false n e = cc

    no : (x : ℕ) → is_digit x 16 ≡ true → 226 ≡ x → ⊥
    no x h e = false≢true (ap (λ y. is_digit y 16) e ∙ h)

contents : (t : List ℕ) (w : Within) (v : List ℕ) → Replaced t v → Stays (content w t) (content w v)
unfolding content code_unit short_escape encode_utf8
contents [] w v R = let no : ⊥ = omega (arith, some_text R) in absurd no
contents (x ∷ xs) plain v (here true r) = λ s e. joined 226 128 168 (content plain r) ∙ e
contents (x ∷ xs) plain v (here false r) = λ s e. joined 226 128 169 (content plain r) ∙ e
contents (x ∷ xs) plain v (there y ys us R) =
    either (x == 34) (λ s e. e) (either (x == 92) (contents xs after_backslash us R) (either (nat_lt x 32) (λ s e. e) (in_front (x ∷ []) _ _ (contents xs plain us R))))
contents (x ∷ xs) after_backslash v (there y ys us R) =
    either (x == 117) (contents xs after_u us R) (of_each _ _ (short_escape x) (λ n. in_front (n ∷ []) _ _ (contents xs plain us R)))
contents (a ∷ b ∷ c ∷ d ∷ xs) after_u v R = λ s e.
    option_and_then_some _ (code_unit a b c d) s e (λ u g h.
    let p = skip4 a b c d u xs v g R in
    rw p.1 (of_each _ _ (code_unit a b c d) (λ n. either (is_high_surrogate n) (contents xs (after_high n) p.0 p.2) (either (is_low_surrogate n) (λ s e. e) (in_front (encode_utf8 n) _ _ (contents xs plain p.0 p.2)))) s e))
contents (y ∷ z ∷ a ∷ b ∷ c ∷ d ∷ xs) (after_high k) v R = λ s e.
    let f = if_some ((y == 92) && (z == 117)) _ s e in
    let g = and_parts (y == 92) (z == 117) f.0 in
    option_and_then_some _ (code_unit a b c d) s f.1 (λ u h i.
    let m = skip y _ v R (λ q. omega (arith, q, eqb-true y 92 g.0)) in
    let n = skip z _ m.0 m.2 (λ q. omega (arith, q, eqb-true z 117 g.1)) in
    let p = skip4 a b c d u xs n.0 h n.2 in
    rw (m.1, n.1, p.1) (either ((y == 92) && (z == 117)) (of_each _ _ (code_unit a b c d) (λ l. either (is_low_surrogate l) (in_front (encode_utf8 (surrogate_pair k l)) _ _ (contents xs plain p.0 p.2)) (λ s e. e))) (λ s e. e) s e))
contents _ w v R = λ s e. no_some s e

-- ---- lexemes

-- No token of the list is bad.
abbrev pub Sound : List Lexeme → Type 0
Sound [] = Unit {0}
Sound (token t ∷ ls) = (t ≡ bad → ⊥) × Sound ls
Sound (comma ∷ ls) = Sound ls
Sound (colon ∷ ls) = Sound ls

abbrev pub Same : List Lexeme → List Lexeme → Type 0
Same old new = Sound old → new ≡ old

abbrev pub Keeps : Mode → List ℕ → List ℕ → Type 0
Keeps in_word t v = Unit {0}
Keeps m t v = Same (lex m t) (lex m v)

one_more : (l : Lexeme) (ls ms : List Lexeme) → Same ls ms → Same (l ∷ ls) (l ∷ ms)
one_more (token t) ls ms f d = ap (λ z. token t ∷ z) (f d.1)
one_more l ls ms f d = ap (λ z. l ∷ z) (f d)

-- ---- words

ended : {t v : List ℕ} → Replaced t v → ends_word t ≡ true → ends_word v ≡ true
ended (here b r) e = absurd (false≢true e)
ended (there x t u R) e = e

literal : (k : Token) (z : List ℕ) → ends_word z ≡ true → token (cond (ends_word z) k bad) ∷ lex in_word z ≡ token k ∷ lex between z
literal k z e = ap₂ (λ b ls. token (cond b k bad) ∷ ls) e (in_word-ended z e)

behind : (s r v : List ℕ) → AllOther s → ends_word r ≡ true → Replaced (s ++ r) v → (rest : List ℕ) × (v ≡ s ++ rest) × Replaced r rest × (ends_word rest ≡ true)
behind [] r v a e R = (v, refl, R, ended R e)
behind (x ∷ s) r v a e R =
    let p = skip x (s ++ r) v R (λ f. omega (arith, a.0.low, f)) in
    let q = behind s r p.0 a.1 e p.2 in
    (q.0, p.1 ∙ ap (λ l. x ∷ l) q.1, q.2, q.3)

no_word : (x : ℕ) → class x ≡ other → (is_operator x || is_space x) ≡ false
no_word x e = by_tests (x == 34) (x == 92) (is_operator x) (is_space x) e
  where
    by_tests : (a b c d : Bool) → cond a quote (cond b backslash (cond c operator (cond d space other))) ≡ other → (c || d) ≡ false
    by_tests false false false false e = refl
    by_tests _ _ _ _ e = cc

module _ (n : ℕ) (onwards : (t v : List ℕ) → length t ≤ n → Replaced t v → Same (lex between t) (lex between v)) where
  past_word : (s : List ℕ) (k : Token) (x : ℕ) (xs v : List ℕ) → class x ≡ other → AllOther s → ((z : List ℕ) → ends_word z ≡ true → lex between (s ++ z) ≡ token k ∷ lex between z) → length xs ≤ n → Replaced (x ∷ xs) v → Ended s (x ∷ xs) → Same (lex between (x ∷ xs)) (lex between v)
  past_word [] k x xs v o a lexed l R (r, e, f) = absurd (true≢false (sym (ap ends_word e ∙ f) ∙ no_word x o))
  past_word (y ∷ s) k x xs v o a lexed l R (r, e, f) =
      let p = behind (y ∷ s) r v a f (subst (λ z. Replaced z v) e R) in
      let long : length r ≤ n = omega (arith, l, ap length e, length-append (y ∷ s) r) in
      rw (e, p.1, lexed r f, lexed p.0 p.3) (one_more (token k) (lex between r) (lex between p.0) (onwards r p.0 long p.2))

  words : (x : ℕ) (xs v : List ℕ) (k : Token) → class x ≡ other → IsWord k → WordText (x ∷ xs) k → (k ≡ bad → ⊥) → length xs ≤ n → Replaced (x ∷ xs) v → Same (lex between (x ∷ xs)) (lex between v)
  unfolding lex word
  words x xs v (number s) o w f g l R = past_word s (number s) x xs v o f.1 (λ z e. lex-number s z f.2 e) l R f.0
  words x xs v (boolean true) o w f g l R = past_word true_text (boolean true) x xs v o true_other (literal (boolean true)) l R f
  words x xs v (boolean false) o w f g l R = past_word false_text (boolean false) x xs v o false_other (literal (boolean false)) l R f
  words x xs v null o w f g l R = past_word null_text null x xs v o null_other (literal null) l R f
  words x xs v bad o w f g l R = absurd (g refl)
  words x xs v _ o w f g l R = absurd w

  onwards_there : (m : Mode) (x : ℕ) (xs us : List ℕ) → length xs ≤ n → Replaced xs us → ((o : Mode) → Keeps o xs us) → Keeps m (x ∷ xs) (x ∷ us)
  unfolding lex
  onwards_there in_word x xs us l R f = tt
  onwards_there in_escape x xs us l R f = f in_string
  onwards_there in_string x xs us l R f = by_class (class x)
    where
      by_class : (c : Class) → Same (lex_byte in_string c x xs (λ m. lex m xs)) (lex_byte in_string c x us (λ m. lex m us))
      by_class quote = f between
      by_class backslash = f in_escape
      by_class _ = f in_string
  onwards_there between x xs us l R f = by_class (class x) refl
    where
      string_there : (o : Option (List ℕ)) → content plain xs ≡ o → Same (token (string_token (content plain xs)) ∷ lex in_string xs) (token (string_token (content plain us)) ∷ lex in_string us)
      string_there None e d = absurd (d.0 (ap string_token e))
      string_there (Some s) e d = ap₂ (λ p ls. token (string_token p) ∷ ls) (contents xs plain us R s e ∙ sym e) (f in_string d.1)

      by_class : (c : Class) → class x ≡ c → Same (lex_byte between c x xs (λ m. lex m xs)) (lex_byte between c x us (λ m. lex m us))
      by_class quote e = string_there (content plain xs) refl
      by_class backslash e = λ d. absurd (d.0 refl)
      by_class operator e = one_more (operator_lexeme x) _ _ (f between)
      by_class space e = f between
      by_class other e = λ d.
          let text = x ∷ xs in
          subst (λ c. Same (lex_byte between c x xs (λ m. lex m xs)) (lex_byte between c x us (λ m. lex m us))) e (words x xs (x ∷ us) (word text) e (is_word text) (word_text text) d.0 l (there x xs us R)) d

pub lexes : (n : ℕ) (m : Mode) (t v : List ℕ) → length t ≤ n → Replaced t v → Keeps m t v
unfolding lex word after_number
lexes zero m t v l R = let no : ⊥ = omega (arith, some_text R) in absurd no
lexes (suc n) between t v l (here b r) = λ d. absurd (d.0 refl)
lexes (suc n) in_word t v l (here b r) = tt
lexes (suc n) m t v l (here true r) = λ d. refl
lexes (suc n) m t v l (here false r) = λ d. refl
lexes (suc n) m t v l (there x xs us R) = onwards_there n (lexes n between) m x xs us (omega arith) R (λ o. lexes n o xs us (omega arith) R)
