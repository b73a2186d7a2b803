-- A text with escaped separators reads as the original.
use Rattle.std.proofs.Common.{◌≡◌, ℕ, Bool, true, false, cond, List, [], ◌∷◌, ◌++◌, length, drop, nat_eq, Some, refl, sym, ap, ◌∙◌, subst, arith}
use Rattle.std.proofs.lemmas.List.{append_assoc}
use Rattle.std.specs.List.{starts_with}
use Rattle.json.specs.Json as json
use Rattle.json.specs.Token.{Token, begin_object, end_object, begin_array, end_array, key, string, number, boolean, null, bad}
use Rattle.json.specs.Lex.{Lexeme, token, comma, colon, between, lex, Place, fresh, after_value, after_comma, after_key, begins_colon, may_begin, may_close, if_allowed, place_token, punctuate, tokens}
use Rattle.json.specs.Tree.{json_tokens, items_tokens, members_tokens}
use Rattle.serde_json.specs.Data.{Data}
use Rattle.serde_json.specs.Read.{read}
use Rattle.bx_cut.proofs.Readings.{whole, reads_as}
use Rattle.bx_message.specs.Texts.{line_separator, paragraph_separator, script_safe}
use Rattle.bx_transport.specs.Laws.{ScriptsReadTheSame}
use Rattle.bx_transport.proofs.Replaced.{Replaced, here, there, Sound, lexes}
use Rattle.bx_transport.proofs.Scripts.{safe_by_tests, separator_is}

-- ---- tokens

abbrev NoBad : List Token → Type 0
NoBad [] = Unit {0}
NoBad (t ∷ ts) = (t ≡ bad → ⊥) × NoBad ts

no_bad_both : (xs ys : List Token) → NoBad xs → NoBad ys → NoBad (xs ++ ys)
no_bad_both [] ys h k = k
no_bad_both (x ∷ xs) ys h k = (h.0, no_bad_both xs ys h.1 k)

mutual
  tree_sound : (j : json.Json) → NoBad (json_tokens j)
  tree_sound (json.array js) = ((λ e. cc), items_sound js)
  tree_sound (json.object ms) = ((λ e. cc), members_sound ms)
  tree_sound _ = ((λ e. cc), tt)

  items_sound : (js : json.Items) → NoBad (items_tokens js)
  items_sound json.no_items = ((λ e. cc), tt)
  items_sound (json.item j js) = no_bad_both (json_tokens j) (items_tokens js) (tree_sound j) (items_sound js)

  members_sound : (ms : json.Members) → NoBad (members_tokens ms)
  members_sound json.no_members = ((λ e. cc), tt)
  members_sound (json.member k j ms) = ((λ e. cc), no_bad_both (json_tokens j) (members_tokens ms) (tree_sound j) (members_sound ms))

allowed : (b : Bool) (t : Token) (ls : List Lexeme) (next : Place) → ((p : Place) → NoBad (punctuate p ls) → Sound ls) → NoBad (if_allowed b t (λ p. punctuate p ls) next) → Sound ls
allowed true t ls next more h = more next h.1
allowed false t ls next more h = absurd (h.0 refl)

placed : (p : Place) (t : Token) (c : Bool) (ls : List Lexeme) → ((p : Place) → NoBad (punctuate p ls) → Sound ls) → NoBad (place_token p t c (λ next. punctuate next ls)) → (t ≡ bad → ⊥) × Sound ls
placed p (key s) c ls more h = absurd (h.0 refl)
placed p bad c ls more h = absurd (h.0 refl)
placed p (string s) true ls more h = ((λ e. cc), allowed _ _ ls _ more h)
placed p t c ls more h = ((λ e. cc), allowed _ _ ls _ more h)

lexed_sound : (ls : List Lexeme) (p : Place) → NoBad (punctuate p ls) → Sound ls
unfolding punctuate
lexed_sound [] p h = tt
lexed_sound (token t ∷ ls) fresh h = placed fresh t (begins_colon ls) ls (lexed_sound ls) h
lexed_sound (token t ∷ ls) p h = placed p t (begins_colon ls) ls (lexed_sound ls) h
lexed_sound (comma ∷ ls) after_value h = lexed_sound ls after_comma h
lexed_sound (colon ∷ ls) after_key h = lexed_sound ls fresh h
lexed_sound _ _ h = absurd (h.0 refl)

-- ---- one separator

replaced_reads : (t v : List ℕ) (d : Data) → Replaced t v → read t ≡ Some d → read v ≡ Some d
replaced_reads t v d R e =
    let w = whole t d e in
    let sound = lexed_sound (lex between t) fresh (subst NoBad (sym w.tokens_are) (tree_sound w.json)) in
    let same : tokens v ≡ tokens t = ap (punctuate fresh) (lexes (length t) between t v (omega arith) R sound) in
    reads_as v w.json (same ∙ w.tokens_are) w.shallow ∙ w.data_is

behind : (a t v : List ℕ) → Replaced t v → Replaced (a ++ t) (a ++ v)
behind [] t v R = R
behind (x ∷ a) t v R = there x (a ++ t) (a ++ v) (behind a t v R)

-- ---- all separators, from the end

escaped : (a u : List ℕ) (d : Data) (b : Bool) → starts_with nat_eq u (226 ∷ 128 ∷ cond b 168 169 ∷ []) ≡ true → read (a ++ u) ≡ Some d → read (a ++ 92 ∷ 117 ∷ 50 ∷ 48 ∷ 50 ∷ cond b 56 57 ∷ drop 3 u) ≡ Some d
escaped a u d b f e = replaced_reads _ _ d (behind a _ _ (here b (drop 3 u))) (ap (λ l. read (a ++ l)) (sym (separator_is u (cond b 168 169) f)) ∙ e)

one_more : (a : List ℕ) (x : ℕ) (xs : List ℕ) (d : Data) (p q : Bool) → starts_with nat_eq (x ∷ script_safe xs) line_separator ≡ p → starts_with nat_eq (x ∷ script_safe xs) paragraph_separator ≡ q
    → read (a ++ (x ∷ script_safe xs)) ≡ Some d → read (a ++ script_safe (x ∷ xs)) ≡ Some d
one_more a x xs d true q f g e = ap (λ l. read (a ++ l)) (safe_by_tests x xs true q f g) ∙ escaped a (x ∷ script_safe xs) d true f e
one_more a x xs d false true f g e = ap (λ l. read (a ++ l)) (safe_by_tests x xs false true f g) ∙ escaped a (x ∷ script_safe xs) d false g e
one_more a x xs d false false f g e = ap (λ l. read (a ++ l)) (safe_by_tests x xs false false f g) ∙ e

safe_behind : (t a : List ℕ) (d : Data) → read (a ++ t) ≡ Some d → read (a ++ script_safe t) ≡ Some d
safe_behind [] a d e = e
safe_behind (x ∷ xs) a d e =
    let moved : (ys : List ℕ) → (a ++ x ∷ []) ++ ys ≡ a ++ (x ∷ ys) = λ ys. append_assoc a (x ∷ []) ys in
    let ih = safe_behind xs (a ++ x ∷ []) d (ap read (moved xs) ∙ e) in
    one_more a x xs d (starts_with nat_eq (x ∷ script_safe xs) line_separator) (starts_with nat_eq (x ∷ script_safe xs) paragraph_separator) refl refl (ap read (sym (moved (script_safe xs))) ∙ ih)

pub scripts : ScriptsReadTheSame
scripts text d e = safe_behind text [] d e
