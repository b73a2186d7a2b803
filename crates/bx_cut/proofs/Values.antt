-- The text of a value within a text: its length, and that it reads as the value.
use Rattle.std.proofs.Common.{◌≡◌, ℕ, ◌+◌, ◌<◌, Bool, true, false, cond, List, [], ◌∷◌, ◌++◌, length, take, drop, Option, Some, refl, sym, ap, ap₂, ◌∙◌, subst, arith}
use Rattle.std.proofs.lemmas.{Bool.false≢true, List.append-nil, List.take-append-drop, List.length-take-le, List.drop_at, Grind.common_steps}
use Rattle.std.specs.Prelude.{not}
use Rattle.json.specs.Token.{Token, string, number, boolean, null, bad}
use Rattle.json.specs.{Text.content, Text.plain, Word.ends_word, Word.word, Print.IsNumber, Align.span}
use Rattle.json.specs.Lex.{Lexeme, token, between, in_word, in_string, lex, string_token, after_value, begins_colon, punctuate}
use Rattle.json.proofs.Printed.Numbers.{lex-number, in_word-ended}
use Rattle.bx_cut.specs.Words.{past_blank, after_first, outside, nest_len, value_len, spelled}
use Rattle.bx_cut.proofs.{Bytes.Other, Local.local, Reach.nest-string, Reach.span_le}
use Rattle.bx_cut.proofs.Seen.{start, Seen, SeenWord, past_string, string-lex, word-lex}
use Rattle.bx_cut.proofs.Words.{AllOther, other_nests, other_len, WordText, word_text, true_text, false_text, null_text}

-- ---- a string

pub record Quote (v s : List ℕ) : Type 0 where
  pub nests : (depth : ℕ) (z : List ℕ) → nest_len outside depth (v ++ z) ≡ length v + nest_len outside depth z
  pub lexes : (z : List ℕ) → lex between (v ++ z) ≡ token (string s) ∷ lex between z
  pub long : (z : List ℕ) → value_len (v ++ z) ≡ length v
  pub some : 0 < length v
  pub full : (z : List ℕ) → past_blank (v ++ z) ≡ v ++ z
  pub spells : spelled v ≡ Some s

module _ (xs s : List ℕ) (h : content plain xs ≡ Some s) where
  raw_len : length (take (span in_string xs) xs) ≡ span in_string xs
  raw_len = length-take-le (span in_string xs) xs (span_le xs)

  raw_left : (z : List ℕ) → drop (span in_string (take (span in_string xs) xs ++ z)) (take (span in_string xs) xs ++ z) ≡ z
  raw_left z =
      let front = take (span in_string xs) xs in
      drop_at front z (span in_string (front ++ z)) (raw_len ∙ sym (local plain xs s h z).1)

  pub quote : Quote (34 ∷ take (span in_string xs) xs) s
  unfolding nest_len lex value_len after_first
  quote = record {
    nests = λ depth z.
        let front = take (span in_string xs) xs in
        let inside = nest-string false depth (front ++ z) in
        let after = ap (nest_len outside depth) (raw_left z) in
        omega (arith, inside, after, raw_len, (local plain xs s h z).1);
    lexes = λ z.
        let text = take (span in_string xs) xs ++ z in
        ap (λ (o : Option (List ℕ)). token (string_token o) ∷ lex in_string text) (local plain xs s h z).0 ∙ ap (λ (l : List Lexeme). token (string s) ∷ l) (string-lex false text ∙ ap (lex between) (raw_left z));
    long = λ z. omega (arith, raw_len, (local plain xs s h z).1);
    some = omega arith;
    full = λ z. refl;
    spells = ap (content plain) (sym (append-nil (take (span in_string xs) xs))) ∙ (local plain xs s h []).0;
  }

  pub quote_at : 34 ∷ xs ≡ (34 ∷ take (span in_string xs) xs) ++ past_string xs
  quote_at = ap (λ (l : List ℕ). 34 ∷ l) (sym (take-append-drop (span in_string xs) xs))

-- ---- a value

abbrev pub Fits : List ℕ → Type 0
Fits z = (ends_word z ≡ true) × (begins_colon (lex between z) ≡ false)

pub record Text (v : List ℕ) (ts : List Token) : Type 0 where
  pub nests : (depth : ℕ) (z : List ℕ) → nest_len outside depth (v ++ z) ≡ length v + nest_len outside depth z
  pub reads : (b : Bool) (z : List ℕ) → Fits z → punctuate (start b) (lex between (v ++ z)) ≡ ts ++ punctuate after_value (lex between z)
  pub long : (z : List ℕ) → Fits z → value_len (v ++ z) ≡ length v
  pub some : 0 < length v
  pub full : (z : List ℕ) → past_blank (v ++ z) ≡ v ++ z

pub record Found (t : List ℕ) (ts rest : List Token) : Type 0 where
  pub v : List ℕ
  pub r : List ℕ
  pub front : past_blank t ≡ v ++ r
  pub text : Text v ts
  pub here : value_len (v ++ r) ≡ length v
  pub left : punctuate after_value (lex between r) ≡ rest

string_reads : (b : Bool) (s : List ℕ) (ls : List Lexeme) → begins_colon ls ≡ false → punctuate (start b) (token (string s) ∷ ls) ≡ string s ∷ punctuate after_value ls
unfolding punctuate
string_reads b s ls h1 = grind (arith, common_steps)

pub quote_text : (v s : List ℕ) → Quote v s → Text v (string s ∷ [])
quote_text v s q = record {
  nests = q.nests;
  reads = λ b z f. ap (punctuate (start b)) (q.lexes z) ∙ string_reads b s (lex between z) f.1;
  long = λ z f. q.long z;
  some = q.some;
  full = q.full;
}

pub find_string : (b : Bool) (t s : List ℕ) (rest : List Token) → Seen b t (string s) rest → Found t (string s ∷ []) rest
find_string b t s rest (xs, e, h, c, l) =
    let q = quote xs s h in
    record { v = 34 ∷ take (span in_string xs) xs; r = past_string xs; front = e ∙ quote_at xs s h; text = quote_text _ s q; here = q.long (past_string xs); left = l }

-- ---- a word

abbrev IsLeaf : Token → Type 0
IsLeaf k = (b : Bool) (ls : List Lexeme) → punctuate (start b) (token k ∷ ls) ≡ k ∷ punctuate after_value ls

other_full : (y : ℕ) (l : List ℕ) → Other y → past_blank (y ∷ l) ≡ y ∷ l
other_full y l o = grind (arith, common_steps)

word_long : (y : ℕ) (s z : List ℕ) → AllOther (y ∷ s) → ends_word z ≡ true → value_len (y ∷ (s ++ z)) ≡ length (y ∷ s)
unfolding value_len
word_long y s z a e = grind (arith, common_steps, other_len)

word_past : (y : ℕ) (s r xs : List ℕ) → AllOther (y ∷ s) → ends_word r ≡ true → xs ≡ s ++ r → lex in_word xs ≡ lex between r
word_past y s r xs a e same = grind (arith, common_steps, r, word-lex, drop_at, other_len)

word_found : (t : List ℕ) (k : Token) (rest : List Token) (y : ℕ) (s r : List ℕ) → IsLeaf k → AllOther (y ∷ s) → ((z : List ℕ) → ends_word z ≡ true → lex between ((y ∷ s) ++ z) ≡ token k ∷ lex between z)
    → (x : ℕ) (xs : List ℕ) → past_blank t ≡ x ∷ xs → x ∷ xs ≡ (y ∷ s) ++ r → ends_word r ≡ true → punctuate after_value (lex in_word xs) ≡ rest → Found t (k ∷ []) rest
word_found t k rest y s r leaf a lexes x xs e same f l =
    let tail : xs ≡ s ++ r = ap (drop 1) same in
    record {
      v = y ∷ s;
      r = r;
      front = e ∙ same;
      text = record {
        nests = other_nests (y ∷ s) a;
        reads = λ b z g. ap (punctuate (start b)) (lexes z g.0) ∙ leaf b (lex between z);
        long = λ z g. word_long y s z a g.0;
        some = omega arith;
        full = λ z. other_full y (s ++ z) a.0.other;
      };
      here = word_long y s r a f;
      left = ap (punctuate after_value) (sym (word_past y s r xs a f tail)) ∙ l;
    }

pub find_number : (t s : List ℕ) (rest : List Token) → IsNumber s → SeenWord t (number s) rest → Found t (number s ∷ []) rest
unfolding punctuate
find_number t s rest n (x, xs, e, o, w, l) = go s n (subst (WordText (x ∷ xs)) w (word_text (x ∷ xs)))
  where
    leaf : (s : List ℕ) → IsLeaf (number s)
    leaf s = grind (arith, common_steps)

    go : (s' : List ℕ) → IsNumber s' → WordText (x ∷ xs) (number s') → Found t (number s' ∷ []) rest
    go [] n (f, a, i) = absurd (no_word f.2)
      where
        no_word : ends_word f.0 ≡ true → ⊥
        no_word g = false≢true (sym (ap not (ap ends_word f.1 ∙ g)) ∙ o.word_byte)
    go (y ∷ s') n (f, a, i) = word_found t (number (y ∷ s')) rest y s' f.0 (leaf (y ∷ s')) a (λ z g. lex-number (y ∷ s') z n g) x xs e f.1 f.2 l

pub true_other : AllOther true_text
true_other = (record { low = omega arith; other = record { class_is = refl; quote_not = refl; opens_not = refl; closes_not = refl; word_byte = refl } }, (record { low = omega arith; other = record { class_is = refl; quote_not = refl; opens_not = refl; closes_not = refl; word_byte = refl } }, (record { low = omega arith; other = record { class_is = refl; quote_not = refl; opens_not = refl; closes_not = refl; word_byte = refl } }, (record { low = omega arith; other = record { class_is = refl; quote_not = refl; opens_not = refl; closes_not = refl; word_byte = refl } }, tt))))

pub find_true : (t : List ℕ) (rest : List Token) → SeenWord t (boolean true) rest → Found t (boolean true ∷ []) rest
unfolding punctuate lex word
find_true t rest (x, xs, e, o, w, l) =
    let f = subst (WordText (x ∷ xs)) w (word_text (x ∷ xs)) in
    word_found t (boolean true) rest 116 (114 ∷ 117 ∷ 101 ∷ []) f.0 (grind (arith, common_steps)) true_other
    (λ z g. ap₂ (λ (b : Bool) (q : List Lexeme). token (cond b (boolean true) bad) ∷ q) g (in_word-ended z g)) x xs e f.1 f.2 l

pub false_other : AllOther false_text
false_other = (record { low = omega arith; other = record { class_is = refl; quote_not = refl; opens_not = refl; closes_not = refl; word_byte = refl } }, (record { low = omega arith; other = record { class_is = refl; quote_not = refl; opens_not = refl; closes_not = refl; word_byte = refl } }, (record { low = omega arith; other = record { class_is = refl; quote_not = refl; opens_not = refl; closes_not = refl; word_byte = refl } }, (record { low = omega arith; other = record { class_is = refl; quote_not = refl; opens_not = refl; closes_not = refl; word_byte = refl } }, (record { low = omega arith; other = record { class_is = refl; quote_not = refl; opens_not = refl; closes_not = refl; word_byte = refl } }, tt)))))

pub find_false : (t : List ℕ) (rest : List Token) → SeenWord t (boolean false) rest → Found t (boolean false ∷ []) rest
unfolding punctuate lex word
find_false t rest (x, xs, e, o, w, l) =
    let f = subst (WordText (x ∷ xs)) w (word_text (x ∷ xs)) in
    word_found t (boolean false) rest 102 (97 ∷ 108 ∷ 115 ∷ 101 ∷ []) f.0 (grind (arith, common_steps)) false_other
    (λ z g. ap₂ (λ (b : Bool) (q : List Lexeme). token (cond b (boolean false) bad) ∷ q) g (in_word-ended z g)) x xs e f.1 f.2 l

pub null_other : AllOther null_text
null_other = (record { low = omega arith; other = record { class_is = refl; quote_not = refl; opens_not = refl; closes_not = refl; word_byte = refl } }, (record { low = omega arith; other = record { class_is = refl; quote_not = refl; opens_not = refl; closes_not = refl; word_byte = refl } }, (record { low = omega arith; other = record { class_is = refl; quote_not = refl; opens_not = refl; closes_not = refl; word_byte = refl } }, (record { low = omega arith; other = record { class_is = refl; quote_not = refl; opens_not = refl; closes_not = refl; word_byte = refl } }, tt))))

pub find_null : (t : List ℕ) (rest : List Token) → SeenWord t null rest → Found t (null ∷ []) rest
unfolding punctuate lex word
find_null t rest (x, xs, e, o, w, l) =
    let f = subst (WordText (x ∷ xs)) w (word_text (x ∷ xs)) in
    word_found t null rest 110 (117 ∷ 108 ∷ 108 ∷ []) f.0 (grind (arith, common_steps)) null_other
    (λ z g. ap₂ (λ (b : Bool) (q : List Lexeme). token (cond b null bad) ∷ q) g (in_word-ended z g)) x xs e f.1 f.2 l
