-- Arrays and objects within a text, level by level.
use Rattle.std.proofs.Common.{◌≡◌, ℕ, ◌+◌, ◌-◌, ◌<◌, Bool, true, false, cond, ◌==◌, List, [], ◌∷◌, ◌++◌, length, take, Option, Some, None, option_and_then, refl, sym, ap, ◌∙◌, subst, arith}
use Rattle.std.proofs.lemmas.{Bool.false≢true, List.append_assoc, Grind.common_steps}
use Rattle.json.specs.Token.{Token, begin_object, end_object, begin_array, end_array, key, string, number, boolean, null, bad}
use Rattle.json.specs.{Text.content, Text.plain, Word.ends_word, Word.word, Align.span}
use Rattle.json.specs.Json.{Json, Items, no_items, item, Members, no_members, member}
use Rattle.json.specs.Json as json
use Rattle.json.specs.Tree.{json_tokens, items_tokens, members_tokens, HasNumbers, ItemsHaveNumbers, MembersHaveNumbers}
use Rattle.json.specs.Lex.{Lexeme, token, comma, colon, Class, between, in_word, in_string, lex_byte, lex, string_token, fresh, after_value, after_comma, begins_colon, place_token, punctuate}
use Rattle.bx_cut.specs.Cut.{past_blank, past_byte, after_first, begins_with, outside, nest_len, value_len, split_value, split_member, after_key, Member, then_more, first_and_more, listed}
use Rattle.bx_cut.proofs.Lists.{Shortens, turn, listed-none, Shortens-split_value, Shortens-split_member}
use Rattle.bx_cut.proofs.Bytes.{byte_cases, BeginsFull, past-full, past-lex, blanks, Blank-blanks, split_blanks}
use Rattle.bx_cut.proofs.Seen.{start, SeenMark, Matches, seen, past_string, IsWord, is_word}
use Rattle.bx_cut.proofs.Values.{Quote, quote, quote_at, Fits, Text, Found, find_string, find_number, find_true, find_false, find_null}

-- ---- a text by its first token, after a value

abbrev pub SeenComma : List ℕ → List Token → Type 0
SeenComma t ts = (xs : List ℕ) × (past_blank t ≡ 44 ∷ xs) × (punctuate after_comma (lex between xs) ≡ ts)

abbrev pub Next : List ℕ → List Token → Type 0
Next t [] = Unit {0}
Next t (end_object ∷ rest) = SeenMark 125 after_value t rest
Next t (end_array ∷ rest) = SeenMark 93 after_value t rest
Next t (bad ∷ rest) = Unit {0}
Next t ts = SeenComma t ts

after_the_comma : (t xs : List ℕ) → past_blank t ≡ 44 ∷ xs → (ts : List Token) → punctuate after_comma (lex between xs) ≡ ts → Matches false xs ts → Next t ts
after_the_comma t xs e [] h m = tt
after_the_comma t xs e (end_object ∷ rest) h m = absurd (false≢true m.0)
after_the_comma t xs e (end_array ∷ rest) h m = absurd (false≢true m.0)
after_the_comma t xs e (bad ∷ rest) h m = tt
after_the_comma t xs e _ h m = (xs, e, h)

text_refused : (t : List ℕ) (o : Option (List ℕ)) (ls : List Lexeme) (c : Bool) → Next t (place_token after_value (string_token o) c (λ next. punctuate next ls))
text_refused t None ls c = tt
text_refused t (Some s) ls true = tt
text_refused t (Some s) ls false = tt

word_refused : (t : List ℕ) (k : Token) (ls : List Lexeme) (c : Bool) → IsWord k → Next t (place_token after_value k c (λ next. punctuate next ls))
word_refused t (number s) ls c f = tt
word_refused t (boolean v) ls c f = tt
word_refused t null ls c f = tt
word_refused t bad ls c f = tt
word_refused t _ ls c f = absurd f

pub next : (t : List ℕ) → Next t (punctuate after_value (lex between t))
unfolding lex punctuate
next t = subst (λ (ls : List Lexeme). Next t (punctuate after_value ls)) (sym (past-lex t)) (go (past_blank t) refl (past-full t))
  where
    go : (u : List ℕ) → past_blank t ≡ u → BeginsFull u → Next t (punctuate after_value (lex between u))
    go [] e f = tt
    go (x ∷ xs) e f =
        byte_cases (λ (y : ℕ). past_blank t ≡ y ∷ xs → Next t (punctuate after_value (lex between (y ∷ xs)))) (λ e. text_refused t (content plain xs) (lex in_string xs) (begins_colon (lex in_string xs))) (λ e. tt) (λ e. tt) (λ e. (xs, e, refl)) (λ e. tt) (λ e. (xs, e, refl))
        (λ e. tt) (λ e. after_the_comma t xs e (punctuate after_comma (lex between xs)) refl (seen false xs))
        (λ y o e. subst (λ (c : Class). Next t (punctuate after_value (lex_byte between c y xs (λ m. lex m xs)))) (sym o.class_is) (word_refused t (word (y ∷ xs)) (lex in_word xs) (begins_colon (lex in_word xs)) (is_word (y ∷ xs)))) x f e

-- ---- a scan to a closing bracket

abbrev pub Passing : List ℕ → Type 0
Passing v = (depth : ℕ) (z : List ℕ) → nest_len outside depth (v ++ z) ≡ length v + nest_len outside depth z

pub record Closing (v : List ℕ) : Type 0 where
  pub ends : (z : List ℕ) → nest_len outside 0 (v ++ z) ≡ length v
  pub nests : (depth : ℕ) (z : List ℕ) → nest_len outside (depth + 1) (v ++ z) ≡ length v + nest_len outside depth z

closing_after : (a v : List ℕ) → Passing a → Closing v → Closing (a ++ v)
closing_after a v p c = grind (arith, common_steps)

mark_closing : (c : ℕ) (v : List ℕ) → ((depth : ℕ) (z : List ℕ) → nest_len outside depth (c ∷ z) ≡ 1 + nest_len outside depth z) → Closing v → Closing (c ∷ v)
mark_closing c v p h = record { ends = λ z. omega (arith, p 0 (v ++ z), h.ends z); nests = λ depth z. omega (arith, p (depth + 1) (v ++ z), h.nests depth z) }

comma_closing : (v : List ℕ) → Closing v → Closing (44 ∷ v)
unfolding nest_len
comma_closing v = mark_closing 44 v (λ depth z. refl)

colon_closing : (v : List ℕ) → Closing v → Closing (58 ∷ v)
unfolding nest_len
colon_closing v = mark_closing 58 v (λ depth z. refl)

closes_one : (depth : ℕ) (z : List ℕ) → 1 + cond ((depth + 1) == 0) 0 (nest_len outside (depth + 1 - 1) z) ≡ 1 + nest_len outside depth z
closes_one depth z = grind (arith, common_steps)

three : (a b c z : List ℕ) → (a ++ (b ++ c)) ++ z ≡ a ++ (b ++ (c ++ z))
three a b c z = append_assoc a (b ++ c) z ∙ ap (λ (x : List ℕ). a ++ x) (append_assoc b c z)

split_text : (u v z : List ℕ) → past_blank u ≡ v ++ z → value_len (v ++ z) ≡ length v → 0 < length v → Some (v, z) ≡ split_value u
unfolding split_value
split_text u v z e n h = grind (arith, common_steps)

-- ---- parts between two brackets

-- A kind of parts separated by commas: elements of an array, or members of an object. It has how
-- they are split, what they read as, and the bracket that ends them.
pub record Between : Type 1 where
  pub Thing : Type 0
  pub Said : Type 0
  pub split : List ℕ → Option (Thing × List ℕ)
  pub tokens : Said → List Token
  pub Each : List Thing → Said → Type 0
  pub shuts : ℕ

module _ (k : Between) where
  pub record Inside (b : Bool) (v : List ℕ) (said : k.Said) : Type 0 where
    pub closing : Closing v
    pub reads : (z : List ℕ) → punctuate (start b) (lex between (v ++ z)) ≡ k.tokens said ++ punctuate after_value (lex between z)
    pub found : List k.Thing
    pub each : k.Each found said
    pub last : List ℕ
    pub list : (z : List ℕ) → listed k.split (v ++ z) ≡ (found, last ++ z)
    pub shut : (z : List ℕ) → past_byte k.shuts (last ++ z) ≡ Some z

  pub record Behind (v : List ℕ) (said : k.Said) : Type 0 where
    pub closing : Closing v
    pub reads : (z : List ℕ) → punctuate after_value (lex between (v ++ z)) ≡ k.tokens said ++ punctuate after_value (lex between z)
    pub fits : (z : List ℕ) → Fits (v ++ z)
    pub found : List k.Thing
    pub each : k.Each found said
    pub last : List ℕ
    pub more : (z : List ℕ) → then_more k.split (listed k.split) (v ++ z) (past_byte 44 (v ++ z)) ≡ (found, last ++ z)
    pub shut : (z : List ℕ) → past_byte k.shuts (last ++ z) ≡ Some z

  pub record FoundInside (b : Bool) (t : List ℕ) (said : k.Said) (rest : List Token) : Type 0 where
    pub v : List ℕ
    pub r : List ℕ
    pub front : t ≡ v ++ r
    pub text : Inside b v said
    pub left : punctuate after_value (lex between r) ≡ rest

  pub record FoundBehind (t : List ℕ) (said : k.Said) (rest : List Token) : Type 0 where
    pub v : List ℕ
    pub r : List ℕ
    pub front : t ≡ v ++ r
    pub text : Behind v said
    pub left : punctuate after_value (lex between r) ≡ rest

record Shuts (k : Between) (nothing : k.Said) (close : Token) : Type 0 where
  closing : Closing (k.shuts ∷ [])
  bare : (z : List ℕ) → past_blank (k.shuts ∷ z) ≡ k.shuts ∷ z
  lexes : (z : List ℕ) → lex between (k.shuts ∷ z) ≡ token close ∷ lex between z
  ends : (z : List ℕ) → ends_word (k.shuts ∷ z) ≡ true
  no_colon : (ls : List Lexeme) → begins_colon (token close ∷ ls) ≡ false
  first : (ls : List Lexeme) → punctuate fresh (token close ∷ ls) ≡ k.tokens nothing ++ punctuate after_value ls
  later : (ls : List Lexeme) → punctuate after_value (token close ∷ ls) ≡ k.tokens nothing ++ punctuate after_value ls
  each : k.Each [] nothing
  shortens : Shortens k.split
  no_thing : (u z : List ℕ) → past_blank u ≡ k.shuts ∷ z → None ≡ k.split u
  itself : (k.shuts == k.shuts) ≡ true
  no_comma : (k.shuts == 44) ≡ false

no_split : (u z : List ℕ) → past_blank u ≡ z → value_len z ≡ 0 → None ≡ split_value u
unfolding split_value
no_split u z e n = grind (arith, common_steps)

pub found_first : (c : ℕ) (u z : List ℕ) → past_blank u ≡ c ∷ z → (c == c) ≡ true → past_byte c u ≡ Some z
unfolding after_first
found_first c u z e t = ap (λ (x : List ℕ). after_first c x) e ∙ ap (λ (b : Bool). cond b (Some z) None) t

pub other_first : (c d : ℕ) (u z : List ℕ) → past_blank u ≡ d ∷ z → (d == c) ≡ false → past_byte c u ≡ None
unfolding after_first
other_first c d u z e t = ap (λ (x : List ℕ). after_first c x) e ∙ ap (λ (b : Bool). cond b (Some z) None) t

module _ (k : Between) (nothing : k.Said) (close : Token) (s : Shuts k nothing close) (t xs : List ℕ) (rest : List Token) where
  mark : List ℕ
  mark = blanks t ++ k.shuts ∷ []

  past_mark : (z : List ℕ) → past_blank (mark ++ z) ≡ k.shuts ∷ z
  unfolding mark
  past_mark z = ap past_blank (append_assoc (blanks t) (k.shuts ∷ []) z) ∙ (Blank-blanks t).passed (k.shuts ∷ z) ∙ s.bare z

  mark_front : past_blank t ≡ k.shuts ∷ xs → t ≡ mark ++ xs
  unfolding mark
  mark_front e = split_blanks t ∙ ap (λ (x : List ℕ). blanks t ++ x) e ∙ sym (append_assoc (blanks t) (k.shuts ∷ []) xs)

  mark_lexes : (z : List ℕ) → lex between (mark ++ z) ≡ token close ∷ lex between z
  unfolding mark
  mark_lexes z = ap (lex between) (append_assoc (blanks t) (k.shuts ∷ []) z) ∙ (Blank-blanks t).lexes (k.shuts ∷ z) ∙ s.lexes z

  mark_shuts : Closing mark
  unfolding mark
  mark_shuts = closing_after (blanks t) (k.shuts ∷ []) (Blank-blanks t).nests s.closing

  mark_ends : (z : List ℕ) → ends_word (mark ++ z) ≡ true
  unfolding mark
  mark_ends z = ap ends_word (append_assoc (blanks t) (k.shuts ∷ []) z) ∙ (Blank-blanks t).ends (k.shuts ∷ z) (s.ends z)

  nothing_inside : past_blank t ≡ k.shuts ∷ xs → punctuate after_value (lex between xs) ≡ rest → FoundInside k true t nothing rest
  nothing_inside e l = record {
    v = mark;
    r = xs;
    front = mark_front e;
    text = record {
      closing = mark_shuts;
      reads = λ z. ap (punctuate fresh) (mark_lexes z) ∙ s.first (lex between z);
      found = [];
      each = s.each;
      last = mark;
      list = λ z. listed-none k.split s.shortens (mark ++ z) (s.no_thing (mark ++ z) z (past_mark z));
      shut = λ z. found_first k.shuts (mark ++ z) z (past_mark z) s.itself;
    };
    left = l;
  }

  nothing_behind : past_blank t ≡ k.shuts ∷ xs → punctuate after_value (lex between xs) ≡ rest → FoundBehind k t nothing rest
  nothing_behind e l = record {
    v = mark;
    r = xs;
    front = mark_front e;
    text = record {
      closing = mark_shuts;
      reads = λ z. ap (punctuate after_value) (mark_lexes z) ∙ s.later (lex between z);
      fits = λ z. (mark_ends z, ap begins_colon (mark_lexes z) ∙ s.no_colon (lex between z));
      found = [];
      each = s.each;
      last = mark;
      more = λ z. ap (then_more k.split (listed k.split) (mark ++ z)) (other_first 44 k.shuts (mark ++ z) z (past_mark z) s.no_comma);
      shut = λ z. found_first k.shuts (mark ++ z) z (past_mark z) s.itself;
    };
    left = l;
  }

more_behind : (k : Between) (t xs : List ℕ) (rest : List Token) (said : k.Said) → past_blank t ≡ 44 ∷ xs → FoundInside k false xs said rest → FoundBehind k t said rest
unfolding lex punctuate
more_behind k t xs rest said e f =
    let v = blanks t ++ 44 ∷ f.v in
    let lexed : (z : List ℕ) → lex between (v ++ z) ≡ comma ∷ lex between (f.v ++ z) = λ z. ap (lex between) (append_assoc (blanks t) (44 ∷ f.v) z) ∙ (Blank-blanks t).lexes (44 ∷ (f.v ++ z)) in
    let past : (z : List ℕ) → past_blank (v ++ z) ≡ 44 ∷ (f.v ++ z) = λ z. ap past_blank (append_assoc (blanks t) (44 ∷ f.v) z) ∙ (Blank-blanks t).passed (44 ∷ (f.v ++ z)) in
    record {
      v = v;
      r = f.r;
      front = split_blanks t ∙ ap (λ (x : List ℕ). blanks t ++ x) (e ∙ ap (λ (x : List ℕ). 44 ∷ x) f.front) ∙ sym (append_assoc (blanks t) (44 ∷ f.v) f.r);
      text = record {
        closing = closing_after (blanks t) (44 ∷ f.v) (Blank-blanks t).nests (comma_closing f.v f.text.closing);
        reads = λ z. ap (punctuate after_value) (lexed z) ∙ f.text.reads z;
        fits = λ z. (ap ends_word (append_assoc (blanks t) (44 ∷ f.v) z) ∙ (Blank-blanks t).ends (44 ∷ (f.v ++ z)) refl, ap begins_colon (lexed z));
        found = f.text.found;
        each = f.text.each;
        last = f.text.last;
        more = λ z. ap (then_more k.split (listed k.split) (v ++ z)) (found_first 44 (v ++ z) (f.v ++ z) (past z) refl) ∙ f.text.list z;
        shut = f.text.shut;
      };
      left = f.left;
    }

-- ---- the elements of an array

abbrev pub EachText : List (List ℕ) → Items → Type 0
EachText [] no_items = Unit {0}
EachText (v ∷ vs) (item j js) = Text v (json_tokens j) × EachText vs js
EachText _ _ = ⊥

abbrev pub elements : Between
elements = record { Thing = List ℕ; Said = Items; split = split_value; tokens = items_tokens; Each = EachText; shuts = 93 }

elements_shut : Shuts elements no_items end_array
unfolding lex punctuate nest_len value_len
elements_shut = record {
  closing = record { ends = λ z. refl; nests = λ depth z. closes_one depth z };
  bare = λ z. refl;
  lexes = λ z. refl;
  ends = λ z. refl;
  no_colon = λ ls. refl;
  first = λ ls. refl;
  later = λ ls. refl;
  each = tt;
  shortens = Shortens-split_value;
  no_thing = λ u z e. no_split u (93 ∷ z) e refl;
  itself = refl;
  no_comma = refl;
}

some_items : (b : Bool) (t : List ℕ) (j : Json) (js : Items) (mid rest : List Token) (f : Found t (json_tokens j) mid) → FoundBehind elements f.r js rest → FoundInside elements b t (item j js) rest
some_items b t j js mid rest f a =
    let w = blanks t in
    let blank = Blank-blanks t in
    let v = w ++ (f.v ++ a.v) in
    let past : (z : List ℕ) → past_blank (v ++ z) ≡ f.v ++ (a.v ++ z) = λ z. ap past_blank (three w f.v a.v z) ∙ blank.passed (f.v ++ (a.v ++ z)) ∙ f.text.full (a.v ++ z) in
    record {
      v = v;
      r = a.r;
      front = split_blanks t ∙ ap (λ (x : List ℕ). w ++ x) (f.front ∙ ap (λ (x : List ℕ). f.v ++ x) a.front) ∙ sym (three w f.v a.v a.r);
      text = record {
        closing = closing_after w (f.v ++ a.v) blank.nests (closing_after f.v a.v f.text.nests a.text.closing);
        reads = λ z.
            ap (λ (x : List ℕ). punctuate (start b) (lex between x)) (three w f.v a.v z) ∙ ap (punctuate (start b)) (blank.lexes (f.v ++ (a.v ++ z))) ∙ f.text.reads b (a.v ++ z) (a.text.fits z)
            ∙ ap (λ (x : List Token). json_tokens j ++ x) (a.text.reads z) ∙ sym (append_assoc (json_tokens j) (items_tokens js) (punctuate after_value (lex between z)));
        found = f.v ∷ a.text.found;
        each = (f.text, a.text.each);
        last = a.text.last;
        list = λ z.
            let cut = split_text (v ++ z) f.v (a.v ++ z) (past z) (f.text.long (a.v ++ z) (a.text.fits z)) f.text.some in
            turn split_value Shortens-split_value (v ++ z) ∙ ap (first_and_more split_value (listed split_value) (v ++ z)) (sym cut) ∙ ap (λ (q : List (List ℕ) × List ℕ). (f.v ∷ q.0, q.1)) (a.text.more z);
        shut = a.text.shut;
      };
      left = a.left;
    }

-- ---- the members of an object

abbrev pub IsMember : Member → List ℕ → Json → Type 0
IsMember m k j = Quote m.0 k × Text m.1 (json_tokens j)

abbrev pub EachMember : List Member → Members → Type 0
EachMember [] no_members = Unit {0}
EachMember (m ∷ found) (member k j ms) = IsMember m k j × EachMember found ms
EachMember _ _ = ⊥

abbrev pub entries : Between
entries = record { Thing = Member; Said = Members; split = split_member; tokens = members_tokens; Each = EachMember; shuts = 125 }

no_member : (u : List ℕ) → None ≡ split_value u → None ≡ split_member u
unfolding split_member
no_member u e = ap (option_and_then after_key) e

entries_shut : Shuts entries no_members end_object
unfolding lex punctuate nest_len value_len
entries_shut = record {
  closing = record { ends = λ z. refl; nests = λ depth z. closes_one depth z };
  bare = λ z. refl;
  lexes = λ z. refl;
  ends = λ z. refl;
  no_colon = λ ls. refl;
  first = λ ls. refl;
  later = λ ls. refl;
  each = tt;
  shortens = Shortens-split_member;
  no_thing = λ u z e. no_member u (no_split u (125 ∷ z) e refl);
  itself = refl;
  no_comma = refl;
}

six : (a b c : List ℕ) (x : ℕ) (d e f z : List ℕ) → (a ++ (b ++ (c ++ (x ∷ (d ++ (e ++ f)))))) ++ z ≡ a ++ (b ++ (c ++ (x ∷ (d ++ (e ++ (f ++ z))))))
six a b c x d e f z = simp append_assoc

key_reads : (b : Bool) (k : List ℕ) (ls : List Lexeme) → punctuate (start b) (token (string k) ∷ colon ∷ ls) ≡ key k ∷ punctuate fresh ls
unfolding punctuate
key_reads true k ls = refl
key_reads false k ls = refl

lex_colon : (l : List ℕ) → lex between (58 ∷ l) ≡ colon ∷ lex between l
unfolding lex
lex_colon l = refl

split_key : (u k rest more v left : List ℕ) → Some (k, rest) ≡ split_value u → begins_with 34 k ≡ true → Some more ≡ past_byte 58 rest → Some (v, left) ≡ split_value more → Some ((k, v), left) ≡ split_member u
unfolding split_member
split_key u k rest more v left a b c d = grind (arith, common_steps)

module _ (b : Bool) (t : List ℕ) (k : List ℕ) (j : Json) (ms : Members) (mid rest : List Token) (xs ys : List ℕ) (at : past_blank t ≡ 34 ∷ xs) (h : content plain xs ≡ Some k) (col : past_blank (past_string xs) ≡ 58 ∷ ys)
    (f : Found ys (json_tokens j) mid) (a : FoundBehind entries f.r ms rest) where
  some_members : FoundInside entries b t (member k j ms) rest
  some_members =
      let w = blanks t in
      let q = quote xs k h in
      let name = 34 ∷ take (span in_string xs) xs in
      let w2 = blanks (past_string xs) in
      let w3 = blanks ys in
      let v = w ++ (name ++ (w2 ++ (58 ∷ (w3 ++ (f.v ++ a.v))))) in
      let blank = Blank-blanks t in
      let blank2 = Blank-blanks (past_string xs) in
      let blank3 = Blank-blanks ys in
      let group : (z : List ℕ) → v ++ z ≡ w ++ (name ++ (w2 ++ (58 ∷ (w3 ++ (f.v ++ (a.v ++ z)))))) = λ z. six w name w2 58 w3 f.v a.v z in
      let past : (z : List ℕ) → past_blank (v ++ z) ≡ name ++ (w2 ++ (58 ∷ (w3 ++ (f.v ++ (a.v ++ z))))) = λ z.
      ap past_blank (group z) ∙ blank.passed (name ++ (w2 ++ (58 ∷ (w3 ++ (f.v ++ (a.v ++ z)))))) ∙ q.full (w2 ++ (58 ∷ (w3 ++ (f.v ++ (a.v ++ z))))) in
      record {
        v = v;
        r = a.r;
        front = split_blanks t ∙ ap (λ (x : List ℕ). w ++ x) (at ∙ quote_at xs k h ∙ ap (λ (x : List ℕ). name ++ x) (split_blanks (past_string xs) ∙ ap (λ (x : List ℕ). w2 ++ x) (col ∙ ap (λ (x : List ℕ). 58 ∷ x)
            (split_blanks ys ∙ ap (λ (x : List ℕ). w3 ++ x) (f.front ∙ ap (λ (x : List ℕ). f.v ++ x) a.front))))) ∙ sym (group a.r);
        text = record {
          closing = closing_after w _ blank.nests (closing_after name _ q.nests (closing_after w2 _ blank2.nests (colon_closing _ (closing_after w3 _ blank3.nests (closing_after f.v a.v f.text.nests a.text.closing)))));
          reads = λ z.
              let tail = f.v ++ (a.v ++ z) in
              let lexed : lex between (v ++ z) ≡ token (string k) ∷ colon ∷ lex between tail = ap (lex between) (group z) ∙ blank.lexes (name ++ (w2 ++ (58 ∷ (w3 ++ tail)))) ∙ q.lexes (w2 ++ (58 ∷ (w3 ++ tail)))
              ∙ ap (λ (l : List Lexeme). token (string k) ∷ l) (blank2.lexes (58 ∷ (w3 ++ tail)) ∙ lex_colon (w3 ++ tail) ∙ ap (λ (l : List Lexeme). colon ∷ l) (blank3.lexes tail)) in
              ap (punctuate (start b)) lexed ∙ key_reads b k (lex between tail) ∙ ap (λ (l : List Token). key k ∷ l) (f.text.reads true (a.v ++ z) (a.text.fits z) ∙ ap (λ (l : List Token). json_tokens j ++ l) (a.text.reads z)
              ∙ sym (append_assoc (json_tokens j) (members_tokens ms) (punctuate after_value (lex between z))));
          found = (name, f.v) ∷ a.text.found;
          each = ((q, f.text), a.text.each);
          last = a.text.last;
          list = λ z.
              let tail = f.v ++ (a.v ++ z) in
              let after = w2 ++ (58 ∷ (w3 ++ tail)) in
              let cut = split_text (v ++ z) name after (past z) (q.long after) q.some in
              let colon_next = sym (found_first 58 after (w3 ++ tail) (blank2.passed (58 ∷ (w3 ++ tail))) refl) in
              let value = split_text (w3 ++ tail) f.v (a.v ++ z) (blank3.passed tail ∙ f.text.full (a.v ++ z)) (f.text.long (a.v ++ z) (a.text.fits z)) f.text.some in
              let p : Member × List ℕ = ((name, f.v), a.v ++ z) in
              let whole = split_key (v ++ z) name after (w3 ++ tail) f.v (a.v ++ z) cut refl colon_next value in
              turn split_member Shortens-split_member (v ++ z) ∙ ap (first_and_more split_member (listed split_member) (v ++ z)) (sym whole) ∙ ap (λ (y : List Member × List ℕ). (p.0 ∷ y.0, y.1)) (a.text.more z);
          shut = a.text.shut;
        };
        left = a.left;
      }

-- ---- arrays and objects as values

pub array_text : (v : List ℕ) (js : Items) → Inside elements true v js → Text (91 ∷ v) (begin_array ∷ items_tokens js)
unfolding nest_len lex punctuate value_len
array_text v js x = grind (arith, common_steps)

pub object_text : (v : List ℕ) (ms : Members) → Inside entries true v ms → Text (123 ∷ v) (begin_object ∷ members_tokens ms)
unfolding nest_len lex punctuate value_len
object_text v ms x = grind (arith, common_steps)

array_here : (v r : List ℕ) → Closing v → value_len ((91 ∷ v) ++ r) ≡ length (91 ∷ v)
unfolding value_len
array_here v r c = ap (λ (n : ℕ). 1 + n) (c.ends r) ∙ omega arith

object_here : (v r : List ℕ) → Closing v → value_len ((123 ∷ v) ++ r) ≡ length (123 ∷ v)
unfolding value_len
object_here v r c = ap (λ (n : ℕ). 1 + n) (c.ends r) ∙ omega arith

found_array : (t xs : List ℕ) (js : Items) (rest : List Token) → past_blank t ≡ 91 ∷ xs → FoundInside elements true xs js rest → Found t (begin_array ∷ items_tokens js) rest
found_array t xs js rest e f = record { v = 91 ∷ f.v; r = f.r; front = e ∙ ap (λ (x : List ℕ). 91 ∷ x) f.front; text = array_text f.v js f.text; here = array_here f.v f.r f.text.closing; left = f.left }

found_object : (t xs : List ℕ) (ms : Members) (rest : List Token) → past_blank t ≡ 123 ∷ xs → FoundInside entries true xs ms rest → Found t (begin_object ∷ members_tokens ms) rest
found_object t xs ms rest e f = record { v = 123 ∷ f.v; r = f.r; front = e ∙ ap (λ (x : List ℕ). 123 ∷ x) f.front; text = object_text f.v ms f.text; here = object_here f.v f.r f.text.closing; left = f.left }

-- ---- every value of a text

pub next_comma : (j : Json) (t : List ℕ) (rest : List Token) → Next t (json_tokens j ++ rest) → SeenComma t (json_tokens j ++ rest)
next_comma json.null t rest h = h
next_comma _ t rest h = h

mutual
  pub find : (j : Json) (b : Bool) (t : List ℕ) (rest : List Token) → HasNumbers j → punctuate (start b) (lex between t) ≡ json_tokens j ++ rest → Found t (json_tokens j) rest
  find json.null b t rest n e = find_null t rest (subst (Matches b t) e (seen b t))
  find (json.boolean true) b t rest n e = find_true t rest (subst (Matches b t) e (seen b t))
  find (json.boolean false) b t rest n e = find_false t rest (subst (Matches b t) e (seen b t))
  find (json.number s) b t rest n e = find_number t s rest n (subst (Matches b t) e (seen b t))
  find (json.string s) b t rest n e = find_string b t s rest (subst (Matches b t) e (seen b t))
  find (json.array js) b t rest n e = let m = subst (Matches b t) e (seen b t) in found_array t m.0 js rest m.1 (find_items js m.0 rest n m.2)
  find (json.object ms) b t rest n e = let m = subst (Matches b t) e (seen b t) in found_object t m.0 ms rest m.1 (find_members ms m.0 rest n m.2)

  pub find_items : (js : Items) (t : List ℕ) (rest : List Token) → ItemsHaveNumbers js → punctuate fresh (lex between t) ≡ items_tokens js ++ rest → FoundInside elements true t js rest
  find_items no_items t rest n e = let m = subst (Matches true t) e (seen true t) in nothing_inside elements no_items end_array elements_shut t m.1.0 rest m.1.1 m.1.2
  find_items (item j js) t rest n e =
      let f = find j true t (items_tokens js ++ rest) n.0 (e ∙ append_assoc (json_tokens j) (items_tokens js) rest) in
      some_items true t j js (items_tokens js ++ rest) rest f (find_items_after js f.r rest n.1 f.left)

  find_items_after : (js : Items) (t : List ℕ) (rest : List Token) → ItemsHaveNumbers js → punctuate after_value (lex between t) ≡ items_tokens js ++ rest → FoundBehind elements t js rest
  find_items_after no_items t rest n e = let m = subst (Next t) e (next t) in nothing_behind elements no_items end_array elements_shut t m.0 rest m.1 m.2
  find_items_after (item j js) t rest n e =
      let m = next_comma j t (items_tokens js ++ rest) (subst (Next t) (e ∙ append_assoc (json_tokens j) (items_tokens js) rest) (next t)) in
      let f = find j false m.0 (items_tokens js ++ rest) n.0 m.2 in
      more_behind elements t m.0 rest (item j js) m.1 (some_items false m.0 j js (items_tokens js ++ rest) rest f (find_items_after js f.r rest n.1 f.left))

  pub find_members : (ms : Members) (t : List ℕ) (rest : List Token) → MembersHaveNumbers ms → punctuate fresh (lex between t) ≡ members_tokens ms ++ rest → FoundInside entries true t ms rest
  find_members no_members t rest n e = let m = subst (Matches true t) e (seen true t) in nothing_inside entries no_members end_object entries_shut t m.1.0 rest m.1.1 m.1.2
  find_members (member k j ms) t rest n e =
      let m = subst (Matches true t) e (seen true t) in
      let f = find j true m.1 (members_tokens ms ++ rest) n.0 (m.5 ∙ append_assoc (json_tokens j) (members_tokens ms) rest) in
      some_members true t k j ms (members_tokens ms ++ rest) rest m.0 m.1 m.2 m.3 m.4 f (find_members_after ms f.r rest n.1 f.left)

  find_members_after : (ms : Members) (t : List ℕ) (rest : List Token) → MembersHaveNumbers ms → punctuate after_value (lex between t) ≡ members_tokens ms ++ rest → FoundBehind entries t ms rest
  find_members_after no_members t rest n e = let m = subst (Next t) e (next t) in nothing_behind entries no_members end_object entries_shut t m.0 rest m.1 m.2
  find_members_after (member k j ms) t rest n e =
      let c = subst (Next t) e (next t) in
      let m = subst (Matches false c.0) c.2 (seen false c.0) in
      let f = find j true m.1 (members_tokens ms ++ rest) n.0 (m.5 ∙ append_assoc (json_tokens j) (members_tokens ms) rest) in
      more_behind entries t c.0 rest (member k j ms) c.1 (some_members false c.0 k j ms (members_tokens ms ++ rest) rest m.0 m.1 m.2 m.3 m.4 f (find_members_after ms f.r rest n.1 f.left))
