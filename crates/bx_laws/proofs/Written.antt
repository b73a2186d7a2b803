-- Texts that are written from values read back as those values.
use Rattle.std.proofs.Common.{◌≡◌, ℕ, suc, ◌^◌, ◌<◌, ◌≤◌, Bool, true, false, ◌&&◌, List, [], ◌∷◌, ◌++◌, map, decimal, Some, None, option_map, option_and_then, refl, sym, ap, ◌∙◌, subst, arith}
use Rattle.std.proofs.lemmas.{List.append-nil, List.append_assoc, List.drop_all, Bool.and_parts}
use Rattle.std.specs.{List.join_with_byte, List.list_all, List.prefix_len, Ordering.nat_cmp, Ordering.match_ordering, Cmp.Lexicographic.slice_cmp}
use Rattle.std.specs.declared.{cmp.Ordering.Ordering, cmp.Ordering.TheVariants.Greater}
use Rattle.json.specs.Token.{Token, begin_object, end_object, begin_array, end_array, key}
use Rattle.json.specs.Token as token
use Rattle.json.specs.{Json.Json, Text.content, Text.plain, Word.is_space, Print.quoted, Print.escape}
use Rattle.json.specs.Json as json
use Rattle.json.specs.Lex.{Lexeme, colon, between, in_string, lex, string_token, fresh, after_value, after_comma, begins_colon, place_token, punctuate, tokens}
use Rattle.json.specs.Lex as lexeme
use Rattle.json.specs.Tree.{json_tokens, items_tokens, members_tokens, depth, items_depth, members_depth}
use Rattle.json.proofs.{Printed.Strings.content-escape, Printed.Strings.lex-escape, Printed.Numbers.lex-number, Printed.Decimals.IsNumber-decimal}
use Rattle.serde_json.specs.Data.{Data, unsigned, number, string, array, object, Items, no_items, item, Members, no_members, put}
use Rattle.serde_json.specs.Data as values
use Rattle.serde_json.specs.Read.{of_json, of_items, of_members}
use Rattle.serde_json.proofs.Numbers.{number_of-decimal}
use Rattle.bx_cut.specs.Words.{IsBlank, past_blank}
use Rattle.bx_cut.proofs.Bytes.{Blank, Blank-blanks, blanks, split_blanks}
use Rattle.bx_cut.proofs.{Nested.find, Readings.whole_within, Readings.reads_within, Seen.start, Slices.nothing_left, Values.Fits}
use Rattle.bx_message.specs.Texts as texts
use Rattle.bx_laws.specs.ReadBack.{read_within, Row, members_in, names_in, keys, stands_behind, Ascend, IsObjectOf, AllReadAs}
use Rattle.bx_message.proofs.ObjectLemmas.{joined}

-- ---- A value anywhere in a text

abbrev pub Reads : List ℕ → Json → Type 0
Reads v j = (b : Bool) (z : List ℕ) → Fits z → punctuate (start b) (lex between (v ++ z)) ≡ json_tokens j ++ punctuate after_value (lex between z)

pub record Value (levels : ℕ) (v : List ℕ) (d : Data) : Type 0 where
  pub tree : Json
  pub reads : Reads v tree
  pub data_is : of_json tree ≡ Some d
  pub shallow : depth tree ≤ levels

pub deeper : {v : List ℕ} {d : Data} (m n : ℕ) → m ≤ n → Value m v d → Value n v d
deeper m n h x = record { tree = x.tree; reads = x.reads; data_is = x.data_is; shallow = omega (arith, h, x.shallow) }

nil_fits : Fits []
unfolding lex
nil_fits = (refl, refl)

pub value_tokens : (v : List ℕ) (j : Json) → Reads v j → tokens v ≡ json_tokens j
unfolding lex punctuate
value_tokens v j h = ap tokens (sym (append-nil v)) ∙ h true [] nil_fits ∙ append-nil (json_tokens j)

pub value_read : (levels : ℕ) (v : List ℕ) (d : Data) → Value levels v d → read_within levels v ≡ Some d
value_read levels v d x = reads_within levels v x.tree (value_tokens v x.tree x.reads) x.shallow ∙ x.data_is

blank_of : (w : List ℕ) → IsBlank w → Blank w
blank_of w h =
    let nothing : past_blank w ≡ [] = drop_all (prefix_len is_space w) w (omega (arith, h)) in
    let same : w ≡ blanks w = split_blanks w ∙ ap (λ (t : List ℕ). blanks w ++ t) nothing ∙ append-nil (blanks w) in
    subst Blank (sym same) (Blank-blanks w)

pub read_value : (levels : ℕ) (v : List ℕ) (d : Data) → read_within levels v ≡ Some d → Value levels v d
read_value levels v d e =
    let w = whole_within levels v d e in
    let f = find w.json true v [] w.numbers (w.tokens_are ∙ sym (append-nil (json_tokens w.json))) in
    let front = Blank-blanks v in
    let back = blank_of f.r (nothing_left f.r f.left) in
    let parts : v ≡ blanks v ++ (f.v ++ f.r) = split_blanks v ∙ ap (λ (t : List ℕ). blanks v ++ t) f.front in
    record {
      tree = w.json;
      reads = λ b z fits.
          let at : v ++ z ≡ blanks v ++ (f.v ++ (f.r ++ z)) = ap (λ (t : List ℕ). t ++ z) parts ∙ append_assoc (blanks v) (f.v ++ f.r) z ∙ ap (λ (t : List ℕ). blanks v ++ t) (append_assoc f.v f.r z) in
          let fits_behind : Fits (f.r ++ z) = (back.ends z fits.0, ap begins_colon (back.lexes z) ∙ fits.1) in
          ap (λ (t : List ℕ). punctuate (start b) (lex between t)) at ∙ ap (punctuate (start b)) (front.lexes (f.v ++ (f.r ++ z))) ∙ f.text.reads b (f.r ++ z) fits_behind
          ∙ ap (λ (ls : List Lexeme). json_tokens w.json ++ punctuate after_value ls) (back.lexes z);
      data_is = w.data_is;
      shallow = w.shallow;
    }

-- ---- Texts and numbers

string_reads : (b : Bool) (s : List ℕ) (ls : List Lexeme) → begins_colon ls ≡ false → punctuate (start b) (lexeme.token (token.string s) ∷ ls) ≡ token.string s ∷ punctuate after_value ls
unfolding punctuate
string_reads true s ls h = ap (λ (c : Bool). place_token fresh (token.string s) c (λ next. punctuate next ls)) h
string_reads false s ls h = ap (λ (c : Bool). place_token after_comma (token.string s) c (λ next. punctuate next ls)) h

number_reads : (b : Bool) (s : List ℕ) (ls : List Lexeme) → punctuate (start b) (lexeme.token (token.number s) ∷ ls) ≡ token.number s ∷ punctuate after_value ls
unfolding punctuate
number_reads true s ls = refl
number_reads false s ls = refl

quoted_lex : (s z : List ℕ) → lex between (quoted s ++ z) ≡ lexeme.token (token.string s) ∷ lex between z
unfolding lex
quoted_lex s z =
    let xs = (escape s ++ 34 ∷ []) ++ z in
    let at : xs ≡ escape s ++ (34 ∷ z) = append_assoc (escape s) (34 ∷ []) z in
    ap (λ (t : List ℕ). lexeme.token (string_token (content plain t)) ∷ lex in_string t) at
    ∙ (λ i. lexeme.token (string_token (content-escape s z i)) ∷ lex-escape s z i)

pub text_value : (s : List ℕ) → Value 0 (quoted s) (string s)
text_value s = record {
  tree = json.string s;
  reads = λ b z fits. ap (punctuate (start b)) (quoted_lex s z) ∙ string_reads b s (lex between z) fits.1;
  data_is = refl;
  shallow = omega arith;
}

pub count_value : (n : ℕ) → n < 2 ^ 64 → Value 0 (decimal n) (number (unsigned n))
count_value n h = record {
  tree = json.number (decimal n);
  reads = λ b z fits. ap (punctuate (start b)) (lex-number (decimal n) z (IsNumber-decimal n h) fits.0) ∙ number_reads b (decimal n) (lex between z);
  data_is = ap (option_map number) (number_of-decimal n h);
  shallow = omega arith;
}

-- ---- Elements that commas separate

abbrev pub after_commas : List (List ℕ) → List ℕ
after_commas [] = []
after_commas (m ∷ ms) = 44 ∷ (m ++ after_commas ms)

brace_fits : (ms : List (List ℕ)) (z : List ℕ) → Fits (after_commas ms ++ (125 ∷ z))
unfolding lex
brace_fits [] z = (refl, refl)
brace_fits (m ∷ ms) z = (refl, refl)

bracket_fits : (ms : List (List ℕ)) (z : List ℕ) → Fits (after_commas ms ++ (93 ∷ z))
unfolding lex
bracket_fits [] z = (refl, refl)
bracket_fits (m ∷ ms) z = (refl, refl)

comma_lex : (b : ℕ) (m rest z : List ℕ) → punctuate after_value (lex between ((44 ∷ (m ++ rest)) ++ z)) ≡ punctuate (start false) (lex between (m ++ (rest ++ z)))
unfolding lex punctuate
comma_lex b m rest z = ap (λ (t : List ℕ). punctuate after_comma (lex between t)) (append_assoc m rest z)

-- ---- Objects

abbrev pub Written : ℕ → List (List ℕ) → List Row → Type 0
Written levels ms [] = ms ≡ []
Written levels ms ((name, None) ∷ rows) = Written levels ms rows
Written levels ms ((name, Some d) ∷ rows) = (text : List ℕ) × (rest : List (List ℕ)) × (ms ≡ texts.member name text ∷ rest) × Value levels text d × Written levels rest rows

abbrev pub put_all : List Row → Members → Members
put_all [] found = found
put_all ((name, None) ∷ rows) found = put_all rows found
put_all ((name, Some d) ∷ rows) found = put_all rows (put name d found)

pub record Listed (levels : ℕ) (ms : List (List ℕ)) (rows : List Row) : Type 0 where
  pub trees : json.Members
  pub after : (z : List ℕ) → punctuate after_value (lex between (after_commas ms ++ (125 ∷ z))) ≡ members_tokens trees ++ punctuate after_value (lex between z)
  pub first : (z : List ℕ) → punctuate fresh (lex between (join_with_byte 44 ms ++ (125 ∷ z))) ≡ members_tokens trees ++ punctuate after_value (lex between z)
  pub shallow : members_depth trees ≤ levels
  pub named : keys trees ≡ names_in rows
  pub gives : (found : Members) → of_members trees found ≡ Some (put_all rows found)

closing_brace : (z : List ℕ) → punctuate after_value (lex between (125 ∷ z)) ≡ end_object ∷ punctuate after_value (lex between z)
unfolding lex punctuate
closing_brace z = refl

empty_object : (z : List ℕ) → punctuate fresh (lex between (125 ∷ z)) ≡ end_object ∷ punctuate after_value (lex between z)
unfolding lex punctuate
empty_object z = refl

key_lex : (name text rest : List ℕ) → lex between (texts.member name text ++ rest) ≡ lexeme.token (token.string name) ∷ colon ∷ lex between (text ++ rest)
unfolding lex
key_lex name text rest = ap (lex between) (append_assoc (quoted name) (58 ∷ text) rest) ∙ quoted_lex name (58 ∷ (text ++ rest))

key_reads : (b : Bool) (name : List ℕ) (ls : List Lexeme) → punctuate (start b) (lexeme.token (token.string name) ∷ colon ∷ ls) ≡ key name ∷ punctuate (start true) ls
unfolding punctuate
key_reads true name ls = refl
key_reads false name ls = refl

member_reads : (b : Bool) (name text rest : List ℕ) (j : Json) → Reads text j → Fits rest → punctuate (start b) (lex between (texts.member name text ++ rest)) ≡ key name ∷ (json_tokens j ++ punctuate after_value (lex between rest))
member_reads b name text rest j h f = ap (punctuate (start b)) (key_lex name text rest) ∙ key_reads b name (lex between (text ++ rest)) ∙ ap (λ (ts : List Token). key name ∷ ts) (h true rest f)

listed_more : (levels : ℕ) (name text : List ℕ) (d : Data) (rest : List (List ℕ)) (rows : List Row) → Value levels text d → Listed levels rest rows → Listed levels (texts.member name text ∷ rest) ((name, Some d) ∷ rows)
listed_more levels name text d rest rows x l =
    let m = texts.member name text in
    let tail = λ (z : List ℕ). after_commas rest ++ (125 ∷ z) in
    let tree = json.member name x.tree l.trees in
    let here : (b : Bool) (z : List ℕ) → punctuate (start b) (lex between (m ++ (after_commas rest ++ (125 ∷ z)))) ≡ members_tokens (json.member name x.tree l.trees) ++ punctuate after_value (lex between z) =
    λ b z. member_reads b name text (after_commas rest ++ (125 ∷ z)) x.tree x.reads (brace_fits rest z)
    ∙ ap (λ (ts : List Token). key name ∷ (json_tokens x.tree ++ ts)) (l.after z)
    ∙ ap (λ (ts : List Token). key name ∷ ts) (sym (append_assoc (json_tokens x.tree) (members_tokens l.trees) (punctuate after_value (lex between z)))) in
    record {
      trees = tree;
      after = λ z. comma_lex 0 m (after_commas rest) (125 ∷ z) ∙ here false z;
      first = λ z. ap (λ (t : List ℕ). punctuate fresh (lex between (t ++ (125 ∷ z)))) (joined m rest) ∙ ap (λ (t : List ℕ). punctuate fresh (lex between t)) (append_assoc m (after_commas rest) (125 ∷ z)) ∙ here true z;
      shallow = omega (arith, x.shallow, l.shallow);
      named = ap (λ (ns : List (List ℕ)). name ∷ ns) l.named;
      gives = λ found. ap (option_and_then (λ (e : Data). of_members l.trees (put name e found))) x.data_is ∙ l.gives (put name d found);
    }

pub listed : (levels : ℕ) (ms : List (List ℕ)) (rows : List Row) → Written levels ms rows → Listed levels ms rows
listed levels ms [] w = subst (λ (l : List (List ℕ)). Listed levels l []) (sym w) (record { trees = json.no_members; after = closing_brace; first = empty_object; shallow = omega arith; named = refl; gives = λ found. refl })
listed levels ms ((name, None) ∷ rows) w =
    let l = listed levels ms rows w in
    record { trees = l.trees; after = l.after; first = l.first; shallow = l.shallow; named = l.named; gives = l.gives }
listed levels ms ((name, Some d) ∷ rows) w =
    subst (λ (l : List (List ℕ)). Listed levels l ((name, Some d) ∷ rows)) (sym w.2) (listed_more levels name w.0 d w.1 rows w.3 (listed levels w.1 rows w.4))

-- ---- Ascending names keep their order

abbrev joined_members : Members → Members → Members
joined_members no_members ns = ns
joined_members (values.member k d ms) ns = values.member k d (joined_members ms ns)

joined-nil : (ms : Members) → joined_members ms no_members ≡ ms
joined-nil no_members = refl
joined-nil (values.member k d ms) = ap (values.member k d) (joined-nil ms)

joined-assoc : (a b c : Members) → joined_members (joined_members a b) c ≡ joined_members a (joined_members b c)
joined-assoc no_members b c = refl
joined-assoc (values.member k d ms) b c = ap (values.member k d) (joined-assoc ms b c)

abbrev Above : List ℕ → Members → Type 0
Above n no_members = Unit {0}
Above n (values.member k d ms) = (stands_behind n k ≡ true) × Above n ms

last_branch : {A : Type 0} (o : Ordering) (a b c : A) → match_ordering o false false true ≡ true → match_ordering o a b c ≡ c
last_branch Greater a b c e = refl
last_branch _ a b c e = cc

put_last : (n : List ℕ) (d : Data) (ms : Members) → Above n ms → put n d ms ≡ joined_members ms (values.member n d no_members)
put_last n d no_members h = refl
put_last n d (values.member k e ms) h =
    last_branch (slice_cmp nat_cmp n k) (values.member n d (values.member k e ms)) (values.member k d ms) (values.member k e (put n d ms)) h.0 ∙ ap (values.member k e) (put_last n d ms h.1)

all_parts : (p : List ℕ → Bool) (before : List (List ℕ)) (m : List ℕ) → list_all p (before ++ m ∷ []) ≡ true → (list_all p before ≡ true) × (p m ≡ true)
all_parts p [] m e = (refl, (and_parts (p m) true e).0)
all_parts p (b ∷ bs) m e =
    let parts = and_parts (p b) (list_all p (bs ++ m ∷ [])) e in
    let rest = all_parts p bs m parts.1 in
    (ap (λ (x : Bool). x && list_all p bs) parts.0 ∙ rest.0, rest.1)

above_joined : (n m : List ℕ) (d : Data) (ms : Members) → Above n ms → stands_behind n m ≡ true → Above n (joined_members ms (values.member m d no_members))
above_joined n m d no_members h e = (e, tt)
above_joined n m d (values.member k x ms) h e = (h.0, above_joined n m d ms h.1 e)

put_rows : (before : List (List ℕ)) (rows : List Row) (found : Members) → ((n : List ℕ) → list_all (stands_behind n) before ≡ true → Above n found) → Ascend before (map (λ (row : Row). row.0) rows) → put_all rows found ≡ joined_members found (members_in rows)
put_rows before [] found above rise = sym (joined-nil found)
put_rows before ((name, None) ∷ rows) found above rise = put_rows (before ++ name ∷ []) rows found (λ n e. above n (all_parts (stands_behind n) before name e).0) rise.1
put_rows before ((name, Some d) ∷ rows) found above rise =
    let one = values.member name d no_members in
    put_rows (before ++ name ∷ []) rows (put name d found)
    (λ n e. let parts = all_parts (stands_behind n) before name e in subst (Above n) (sym (put_last name d found (above name rise.0))) (above_joined n name d found (above n parts.0) parts.1))
    rise.1
    ∙ ap (λ (ms : Members). joined_members ms (members_in rows)) (put_last name d found (above name rise.0)) ∙ joined-assoc found one (members_in rows)

-- ---- Whole objects

opened : (b : Bool) (xs : List ℕ) → punctuate (start b) (lex between (123 ∷ xs)) ≡ begin_object ∷ punctuate fresh (lex between xs)
unfolding lex punctuate
opened true xs = refl
opened false xs = refl

module _ (levels : ℕ) (ms : List (List ℕ)) (rows : List Row) (w : Written levels ms rows) (rise : Ascend [] (map (λ (row : Row). row.0) rows)) where
  private_list : Listed levels ms rows
  private_list = listed levels ms rows w

  object_reads : Reads (texts.object ms) (json.object private_list.trees)
  object_reads b z f =
      ap (λ (t : List ℕ). punctuate (start b) (lex between (123 ∷ t))) (append_assoc (join_with_byte 44 ms) (125 ∷ []) z) ∙ opened b (join_with_byte 44 ms ++ (125 ∷ z)) ∙ ap (λ (ts : List Token). begin_object ∷ ts) (private_list.first z)

  pub object_value : Value (suc levels) (texts.object ms) (object (members_in rows))
  object_value = record {
    tree = json.object private_list.trees;
    reads = object_reads;
    data_is = ap (option_map object) (private_list.gives no_members ∙ ap Some (put_rows [] rows no_members (λ n e. tt) rise));
    shallow = omega (arith, private_list.shallow);
  }

  pub object_is : IsObjectOf (suc levels) (texts.object ms) rows
  object_is = record {
    reads = value_read (suc levels) (texts.object ms) (object (members_in rows)) object_value;
    order = (private_list.trees, value_tokens (texts.object ms) (json.object private_list.trees) object_reads, private_list.named);
    ascend = rise;
  }

pub written_more : (levels : ℕ) (row : Row) (rows : List Row) (a b : List (List ℕ)) → Written levels a (row ∷ []) → Written levels b rows → Written levels (a ++ b) (row ∷ rows)
written_more levels (name, None) rows a b h w = subst (λ (l : List (List ℕ)). Written levels (l ++ b) rows) (sym h) w
written_more levels (name, Some d) rows a b h w = (h.0, b, ap (λ (l : List (List ℕ)). l ++ b) (h.2 ∙ ap (λ (l : List (List ℕ)). texts.member name h.0 ∷ l) h.4), h.3, w)

pub written_one : (levels : ℕ) (name text : List ℕ) (d : Data) → Value levels text d → Written levels (texts.member name text ∷ []) ((name, Some d) ∷ [])
written_one levels name text d x = (text, [], refl, x, refl)

-- ---- Arrays

pub record ListedItems (levels : ℕ) (vs : List (List ℕ)) (ds : Items) : Type 0 where
  pub trees : json.Items
  pub after : (z : List ℕ) → punctuate after_value (lex between (after_commas vs ++ (93 ∷ z))) ≡ items_tokens trees ++ punctuate after_value (lex between z)
  pub first : (z : List ℕ) → punctuate fresh (lex between (join_with_byte 44 vs ++ (93 ∷ z))) ≡ items_tokens trees ++ punctuate after_value (lex between z)
  pub shallow : items_depth trees ≤ levels
  pub gives : of_items trees ≡ Some ds

closing_bracket : (z : List ℕ) → punctuate after_value (lex between (93 ∷ z)) ≡ end_array ∷ punctuate after_value (lex between z)
unfolding lex punctuate
closing_bracket z = refl

empty_array : (z : List ℕ) → punctuate fresh (lex between (93 ∷ z)) ≡ end_array ∷ punctuate after_value (lex between z)
unfolding lex punctuate
empty_array z = refl

items_more : (levels : ℕ) (v : List ℕ) (d : Data) (vs : List (List ℕ)) (ds : Items) → Value levels v d → ListedItems levels vs ds → ListedItems levels (v ∷ vs) (item d ds)
items_more levels v d vs ds x l =
    let here : (b : Bool) (z : List ℕ) → punctuate (start b) (lex between (v ++ (after_commas vs ++ (93 ∷ z)))) ≡ items_tokens (json.item x.tree l.trees) ++ punctuate after_value (lex between z) =
    λ b z. x.reads b (after_commas vs ++ (93 ∷ z)) (bracket_fits vs z) ∙ ap (λ (ts : List Token). json_tokens x.tree ++ ts) (l.after z) ∙ sym (append_assoc (json_tokens x.tree) (items_tokens l.trees) (punctuate after_value (lex between z))) in
    record {
      trees = json.item x.tree l.trees;
      after = λ z. comma_lex 0 v (after_commas vs) (93 ∷ z) ∙ here false z;
      first = λ z. ap (λ (t : List ℕ). punctuate fresh (lex between (t ++ (93 ∷ z)))) (joined v vs) ∙ ap (λ (t : List ℕ). punctuate fresh (lex between t)) (append_assoc v (after_commas vs) (93 ∷ z)) ∙ here true z;
      shallow = omega (arith, x.shallow, l.shallow);
      gives = ap (option_and_then (λ (e : Data). option_map (item e) (of_items l.trees))) x.data_is ∙ ap (option_map (item d)) l.gives;
    }

listed_items : (levels : ℕ) (vs : List (List ℕ)) (ds : Items) → AllReadAs levels vs ds → ListedItems levels vs ds
listed_items levels [] no_items h = record { trees = json.no_items; after = closing_bracket; first = empty_array; shallow = omega arith; gives = refl }
listed_items levels [] (item d ds) h = absurd h
listed_items levels (v ∷ vs) no_items h = absurd h
listed_items levels (v ∷ vs) (item d ds) h = items_more levels v d vs ds (read_value levels v d h.0) (listed_items levels vs ds h.1)

opened_array : (b : Bool) (xs : List ℕ) → punctuate (start b) (lex between (91 ∷ xs)) ≡ begin_array ∷ punctuate fresh (lex between xs)
unfolding lex punctuate
opened_array true xs = refl
opened_array false xs = refl

pub array_value : (levels : ℕ) (vs : List (List ℕ)) (ds : Items) → AllReadAs levels vs ds → Value (suc levels) (texts.array vs) (array ds)
array_value levels vs ds h =
    let l = listed_items levels vs ds h in
    record {
      tree = json.array l.trees;
      reads = λ b z f.
          ap (λ (t : List ℕ). punctuate (start b) (lex between (91 ∷ t))) (append_assoc (join_with_byte 44 vs) (93 ∷ []) z) ∙ opened_array b (join_with_byte 44 vs ++ (93 ∷ z)) ∙ ap (λ (ts : List Token). begin_array ∷ ts) (l.first z);
      data_is = ap (option_map array) l.gives;
      shallow = omega (arith, l.shallow);
    }
