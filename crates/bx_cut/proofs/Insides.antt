-- The text inside a value reads as the value's parts.
use Rattle.std.proofs.Common.{◌≡◌, ℕ, ◌≤◌, Bool, true, false, ◌==◌, List, [], ◌∷◌, Option, Some, None, IsSome, IfSome, option_map, option_and_then, refl, sym, ap, ◌∙◌, subst, arith}
use Rattle.std.proofs.lemmas.{Bool.or_parts, Bool.false≢true, List.append-nil, Grind.common_steps}
use Rattle.std.specs.{Borrow.Bor, Bool.IsTrue}
use Rattle.json.specs.Json as json
use Rattle.json.specs.Text.{content, plain}
use Rattle.json.specs.Tree.{json_tokens, items_tokens, members_tokens, depth, items_depth, HasNumbers}
use Rattle.serde_json.specs.Data.{Data, null, boolean, number, string, array, object, Items, no_items, no_members}
use Rattle.serde_json.specs.Find.{get, as_str}
use Rattle.serde_json.specs.Read.{number_of, of_json, of_items, of_members, read}
use Rattle.bx_cut.specs.Words.{past_blank, past_byte, after_first, Member, split_value, split_member, listed, BeginsBare, IsBare, AreTextsOf, AreElementsOf, elements, elements_inside, member_text, members, members_inside, last_member, spelled}
use Rattle.bx_cut.proofs.{Bytes.Other, Slices.text_bare, Reach.some_same, Reach.from_map, Readings.whole, Seen.Matches, Seen.seen}
use Rattle.bx_cut.proofs.Laws.{text_reads, members_bare, items_parts, members_found, pick_none}
use Rattle.bx_cut.proofs.Nested.{EachText, find_items, find_members, found_first, other_first}

pub record Begins (t : List ℕ) (x : ℕ) : Type 0 where
  pub rest : List ℕ
  pub at : past_blank t ≡ x ∷ rest

other_opens : (x : ℕ) → Other x → ((x == 123) ≡ false) × ((x == 91) ≡ false)
other_opens x o = or_parts (x == 123) (x == 91) o.opens_not

each_text : (js : json.Items) (vs : List (List ℕ)) (ds : Items) → EachText vs js → items_depth js ≤ 126 → Some ds ≡ of_items js → AreTextsOf vs ds
each_text json.no_items [] ds t h e = subst (AreTextsOf []) (sym (some_same ds no_items e)) tt
each_text json.no_items (v ∷ vs) ds t h e = absurd t
each_text (json.item j js) [] ds t h e = absurd t
each_text (json.item j js) (v ∷ vs) ds t h e =
    let p = items_parts j js ds e in
    subst (AreTextsOf (v ∷ vs)) (sym p.4) (text_reads v j p.0 t.0 (omega arith) (sym p.2), text_bare v (json_tokens j) t.0, each_text js vs p.1 t.1 (omega arith) p.3)

module _ (t : List ℕ) (d : Data) where
  no_elements : past_byte 91 t ≡ None → elements t ≡ []
  no_elements e = ap elements_inside e

  no_members_in : (name : List ℕ) → past_byte 123 t ≡ None → option_and_then read (member_text name t) ≡ None
  no_members_in name e = ap (λ (o : Option (List ℕ)). option_and_then read (last_member name (members_inside o))) e

  elements_of_json : (j : json.Json) → Matches true t (json_tokens j) → HasNumbers j → depth j ≤ 127 → of_json j ≡ Some d → AreElementsOf (elements t) d
  elements_of_json json.null (x, xs, e, o, w, l) n h f = subst (AreElementsOf (elements t)) (some_same null d f) (no_elements (other_first 91 x t xs e (other_opens x o).1))
  elements_of_json (json.boolean true) (x, xs, e, o, w, l) n h f = subst (AreElementsOf (elements t)) (some_same (boolean true) d f) (no_elements (other_first 91 x t xs e (other_opens x o).1))
  elements_of_json (json.boolean false) (x, xs, e, o, w, l) n h f = subst (AreElementsOf (elements t)) (some_same (boolean false) d f) (no_elements (other_first 91 x t xs e (other_opens x o).1))
  elements_of_json (json.number s) (x, xs, e, o, w, l) n h f = grind (arith, common_steps, from_map, no_elements, other_first, other_opens)
  elements_of_json (json.string s) (xs, e, c, b, l) n h f = subst (AreElementsOf (elements t)) (some_same (string s) d f) (no_elements (other_first 91 34 t xs e refl))
  elements_of_json (json.array js) (xs, e, l) n h f =
      let m = from_map array (of_items js) d (sym f) in
      let found = find_items js xs [] n (l ∙ sym (append-nil (items_tokens js))) in
      let list : elements t ≡ found.text.found = ap elements_inside (found_first 91 t xs e refl) ∙ ap (λ (q : List (List ℕ) × List ℕ). q.0) (ap (listed split_value) found.front ∙ found.text.list found.r) in
      let each : AreElementsOf found.text.found d = subst (AreElementsOf found.text.found) (sym m.2) (each_text js found.text.found m.0 found.text.each (omega arith) m.1) in
      subst (λ (vs : List (List ℕ)). AreElementsOf vs d) (sym list) each
  elements_of_json (json.object ms) (xs, e, l) n h f = grind (arith, common_steps, from_map, no_elements, other_first)

  member_of_json : (name : List ℕ) (j : json.Json) → Matches true t (json_tokens j) → HasNumbers j → depth j ≤ 127 → of_json j ≡ Some d → option_and_then read (member_text name t) ≡ get name d
  member_of_json name json.null (x, xs, e, o, w, l) n h f = no_members_in name (other_first 123 x t xs e (other_opens x o).0) ∙ ap (get name) (some_same null d f)
  member_of_json name (json.boolean true) (x, xs, e, o, w, l) n h f = no_members_in name (other_first 123 x t xs e (other_opens x o).0) ∙ ap (get name) (some_same (boolean true) d f)
  member_of_json name (json.boolean false) (x, xs, e, o, w, l) n h f = no_members_in name (other_first 123 x t xs e (other_opens x o).0) ∙ ap (get name) (some_same (boolean false) d f)
  member_of_json name (json.number s) (x, xs, e, o, w, l) n h f = grind (arith, common_steps, from_map, no_members_in, other_first, other_opens)
  member_of_json name (json.string s) (xs, e, c, b, l) n h f = no_members_in name (other_first 123 34 t xs e refl) ∙ ap (get name) (some_same (string s) d f)
  member_of_json name (json.array js) (xs, e, l) n h f = grind (arith, common_steps, from_map, no_members_in, other_first)
  member_of_json name (json.object ms) (xs, e, l) n h f =
      let m = from_map object (of_members ms no_members) d (sym f) in
      let found = find_members ms xs [] n (l ∙ sym (append-nil (members_tokens ms))) in
      let list : members t ≡ found.text.found = ap members_inside (found_first 123 t xs e refl) ∙ ap (λ (q : List Member × List ℕ). q.0) (ap (listed split_member) found.front ∙ found.text.list found.r) in
      ap (λ (l : List Member). option_and_then read (last_member name l)) list ∙ pick_none (last_member name found.text.found) ∙ sym (members_found ms found.text.found name no_members m.0 found.text.each (omega arith) m.1) ∙ sym (ap (get name) m.2)

  no_bare : (name : List ℕ) → past_byte 123 t ≡ None → IfSome (member_text name t) IsBare
  no_bare name e = subst (λ (o : Option (List ℕ)). IfSome (last_member name (members_inside o)) IsBare) (sym e) tt

  bare_of_json : (name : List ℕ) (j : json.Json) → Matches true t (json_tokens j) → HasNumbers j → IfSome (member_text name t) IsBare
  bare_of_json name json.null (x, xs, e, o, w, l) n = no_bare name (other_first 123 x t xs e (other_opens x o).0)
  bare_of_json name (json.boolean true) (x, xs, e, o, w, l) n = no_bare name (other_first 123 x t xs e (other_opens x o).0)
  bare_of_json name (json.boolean false) (x, xs, e, o, w, l) n = no_bare name (other_first 123 x t xs e (other_opens x o).0)
  bare_of_json name (json.number s) (x, xs, e, o, w, l) n = no_bare name (other_first 123 x t xs e (other_opens x o).0)
  bare_of_json name (json.string s) (xs, e, c, b, l) n = no_bare name (other_first 123 34 t xs e refl)
  bare_of_json name (json.array js) (xs, e, l) n = no_bare name (other_first 123 91 t xs e refl)
  bare_of_json name (json.object ms) (xs, e, l) n =
      let found = find_members ms xs [] n (l ∙ sym (append-nil (members_tokens ms))) in
      let list : members t ≡ found.text.found = ap members_inside (found_first 123 t xs e refl) ∙ ap (λ (q : List Member × List ℕ). q.0) (ap (listed split_member) found.front ∙ found.text.list found.r) in
      subst (λ (l : List Member). IfSome (last_member name l) IsBare) (sym list) (members_bare ms found.text.found name found.text.each)

  not_spelled : past_blank t ≡ t → past_byte 34 t ≡ None → spelled t ≡ None
  not_spelled p e = ap (option_and_then (content plain)) (ap (after_first 34) (sym p) ∙ e)

  spelled_json : past_blank t ≡ t → (j : json.Json) → Matches true t (json_tokens j) → of_json j ≡ Some d → spelled t ≡ as_str d
  spelled_json p json.null (x, xs, e, o, w, l) f = not_spelled p (other_first 34 x t xs e o.quote_not) ∙ ap as_str (some_same null d f)
  spelled_json p (json.boolean true) (x, xs, e, o, w, l) f = not_spelled p (other_first 34 x t xs e o.quote_not) ∙ ap as_str (some_same (boolean true) d f)
  spelled_json p (json.boolean false) (x, xs, e, o, w, l) f = not_spelled p (other_first 34 x t xs e o.quote_not) ∙ ap as_str (some_same (boolean false) d f)
  spelled_json p (json.number s) (x, xs, e, o, w, l) f = let m = from_map number (number_of s) d (sym f) in not_spelled p (other_first 34 x t xs e o.quote_not) ∙ ap as_str (sym m.2)
  spelled_json p (json.string s) (xs, e, c, b, l) f = ap (option_and_then (content plain)) (ap (after_first 34) (sym p) ∙ found_first 34 t xs e refl) ∙ c ∙ ap as_str (some_same (string s) d f)
  spelled_json p (json.array js) (xs, e, l) f = let m = from_map array (of_items js) d (sym f) in not_spelled p (other_first 34 91 t xs e refl) ∙ ap as_str (sym m.2)
  spelled_json p (json.object ms) (xs, e, l) f = let m = from_map object (of_members ms no_members) d (sym f) in not_spelled p (other_first 34 123 t xs e refl) ∙ ap as_str (sym m.2)

  module _ (r : read t ≡ Some d) where
    pub elements_read : AreElementsOf (elements t) d
    elements_read = let w = whole t d r in elements_of_json w.json (subst (Matches true t) w.tokens_are (seen true t)) w.numbers w.shallow w.data_is

    pub member_reads : (name : List ℕ) → option_and_then read (member_text name t) ≡ get name d
    member_reads name = let w = whole t d r in member_of_json name w.json (subst (Matches true t) w.tokens_are (seen true t)) w.numbers w.shallow w.data_is

    pub member_bare : (name : List ℕ) → IfSome (member_text name t) IsBare
    member_bare name = let w = whole t d r in bare_of_json name w.json (subst (Matches true t) w.tokens_are (seen true t)) w.numbers

    pub spelled_reads : past_blank t ≡ t → spelled t ≡ as_str d
    spelled_reads p = let w = whole t d r in spelled_json p w.json (subst (Matches true t) w.tokens_are (seen true t)) w.data_is

-- ---- results of the functions

module _ (value : List ℕ) (d : Data) (r : read value ≡ Some d) (bare : BeginsBare value) where
  pub spells_reads : (text : List ℕ) (b : Bool) → (IsTrue b → spelled value ≡ Some text) × (spelled value ≡ Some text → IsTrue b) → (IsTrue b → as_str d ≡ Some text) × (as_str d ≡ Some text → IsTrue b)
  spells_reads text b h = let same = spelled_reads value d r bare in (λ t. sym same ∙ h.0 t, λ e. h.1 (same ∙ e))

  pub text_is : (o : Option (List ℕ)) → o ≡ spelled value → o ≡ as_str d
  text_is o h = h ∙ spelled_reads value d r bare

pub found_reads : (name whole_text : List ℕ) (o : Option (List ℕ)) → o ≡ member_text name whole_text → (d : Data) → read whole_text ≡ Some d → option_and_then read o ≡ get name d
found_reads name whole_text o h d r = ap (option_and_then read) h ∙ member_reads whole_text d r name

some_of : (o : Option Data) → IsSome o → (d : Data) × (o ≡ Some d)
some_of None h = absurd (false≢true h)
some_of (Some d) h = (d, refl)

if_some_now : (o : Option (Bor (List ℕ))) (q : Option (List ℕ)) → option_map (λ x. x.now) o ≡ q → IfSome q IsBare → IfSome o (λ x. IsBare x.now)
if_some_now None q e h = tt
if_some_now (Some x) q e h = subst (λ (y : Option (List ℕ)). IfSome y IsBare) (sym e) h

pub found_bare : (name whole_text : List ℕ) (o : Option (Bor (List ℕ))) → option_map (λ x. x.now) o ≡ member_text name whole_text → IsSome (read whole_text) → IfSome o (λ x. IsBare x.now)
found_bare name whole_text o h s = let d = some_of (read whole_text) s in if_some_now o (member_text name whole_text) h (member_bare whole_text d.0 d.1 name)
