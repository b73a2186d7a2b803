-- The pieces of a document read as its elements.
use Rattle.std.proofs.Common.{◌≡◌, ℕ, suc, ◌-◌, ◌≤◌, Bool, true, false, cond, nat_lt, inl, inr, List, [], ◌∷◌, ◌++◌, length, take, Option, Some, None, is_some, IfSome, option_and_then, refl, sym, ap, ◌∙◌, subst, arith}
use Rattle.std.proofs.lemmas.{Bool.false≢true, Bool.and_parts, List.append-nil, List.append_assoc, List.take_at, List.length-append, Slice.Eq.bytes_eq-Decides, Grind.common_steps}
use Rattle.std.specs.{Str.bytes_eq}
use Rattle.json.specs.Token.{Token}
use Rattle.json.specs.Json as json
use Rattle.json.specs.Lex.{between, lex, fresh, after_value, punctuate, tokens}
use Rattle.json.specs.Tree.{json_tokens, items_tokens, members_tokens, depth, items_depth, members_depth, HasNumbers, ItemsHaveNumbers, MembersHaveNumbers}
use Rattle.serde_json.specs.Data.{Data, null, boolean, number, string, array, object, Items, no_items, item, Members, no_members, put}
use Rattle.serde_json.specs.Events.{items_len}
use Rattle.serde_json.specs.Find.{get, get_member, as_object}
use Rattle.serde_json.specs.Read.{number_of, of_json, of_items, of_members, read}
use Rattle.serde_json.proofs.Views.{get_member-put, get_member-put_other}
use Rattle.bx_cut.specs.Words.{past_blank, past_byte, after_first, Member, split_member, listed, first_and_more, then_more, all_objects, value_fault, IsBare, IsObjectOf, AreObjectsOf, ArePiecesOf, StandsIn, GoesOnIn, LieIn, Object, is_name, later_or, last_member, members, split_object, pieces, pieces_of, only, spelled}
use Rattle.bx_cut.specs.declared.{document.TheConstants.MAX_MESSAGES, error.CutError.TheVariants.NotObject, error.CutError.TheVariants.TooMany}
use Rattle.bx_cut.proofs.{Lists.turn, Readings.whole, Readings.reads_as, Bytes.blanks, Bytes.split_blanks, Values.Text}
use Rattle.bx_cut.proofs.Nested.{FoundInside, entries, EachMember, find_members, object_text, next, next_comma, Next, found_first, other_first}
use Rattle.bx_cut.proofs.Objects.{object-none, object-some, Shortens-split_object}
use Rattle.bx_cut.proofs.Reach.{some_same, from_map, from_and_then}
use Rattle.bx_cut.proofs.Seen.{start, Matches, seen}
use Rattle.bx_cut.proofs.Slices.{text_bare, blanks_blank, nothing_left, shut_at, stands_at, goes_on_at}

text_tokens : (v : List ℕ) (ts : List Token) → Text v ts → tokens v ≡ ts
unfolding lex punctuate
text_tokens v ts x = ap tokens (sym (append-nil v)) ∙ x.reads true [] (refl, refl) ∙ append-nil ts

pub text_reads : (v : List ℕ) (j : json.Json) (d : Data) → Text v (json_tokens j) → depth j ≤ 127 → of_json j ≡ Some d → read v ≡ Some d
text_reads v j d x h e = reads_as v j (text_tokens v (json_tokens j) x) h ∙ e

-- ---- the members

abbrev pub pick : Option (List ℕ) → Option Data → Option Data
pick None earlier = earlier
pick (Some v) earlier = read v

pick_later : (o : Option (List ℕ)) (b : Bool) (v : List ℕ) (e : Option Data) → pick (later_or o (cond b (Some v) None)) e ≡ pick o (cond b (read v) e)
pick_later None true v e = refl
pick_later None false v e = refl
pick_later (Some w) b v e = refl

put_found : (name k : List ℕ) (d : Data) (ms : Members) (v : List ℕ) → read v ≡ Some d → get_member name (put k d ms) ≡ cond (bytes_eq k name) (read v) (get_member name ms)
put_found name k d ms v r = grind (arith, common_steps, bytes_eq-Decides, get_member-put, get_member-put_other, false≢true)

pub members_found : (ms : json.Members) (found : List Member) (name : List ℕ) (before dm : Members) → EachMember found ms → members_depth ms ≤ 126 → Some dm ≡ of_members ms before → get_member name dm ≡ pick (last_member name found) (get_member name before)
members_found json.no_members [] name before dm each h e = ap (get_member name) (some_same dm before e)
members_found json.no_members (m ∷ found) name before dm each h e = absurd each
members_found (json.member k j ms) [] name before dm each h e = absurd each
members_found (json.member k j ms) (m ∷ found) name before dm each h e =
    let d = from_and_then (λ (x : Data). of_members ms (put k x before)) (of_json j) dm e in
    let r = text_reads m.1 j d.0 each.0.1 (omega arith) (sym d.1) in
    let rest = members_found ms found name (put k d.0 before) dm each.1 (omega arith) d.2 in
    let test : is_name name (spelled m.0) ≡ bytes_eq k name = ap (is_name name) each.0.0.spells in
    rest ∙ ap (pick (last_member name found)) (put_found name k d.0 before m.1 r) ∙ sym (pick_later (last_member name found) (bytes_eq k name) m.1 (get_member name before))
    ∙ ap (λ (b : Bool). pick (later_or (last_member name found) (cond b (Some m.1) None)) (get_member name before)) (sym test)

pub pick_none : (o : Option (List ℕ)) → option_and_then read o ≡ pick o None
pick_none None = refl
pick_none (Some v) = refl

later_bare : (o : Option (List ℕ)) (b : Bool) (v : List ℕ) → IfSome o IsBare → IsBare v → IfSome (later_or o (cond b (Some v) None)) IsBare
later_bare None true v h k = k
later_bare None false v h k = tt
later_bare (Some w) b v h k = h

pub members_bare : (ms : json.Members) (found : List Member) (name : List ℕ) → EachMember found ms → IfSome (last_member name found) IsBare
members_bare json.no_members [] name each = tt
members_bare json.no_members (m ∷ found) name each = absurd each
members_bare (json.member k j ms) [] name each = absurd each
members_bare (json.member k j ms) (m ∷ found) name each =
    later_bare (last_member name found) (is_name name (spelled m.0)) m.1 (members_bare ms found name each.1) (text_bare m.1 (json_tokens j) each.0.1)

-- ---- one message

module _ (xs : List ℕ) (ms : json.Members) (rest : List Token) (f : FoundInside entries true xs ms rest) where
  own_members : f.text.found ≡ members (123 ∷ f.v)
  unfolding after_first
  own_members = sym (ap (λ (q : List Member × List ℕ). q.0) (ap (listed split_member) (sym (append-nil f.v)) ∙ f.text.list []))

  object_of : (d : Data) → members_depth ms ≤ 126 → of_json (json.object ms) ≡ Some d → IsObjectOf (123 ∷ f.v, f.text.found) d
  object_of d h e =
      let m = from_map object (of_members ms no_members) d (sym e) in
      record {
        reads = text_reads (123 ∷ f.v) (json.object ms) d (object_text f.v ms f.text) (omega arith) e;
        trim = text_bare (123 ∷ f.v) (json_tokens (json.object ms)) (object_text f.v ms f.text);
        own = own_members;
        bare = λ name. members_bare ms f.text.found name f.text.each;
        finds = λ name. pick_none (last_member name f.text.found) ∙ sym (members_found ms f.text.found name no_members m.0 f.text.each h m.1) ∙ sym (ap (get name) m.2);
      }

  split_found : (t : List ℕ) → past_blank t ≡ 123 ∷ xs → Some ((123 ∷ f.v, f.text.found), f.r) ≡ split_object t
  unfolding after_first
  split_found t e =
      let u = past_blank t in
      let opened : Some xs ≡ after_first 123 u = ap (after_first 123) (sym e) in
      let ms : List Member × List ℕ = (f.text.found, f.text.last ++ f.r) in
      let listing : ms ≡ listed split_member xs = sym (ap (listed split_member) f.front ∙ f.text.list f.r) in
      let cut = object-some t u xs ms refl opened listing f.r (sym (f.text.shut f.r)) in
      let whole_text : u ≡ (123 ∷ f.v) ++ f.r = e ∙ ap (λ (x : List ℕ). 123 ∷ x) f.front in
      let long : length (123 ∷ f.v) ≡ length u - length f.r = omega (arith, ap length whole_text, length-append (123 ∷ f.v) f.r) in
      let text : take (length u - length f.r) u ≡ 123 ∷ f.v = ap (take (length u - length f.r)) whole_text ∙ take_at (123 ∷ f.v) f.r (length u - length f.r) long in
      ap (λ (x : List ℕ). Some ((x, f.text.found), f.r)) (sym text) ∙ cut

-- ---- the messages of an array

pub record ObjectsAt (t : List ℕ) (ds : Items) : Type 0 where
  pub objects : List Object
  pub each : AreObjectsOf objects ds
  pub list : (listed split_object t).0 ≡ objects
  pub lie : StandsIn objects t

pub record ObjectsAfter (t : List ℕ) (ds : Items) : Type 0 where
  pub objects : List Object
  pub each : AreObjectsOf objects ds
  pub list : (then_more split_object (listed split_object) t (past_byte 44 t)).0 ≡ objects
  pub lie : GoesOnIn objects t

not_object : {P : Type 0} (d e : Data) → Some d ≡ Some e → is_some (as_object e) ≡ false → is_some (as_object d) ≡ true → P
not_object d e s n t = absurd (false≢true (sym n ∙ ap (λ (x : Data). is_some (as_object x)) (sym (some_same d e s)) ∙ t))

object_json : (j : json.Json) (d : Data) → Some d ≡ of_json j → is_some (as_object d) ≡ true → (ms : json.Members) × (j ≡ json.object ms)
object_json json.null d e t = not_object d null e refl t
object_json (json.boolean b) d e t = not_object d (boolean b) e refl t
object_json (json.number s) d e t = let m = from_map number (number_of s) d e in not_object d (number m.0) (ap Some m.2) refl t
object_json (json.string s) d e t = not_object d (string s) e refl t
object_json (json.array js) d e t = let m = from_map array (of_items js) d e in not_object d (array m.0) (ap Some m.2) refl t
object_json (json.object ms) d e t = (ms, refl)

step_object : (b : Bool) (t : List ℕ) (j : json.Json) (js : json.Items) (d : Data) (ds : Items) (rest : List Token) → HasNumbers j → depth j ≤ 127 → Some d ≡ of_json j → is_some (as_object d) ≡ true
    → punctuate (start b) (lex between t) ≡ json_tokens j ++ (items_tokens js ++ rest) → ((u : List ℕ) → punctuate after_value (lex between u) ≡ items_tokens js ++ rest → ObjectsAfter u ds) → ObjectsAt t (item d ds)
step_object b t j js d ds rest n h e o s more =
    let is = object_json j d e o in
    let ms = is.0 in
    let numbers : MembersHaveNumbers ms = subst HasNumbers is.1 n in
    let deep : suc (members_depth ms) ≤ 127 = subst (λ (x : json.Json). depth x ≤ 127) is.1 h in
    let seen_here : Matches b t (json_tokens (json.object ms) ++ (items_tokens js ++ rest)) = subst (λ (x : json.Json). Matches b t (json_tokens x ++ (items_tokens js ++ rest))) is.1 (subst (Matches b t) s (seen b t)) in
    let xs = seen_here.0 in
    let f = find_members ms xs (items_tokens js ++ rest) numbers seen_here.2 in
    let after = more f.r f.left in
    let object_is = object_of xs ms (items_tokens js ++ rest) f d (omega arith) (ap of_json (sym is.1) ∙ sym e) in
    let cut = split_found xs ms (items_tokens js ++ rest) f t seen_here.1 in
    let one : Object = (123 ∷ f.v, f.text.found) in
    record {
      objects = one ∷ after.objects;
      each = (object_is, after.each);
      list = ap (λ (q : List Object × List ℕ). q.0) (turn split_object Shortens-split_object t ∙ ap (first_and_more split_object (listed split_object) t) (sym cut)) ∙ ap (λ (l : List Object). one ∷ l) after.list;
      lie = stands_at one after.objects t f.r (seen_here.1 ∙ ap (λ (x : List ℕ). 123 ∷ x) f.front) after.lie;
    }

no_items_left : (ds : Items) → Some ds ≡ of_items json.no_items → AreObjectsOf [] ds
no_items_left ds e = subst (AreObjectsOf []) (sym (some_same ds no_items e)) tt

pub items_parts : (j : json.Json) (js : json.Items) (ds : Items) → Some ds ≡ of_items (json.item j js) → (d : Data) × (rest : Items) × (Some d ≡ of_json j) × (Some rest ≡ of_items js) × (ds ≡ item d rest)
items_parts j js ds e = grind (arith, common_steps)

objects_after : (js : json.Items) (ds : Items) (t : List ℕ) (rest : List Token) → rest ≡ [] → ItemsHaveNumbers js → items_depth js ≤ 126 → Some ds ≡ of_items js → all_objects ds ≡ true → punctuate after_value (lex between t) ≡ items_tokens js ++ rest → ObjectsAfter t ds
objects_after json.no_items ds t rest z n h e o s =
    let m = subst (Next t) s (next t) in
    record { objects = []; each = no_items_left ds e; list = ap (λ (q : Option (List ℕ)). (then_more split_object (listed split_object) t q).0) (other_first 44 93 t m.0 m.1 refl); lie = shut_at t m.0 m.1 (m.2 ∙ z) }
objects_after (json.item j js) ds t rest z n h e o s =
    let p = items_parts j js ds e in
    let passes = and_parts (is_some (as_object p.0)) (all_objects p.1) (sym (ap all_objects p.4) ∙ o) in
    let m = next_comma j t (items_tokens js ++ rest) (subst (Next t) (s ∙ append_assoc (json_tokens j) (items_tokens js) rest) (next t)) in
    let inner = step_object false m.0 j js p.0 p.1 rest n.0 (omega arith) p.2 passes.0 m.2 (λ u g. objects_after js p.1 u rest z n.1 (omega arith) p.3 passes.1 g) in
    record {
      objects = inner.objects;
      each = subst (AreObjectsOf inner.objects) (sym p.4) inner.each;
      list = ap (λ (q : Option (List ℕ)). (then_more split_object (listed split_object) t q).0) (found_first 44 t m.0 m.1 refl) ∙ inner.list;
      lie = goes_on_at inner.objects p.0 p.1 inner.each t m.0 m.1 inner.lie;
    }

objects_at : (js : json.Items) (ds : Items) (t : List ℕ) (rest : List Token) → rest ≡ [] → ItemsHaveNumbers js → items_depth js ≤ 126 → Some ds ≡ of_items js → all_objects ds ≡ true → punctuate fresh (lex between t) ≡ items_tokens js ++ rest → ObjectsAt t ds
objects_at json.no_items ds t rest z n h e o s =
    let m = subst (Matches true t) s (seen true t) in
    let none : None ≡ after_first 123 (past_blank t) = sym (other_first 123 93 t m.1.0 m.1.1 refl) in
    record { objects = []; each = no_items_left ds e; list = ap (λ (q : List Object × List ℕ). q.0) (turn split_object Shortens-split_object t ∙ ap (first_and_more split_object (listed split_object) t) (sym (object-none t none))); lie = shut_at t m.1.0 m.1.1 (m.1.2 ∙ z) }
objects_at (json.item j js) ds t rest z n h e o s =
    let p = items_parts j js ds e in
    let passes = and_parts (is_some (as_object p.0)) (all_objects p.1) (sym (ap all_objects p.4) ∙ o) in
    let inner = step_object true t j js p.0 p.1 rest n.0 (omega arith) p.2 passes.0 (s ∙ append_assoc (json_tokens j) (items_tokens js) rest) (λ u g. objects_after js p.1 u rest z n.1 (omega arith) p.3 passes.1 g) in
    record { objects = inner.objects; each = subst (AreObjectsOf inner.objects) (sym p.4) inner.each; list = inner.list; lie = inner.lie }

-- ---- the whole document

array_json : (j : json.Json) (ds : Items) → Some (array ds) ≡ of_json j → (js : json.Items) × (j ≡ json.array js) × (Some ds ≡ of_items js)
array_json json.null ds e = cc
array_json (json.boolean b) ds e = cc
array_json (json.number s) ds e = let m = from_map number (number_of s) (array ds) e in let no : array ds ≡ number m.0 = m.2 in cc
array_json (json.string s) ds e = cc
array_json (json.array js) ds e = let m = from_map array (of_items js) (array ds) e in let same : ds ≡ m.0 = (let whole_same : array ds ≡ array m.0 = m.2 in cc) in (js, refl, ap Some same ∙ m.1)
array_json (json.object ms) ds e = let m = from_map object (of_members ms no_members) (array ds) e in let no : array ds ≡ object m.0 = m.2 in cc

abbrev pub ArePieces : List ℕ → List Object → Data → Type 0
ArePieces text os d = ArePiecesOf os d × LieIn os text

array_pieces : (text : List ℕ) (ds : Items) → read text ≡ Some (array ds) → all_objects ds ≡ true → ArePieces text (pieces text) (array ds)
array_pieces text ds e o =
    let w = whole text (array ds) e in
    let is = array_json w.json ds (sym w.data_is) in
    let js = is.0 in
    let numbers : ItemsHaveNumbers js = subst HasNumbers is.1 w.numbers in
    let deep : suc (items_depth js) ≤ 127 = subst (λ (x : json.Json). depth x ≤ 127) is.1 w.shallow in
    let m = subst (Matches true text) (w.tokens_are ∙ ap json_tokens is.1) (seen true text) in
    let all = objects_at js ds m.0 [] refl numbers (omega arith) is.2 o (m.2 ∙ sym (append-nil (items_tokens js))) in
    let lie : LieIn all.objects text = inl (blanks text, m.0, split_blanks text ∙ ap (λ (x : List ℕ). blanks text ++ x) m.1, blanks_blank text, all.lie) in
    subst (λ (l : List Object). ArePieces text l (array ds)) (sym (ap (pieces_of text) (found_first 91 text m.0 m.1 refl) ∙ all.list)) (all.each, lie)

object_pieces : (text : List ℕ) (dm : Members) → read text ≡ Some (object dm) → ArePieces text (pieces text) (object dm)
object_pieces text dm e =
    let w = whole text (object dm) e in
    let is = object_json w.json (object dm) (sym w.data_is) refl in
    let ms = is.0 in
    let numbers : MembersHaveNumbers ms = subst HasNumbers is.1 w.numbers in
    let deep : suc (members_depth ms) ≤ 127 = subst (λ (x : json.Json). depth x ≤ 127) is.1 w.shallow in
    let m = subst (Matches true text) (w.tokens_are ∙ ap json_tokens is.1) (seen true text) in
    let f = find_members ms m.0 [] numbers (m.2 ∙ sym (append-nil (members_tokens ms))) in
    let object_is = object_of m.0 ms [] f (object dm) (omega arith) (ap of_json (sym is.1) ∙ w.data_is) in
    let one : Object = (123 ∷ f.v, f.text.found) in
    let cut : pieces text ≡ one ∷ [] = ap (pieces_of text) (other_first 91 123 text m.0 m.1 refl) ∙ ap only (sym (split_found m.0 ms [] f text m.1)) in
    let at : past_blank text ≡ one.0 ++ f.r = m.1 ∙ ap (λ (x : List ℕ). 123 ∷ x) f.front in
    let lie : LieIn (one ∷ []) text = inr (blanks text, f.r, split_blanks text ∙ ap (λ (x : List ℕ). blanks text ++ x) at, blanks_blank text, nothing_left f.r f.left) in
    subst (λ (l : List Object). ArePieces text l (object dm)) (sym cut) (object_is, lie)

pub pieces_read : (text : List ℕ) (d : Data) → read text ≡ Some d → value_fault (read text) ≡ None → ArePieces text (pieces text) d
pieces_read text null e f = grind (arith, common_steps)
pieces_read text (boolean b) e f = grind (arith, common_steps)
pieces_read text (number n) e f = grind (arith, common_steps)
pieces_read text (string s) e f = grind (arith, common_steps)
pieces_read text (array ds) e f = array_pieces text ds e (passes (all_objects ds) (sym (ap value_fault e) ∙ f))
  where
    passes : (b : Bool) → cond b (cond (nat_lt MAX_MESSAGES (items_len ds)) (Some TooMany) None) (Some NotObject) ≡ None → b ≡ true
    passes true g = refl
    passes false g = cc
pieces_read text (object ms) e f = object_pieces text ms e

pub pieces_lie : (text : List ℕ) → value_fault (read text) ≡ None → LieIn (pieces text) text
pieces_lie text f = go (read text) refl
  where
    go : (o : Option Data) → read text ≡ o → LieIn (pieces text) text
    go (Some d) e = (pieces_read text d e f).1
    go None e = absurd (refused (sym (ap value_fault e) ∙ f))
      where
        refused : value_fault None ≡ None → ⊥
        refused g = cc
