-- Proves that the outs of answered connects are appended in the order of their places.
use Rattle.std.proofs.Common.{◌≡◌, ◌≢◌, ℕ, ◌+◌, ◌-◌, ◌<◌, Bool, true, false, List, [], ◌∷◌, ◌++◌, length, map, filter, refl, sym, ap, subst, ◌∙◌, cond, arith, eqb, Option, Some, None, Ok, reverse, append_assoc, append-nil, length-append, take, slice_get, eqb-true}
use Rattle.std.proofs.lemmas.{List.reverse-append, Option.slice_get-get_or, Option.slice_get_past, Bool.eqb-false, List.Sorted.IsPermutation-reverse, List.Sorted.list_any-IsPermutation, Map.Keys.IsStrictlyIncreasing-dedup, Map.Keys.sorted_from_strictly_increasing}
use Rattle.std.proofs.Math.Seq.{get_or-append_seam, take-append_seam}
use Rattle.std.specs.Prelude.{◌==◌, is_none, is_some}
use Rattle.std.specs.{List.AllByRecursion, List.dedup, List.Sorted.IsPermutation, List.Sorted.IsSorted, List.Sorted.IsStrictlySortedBy, BTreeMap.is_at, Ordering.nat_cmp}
use Rattle.std.specs.Map.{keys_of, lookup, remove_entry}
use Rattle.std.specs.declared.cmp.Ordering.TheVariants.{Less}
use Rattle.bx_history.proofs.Tests.{less-from-cmp}
use Rattle.bx_history.proofs.Ascending.{dedup-has, AllAbove, Ascends, same-ascends, ascends-sorted}
use Rattle.bx_message.specs.declared.reply.Answer.{Answer}
use Rattle.bx_fanout.specs.declared.{held_inputs.HeldInput.HeldInput, out.Out.Out}
use Rattle.bx_history.specs.Members.{has}
use Rattle.bx_fanout.specs.HeldInputs.{Gives, Row, answered_places, is_answered, items_of, out_by, outs_of, waits}
use Rattle.bx_fanout.proofs.HeldInputs.{at-is}

-- ---- The places of answered connects

places-above-by : (x : ℕ) (row : Row) (rows : List Row) → x < row.0 → AllAbove x (answered_places rows) → (b : Bool) → AllAbove x (map (λ (r : Row). r.0) (cond b (row ∷ filter is_answered rows) (filter is_answered rows)))
places-above-by x row rows less ih true = (less, ih)
places-above-by x row rows less ih false = ih

places-above : (x : ℕ) (rows : List Row) → AllByRecursion (λ (y : ℕ). nat_cmp x y ≡ Less) (keys_of rows) → AllAbove x (answered_places rows)
places-above x [] all = tt
places-above x (row ∷ rows) all = places-above-by x row rows (less-from-cmp x row.0 all.0) (places-above x rows all.1) (is_answered row)

places-ascend-by : (row : Row) (rows : List Row) → AllAbove row.0 (answered_places rows) → Ascends (answered_places rows) → (b : Bool) → Ascends (map (λ (r : Row). r.0) (cond b (row ∷ filter is_answered rows) (filter is_answered rows)))
places-ascend-by row rows above ih true = (above, ih)
places-ascend-by row rows above ih false = ih

places-ascend : (rows : List Row) → IsStrictlySortedBy nat_cmp (keys_of rows) → Ascends (answered_places rows)
unfolding IsStrictlySortedBy
places-ascend [] s = tt
places-ascend (row ∷ rows) s = places-ascend-by row rows (places-above row.0 rows s.0) (places-ascend rows s.1) (is_answered row)

pub marks-in-order : (rows : List Row) (marks sorted once turned : List ℕ) → IsStrictlySortedBy nat_cmp (keys_of rows) → ((n : ℕ) → has n marks ≡ has n (answered_places rows)) →
    IsPermutation marks sorted → IsSorted nat_cmp sorted → once ≡ dedup eqb sorted → turned ≡ reverse once → turned ≡ reverse (answered_places rows)
marks-in-order rows marks sorted once turned ordered marked moved rises is back =
    let same : once ≡ answered_places rows = is ∙ same-ascends (dedup eqb sorted) (answered_places rows)
    (ascends-sorted (dedup eqb sorted) (sorted_from_strictly_increasing (dedup eqb sorted) (IsStrictlyIncreasing-dedup sorted rises)))
    (places-ascend rows ordered)
    (λ n. dedup-has n sorted ∙ sym (list_any-IsPermutation (λ (k : ℕ). k == n) marks sorted moved) ∙ marked n) in
    back ∙ ap (λ (ns : List ℕ). reverse ns) same

pub marked-turned : (rows : List Row) (turned : List ℕ) → turned ≡ reverse (answered_places rows) → (n : ℕ) → has n turned ≡ has n (answered_places rows)
marked-turned rows turned is n = ap (has n) is ∙ sym (list_any-IsPermutation (λ (k : ℕ). k == n) (answered_places rows) (reverse (answered_places rows)) (IsPermutation-reverse (answered_places rows)))

-- ---- The first answered connect

pub record First (rows : List Row) (place : ℕ) (places : List ℕ) : Type 0 where
  pub out : Out
  pub found : out_by (lookup (is_at (nat_cmp place)) rows) ≡ Some out
  pub outs : outs_of rows ≡ out ∷ outs_of (remove_entry (is_at (nat_cmp place)) rows)
  pub rest : answered_places (remove_entry (is_at (nat_cmp place)) rows) ≡ places
  pub others : filter waits (remove_entry (is_at (nat_cmp place)) rows) ≡ filter waits rows

abbrev found-at : Row → List Row → ℕ → Bool → Option HeldInput
found-at row rows place b = cond b (Some row.1) (lookup (is_at (nat_cmp place)) rows)

abbrev left-at : Row → List Row → ℕ → Bool → List Row
left-at row rows place b = cond b rows (row ∷ remove_entry (is_at (nat_cmp place)) rows)

record FirstBy (row : Row) (rows : List Row) (place : ℕ) (places : List ℕ) (b : Bool) : Type 0 where
  out : Out
  found : out_by (found-at row rows place b) ≡ Some out
  outs : outs_of (row ∷ rows) ≡ out ∷ outs_of (left-at row rows place b)
  rest : answered_places (left-at row rows place b) ≡ places
  others : filter waits (left-at row rows place b) ≡ filter waits (row ∷ rows)

from-by : (row : Row) (rows : List Row) (place : ℕ) (places : List ℕ) → FirstBy row rows place places (is_at (nat_cmp place) row.0) → First (row ∷ rows) place places
from-by row rows place places f = record { out = f.out; found = f.found; outs = f.outs; rest = f.rest; others = f.others }

apart : (x place : ℕ) (places : List ℕ) (rows : List Row) → AllByRecursion (λ (y : ℕ). nat_cmp x y ≡ Less) (keys_of rows) → answered_places rows ≡ place ∷ places → x ≢ place
apart x place places rows all is =
    let above : AllAbove x (place ∷ places) = subst (AllAbove x) is (places-above x rows all) in
    omega (arith, above.0)

first-here : (row : Row) (rows : List Row) (a : Answer) (place : ℕ) (places : List ℕ) → row.1.answer ≡ Some a → row.0 ∷ answered_places rows ≡ place ∷ places → FirstBy row rows place places true
first-here row rows a place places came is =
    let rest : answered_places rows ≡ places = cc in
    record {
      out = record { input = row.1.number; result = Ok (items_of a) };
      found = rw came refl;
      outs = rw came refl;
      rest = rest;
      others = rw came refl;
    }

filter-waits : (row : Row) (rows : List Row) → row.1.answer ≡ None → filter waits (row ∷ rows) ≡ row ∷ filter waits rows
filter-waits row rows none = ap (λ (o : Option Answer). cond (is_none o) (row ∷ filter waits rows) (filter waits rows)) none

first-behind : (row : Row) (rows : List Row) (place : ℕ) (places : List ℕ) → row.1.answer ≡ None → First rows place places → FirstBy row rows place places false
first-behind row rows place places none f = record {
  out = f.out;
  found = f.found;
  outs = rw none f.outs;
  rest = rw none f.rest;
  others = filter-waits row (remove_entry (is_at (nat_cmp place)) rows) none ∙ ap (λ (rs : List Row). row ∷ rs) f.others ∙ sym (filter-waits row rows none);
}

first-by : (row : Row) (rows : List Row) (place : ℕ) (places : List ℕ) → (answered_places rows ≡ place ∷ places → First rows place places) → (answered_places rows ≡ place ∷ places → row.0 ≢ place) →
    (o : Option Answer) → row.1.answer ≡ o → map (λ (r : Row). r.0) (cond (is_some o) (row ∷ filter is_answered rows) (filter is_answered rows)) ≡ place ∷ places →
    (b : Bool) → (row.0 == place) ≡ b → FirstBy row rows place places b
first-by row rows place places ih other None came is true e = absurd (other is (eqb-true row.0 place e))
first-by row rows place places ih other None came is false e = first-behind row rows place places came (ih is)
first-by row rows place places ih other (Some a) came is true e = first-here row rows a place places came is
first-by row rows place places ih other (Some a) came is false e = let same : row.0 ≡ place = cc in absurd (eqb-false row.0 place e same)

pub first-given : (rows : List Row) (place : ℕ) (places : List ℕ) → IsStrictlySortedBy nat_cmp (keys_of rows) → answered_places rows ≡ place ∷ places → First rows place places
unfolding IsStrictlySortedBy
first-given [] place places s is = cc
first-given (row ∷ rows) place places s is =
    let step = first-by row rows place places (first-given rows place places s.1) (apart row.0 place places rows s.0) row.1.answer refl is (row.0 == place) refl in
    from-by row rows place places (subst (FirstBy row rows place places) (sym (at-is place row.0)) step)

pub gives-on : (old rows : List Row) (before outs after : List Out) (place : ℕ) (places : List ℕ) (f : First rows place places) → Gives old before outs rows → after ≡ outs ++ f.out ∷ [] →
    Gives old before after (remove_entry (is_at (nat_cmp place)) rows)
gives-on old rows before outs after place places f g is =
    let left : List Row = remove_entry (is_at (nat_cmp place)) rows in
    record {
      more = g.more ++ f.out ∷ [];
      behind = is ∙ ap (λ (os : List Out). os ++ f.out ∷ []) g.behind ∙ append_assoc before g.more (f.out ∷ []);
      given = g.given ∙ ap (λ (os : List Out). g.more ++ os) f.outs ∙ sym (append_assoc g.more (f.out ∷ []) (outs_of left));
      others = f.others ∙ g.others;
    }

pub gives-none : (rows : List Row) (before : List Out) → Gives rows before before rows
gives-none rows before = record { more = []; behind = sym (append-nil before); given = refl; others = refl }

-- ---- The last mark

pub record Last (places : List ℕ) (place : ℕ) (before : List ℕ) : Type 0 where
  pub rest : List ℕ
  pub is : places ≡ place ∷ rest
  pub before-is : before ≡ reverse rest

last-at : (xs : List ℕ) (p : ℕ) → slice_get (xs ++ p ∷ []) (length xs) ≡ Some p
last-at xs p =
    let len : length (xs ++ p ∷ []) ≡ length xs + 1 = length-append xs (p ∷ []) in
    slice_get-get_or (xs ++ p ∷ []) (length xs) p (omega arith) ∙ ap (λ (n : ℕ). Some n) (get_or-append_seam xs p [] p)

last-by : (marks before : List ℕ) (place p : ℕ) (ps : List ℕ) → marks ≡ reverse ps ++ p ∷ [] → slice_get marks (length marks - 1) ≡ Some place → before ≡ take (length marks - 1) marks → Last (p ∷ ps) place before
last-by marks before place p ps is last taken =
    let len : length marks - 1 ≡ length (reverse ps) = let l : length (reverse ps ++ p ∷ []) ≡ length (reverse ps) + 1 = length-append (reverse ps) (p ∷ []) in let e : length marks ≡ length (reverse ps ++ p ∷ []) = ap (λ (ns : List ℕ). length ns) is in omega arith in
    let found : slice_get (reverse ps ++ p ∷ []) (length (reverse ps)) ≡ Some place = ap (λ (ns : List ℕ). slice_get ns (length (reverse ps))) (sym is) ∙ ap (λ (n : ℕ). slice_get marks n) (sym len) ∙ last in
    let some : Some p ≡ Some place = sym (last-at (reverse ps) p) ∙ found in
    let same : p ≡ place = cc in
    record {
      rest = ps;
      is = ap (λ (n : ℕ). n ∷ ps) same;
      before-is = taken ∙ ap (λ (n : ℕ). take n marks) len ∙ ap (λ (ns : List ℕ). take (length (reverse ps)) ns) is ∙ take-append_seam (reverse ps) (p ∷ []);
    }

pub last-first : (marks before places : List ℕ) (place : ℕ) → marks ≡ reverse places → slice_get marks (length marks - 1) ≡ Some place → before ≡ take (length marks - 1) marks → Last places place before
last-first marks before [] place is last taken =
    let none : slice_get marks (length marks - 1) ≡ None = ap (λ (ns : List ℕ). slice_get ns (length marks - 1)) is ∙ slice_get_past (reverse []) (length marks - 1) (omega arith) in
    let both : Some place ≡ None = sym last ∙ none in
    cc
last-first marks before (p ∷ ps) place is last taken = last-by marks before place p ps (is ∙ reverse-append (p ∷ []) ps) last taken

-- ---- All answered connects

pub all-wait : (rows : List Row) → answered_places rows ≡ [] → filter waits rows ≡ rows
all-wait [] is = refl
all-wait (row ∷ rows) is = grind (arith, all-wait rows)
