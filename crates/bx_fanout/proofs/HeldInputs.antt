-- Proves how the held connects and the marks of answered ones change with an answer.
use Rattle.std.proofs.Common.{◌≡◌, ◌≢◌, ℕ, ◌+◌, ◌<◌, ◌≤◌, Bool, true, false, List, [], ◌∷◌, ◌++◌, length, map, filter, refl, sym, ap, ◌∙◌, cond, arith, Option, Some, None, count_by, length-append, append-nil, zero-add, ne_eqb, eqb-true}
use Rattle.std.specs.Prelude.{◌&&◌, ◌||◌, ◌==◌, is_none, is_some, if◌then◌else◌}
use Rattle.std.specs.{List.AllByRecursion, List.list_any, List.Sorted.IsStrictlySortedBy, BTreeMap.insert_entry, BTreeMap.is_at, Ordering.nat_cmp}
use Rattle.std.specs.Map.{keys_of, lookup, set_value}
use Rattle.std.specs.declared.cmp.Ordering.TheVariants.{Less, Greater}
use Rattle.std.proofs.Math.Bool.{and-false, and-true, or-false}
use Rattle.std.proofs.lemmas.{Bool.Decides.nat_tests, List.Elements.filter-append, List.Folds.list_any-append, List.Sums.count_by-le-length, List.Sums.sum_by-append}
use Rattle.bx_history.proofs.Tests.{less-from-cmp}
use Rattle.bx_message.specs.declared.reply.Answer.{Answer}
use Rattle.bx_fanout.specs.declared.held_inputs.HeldInput.{HeldInput}
use Rattle.bx_history.specs.Members.{has}
use Rattle.bx_fanout.specs.HeldInputs.{AllBelow, Row, answered_at, answered_places, is_answered, waits, waits_there, with_answer}

-- ---- Tests of numbers

pub at-is : (a b : ℕ) → is_at (nat_cmp a) b ≡ (b == a)
at-is a b = grind (arith, nat_tests)

greater : (a b : ℕ) → b < a → nat_cmp a b ≡ Greater
greater a b l = grind (arith, nat_tests)

-- ---- One more connect

pub held-behind : (place : ℕ) (h : HeldInput) (rows : List Row) → AllBelow place rows → insert_entry nat_cmp rows place h ≡ rows ++ (place, h) ∷ []
held-behind place h [] below = refl
held-behind place h (row ∷ rows) below = rw (greater place row.0 below.0) (ap (λ (rs : List Row). row ∷ rs) (held-behind place h rows below.1))

pub same-answered : (place number : ℕ) (rows : List Row) → filter is_answered (rows ++ (place, record { number = number; answer = None }) ∷ []) ≡ filter is_answered rows
same-answered place number rows = filter-append is_answered rows _ ∙ append-nil (filter is_answered rows)

pub marked-behind : (place number capacity : ℕ) (answered marks : List ℕ) (h : HeldInput) (rows after : List Row) → h ≡ record { number = number; answer = None } → marks ≡ answered →
    after ≡ rows ++ (place, h) ∷ [] → ((n : ℕ) → has n answered ≡ has n (answered_places rows)) → (n : ℕ) → has n marks ≡ has n (answered_places after)
marked-behind place number capacity answered marks h rows after held same is marked n =
    let answered' : filter is_answered after ≡ filter is_answered rows = ap (filter is_answered) (is ∙ ap (λ (g : HeldInput). rows ++ (place, g) ∷ []) held) ∙ same-answered place number rows in
    ap (has n) same ∙ marked n ∙ sym (ap (λ (rs : List Row). has n (map (λ (row : Row). row.0) rs)) answered')

pub count-behind : (place number : ℕ) (rows : List Row) → count_by waits (rows ++ (place, record { number = number; answer = None }) ∷ []) ≤ length rows + 1
count-behind place number rows =
    let all = rows ++ (place, record { number = number; answer = None }) ∷ [] in
    let le : count_by waits all ≤ length all = count_by-le-length waits all in
    let len : length all ≡ length rows + 1 = length-append rows _ in
    omega arith

-- ---- An answer arrives

abbrev pub waits_by : Option HeldInput → Bool
waits_by None = false
waits_by (Some h) = is_none h.answer

none-there : (x place : ℕ) (rows : List Row) → AllByRecursion (λ (y : ℕ). nat_cmp x y ≡ Less) (keys_of rows) → x ≡ place → list_any (waits_there place) rows ≡ false
none-there x place [] above same = refl
none-there x place (row ∷ rows) above same =
    let less : x < row.0 = less-from-cmp x row.0 above.0 in
    let other : row.0 ≢ place = omega arith in
    rw (ne_eqb row.0 place other) (none-there x place rows above.1 same)

pub any-waits : (place : ℕ) (rows : List Row) → IsStrictlySortedBy nat_cmp (keys_of rows) → list_any (waits_there place) rows ≡ waits_by (lookup (is_at (nat_cmp place)) rows)
unfolding IsStrictlySortedBy
any-waits place [] sorted = refl
any-waits place (row ∷ rows) sorted = grind (arith, at-is place row.0, none-there row.0 place rows sorted.0, any-waits place rows sorted.1)

pub unchanged : (place : ℕ) (a : Answer) (rows : List Row) → list_any (waits_there place) rows ≡ false → answered_at place a rows ≡ rows
unchanged place a [] e = refl
unchanged place a (row ∷ rows) e = grind (arith, unchanged place a rows)

written : (k : ℕ) (h w : HeldInput) (a : Answer) (o : Option Answer) → h.answer ≡ o → w.number ≡ h.number → w.answer ≡ (if is_none o then Some a else o) →
    (k, w) ≡ (if is_none o then with_answer a (k, h) else (k, h))
written k h w a o is e f = grind arith

put-by : (place : ℕ) (a : Answer) (row : Row) (rows : List Row) (h w : HeldInput) → w.number ≡ h.number → w.answer ≡ (if is_none h.answer then Some a else h.answer) →
    (row.0 ≡ place → list_any (waits_there place) rows ≡ false) → (lookup (is_at (nat_cmp place)) rows ≡ Some h → set_value (is_at (nat_cmp place)) rows w ≡ answered_at place a rows) →
    (b : Bool) → (row.0 == place) ≡ b → cond b (Some row.1) (lookup (is_at (nat_cmp place)) rows) ≡ Some h →
    cond b ((row.0, w) ∷ rows) (row ∷ set_value (is_at (nat_cmp place)) rows w) ≡ (if b && waits row then with_answer a row else row) ∷ answered_at place a rows
put-by place a row rows h w number answer none ih true e found =
    let same : row.1 ≡ h = cc in
    let number' : w.number ≡ row.1.number = number ∙ ap (λ (v : HeldInput). v.number) (sym same) in
    let answer' : w.answer ≡ (if is_none row.1.answer then Some a else row.1.answer) = answer ∙ ap (λ (v : HeldInput). if is_none v.answer then Some a else v.answer) (sym same) in
    ap (λ (r : Row). r ∷ rows) (written row.0 row.1 w a row.1.answer refl number' answer')
    ∙ ap (λ (rs : List Row). (if waits row then with_answer a row else row) ∷ rs) (sym (unchanged place a rows (none (eqb-true row.0 place e))))
put-by place a row rows h w number answer none ih false e found = ap (λ (rs : List Row). row ∷ rs) (ih found)

pub put-at : (place : ℕ) (a : Answer) (rows : List Row) (h w : HeldInput) → IsStrictlySortedBy nat_cmp (keys_of rows) → lookup (is_at (nat_cmp place)) rows ≡ Some h →
    w.number ≡ h.number → w.answer ≡ (if is_none h.answer then Some a else h.answer) → set_value (is_at (nat_cmp place)) rows w ≡ answered_at place a rows
unfolding IsStrictlySortedBy
put-at place a [] h w sorted found number answer = cc
put-at place a (row ∷ rows) h w sorted found number answer =
    let test = at-is place row.0 in
    let found' : cond (row.0 == place) (Some row.1) (lookup (is_at (nat_cmp place)) rows) ≡ Some h = ap (λ (b : Bool). cond b (Some row.1) (lookup (is_at (nat_cmp place)) rows)) (sym test) ∙ found in
    ap (λ (b : Bool). cond b ((row.0, w) ∷ rows) (row ∷ set_value (is_at (nat_cmp place)) rows w)) test
    ∙ put-by place a row rows h w number answer (none-there row.0 place rows sorted.0) (λ found'. put-at place a rows h w sorted.1 found' number answer) (row.0 == place) refl found'

-- ---- The marks after an answer

mark-true : (p any old rest : Bool) → rest ≡ ((p && any) || old) → (p || rest) ≡ (p || old)
mark-true p any old rest e = grind arith

mark-false : (p any q old rest : Bool) → rest ≡ ((p && any) || old) → (q || rest) ≡ ((p && any) || (q || old))
mark-false p any q old rest e = grind arith

marks-by : (place : ℕ) (a : Answer) (n : ℕ) (row : Row) (rows : List Row) →
    has n (answered_places (answered_at place a rows)) ≡ (((place == n) && list_any (waits_there place) rows) || has n (answered_places rows)) →
    (o : Option Answer) → row.1.answer ≡ o → (b : Bool) → (row.0 == place) ≡ b →
    has n (answered_places ((if b && is_none o then with_answer a row else row) ∷ answered_at place a rows))
    ≡ (((place == n) && ((b && is_none o) || list_any (waits_there place) rows)) || has n (map (λ (r : Row). r.0) (cond (is_some o) (row ∷ filter is_answered rows) (filter is_answered rows))))
marks-by place a n row rows ih None is true e =
    let same : row.0 ≡ place = eqb-true row.0 place e in
    ap (λ (m : ℕ). (m == n) || has n (answered_places (answered_at place a rows))) same
    ∙ mark-true (place == n) (list_any (waits_there place) rows) (has n (answered_places rows)) (has n (answered_places (answered_at place a rows))) ih
    ∙ ap (λ (b : Bool). b || has n (answered_places rows)) (sym (and-true (place == n)))
marks-by place a n row rows ih None is false e = rw is ih
marks-by place a n row rows ih (Some b) is true e =
    rw is (mark-false (place == n) (list_any (waits_there place) rows) (row.0 == n) (has n (answered_places rows)) (has n (answered_places (answered_at place a rows))) ih)
marks-by place a n row rows ih (Some b) is false e =
    rw is (mark-false (place == n) (list_any (waits_there place) rows) (row.0 == n) (has n (answered_places rows)) (has n (answered_places (answered_at place a rows))) ih)

marks-answered : (place : ℕ) (a : Answer) (n : ℕ) (rows : List Row) →
    has n (answered_places (answered_at place a rows)) ≡ (((place == n) && list_any (waits_there place) rows) || has n (answered_places rows))
marks-answered place a n [] = sym (or-false _ ∙ and-false (place == n))
marks-answered place a n (row ∷ rows) = marks-by place a n row rows (marks-answered place a n rows) row.1.answer refl (row.0 == place) refl

swap-or : (p q : Bool) → (p || (q || false)) ≡ ((q && true) || p)
swap-or p q = grind arith

pub marked-answered : (place : ℕ) (a : Answer) (marks after : List ℕ) (rows : List Row) → list_any (waits_there place) rows ≡ true → after ≡ marks ++ place ∷ [] →
    ((n : ℕ) → has n marks ≡ has n (answered_places rows)) → (n : ℕ) → has n after ≡ has n (answered_places (answered_at place a rows))
marked-answered place a marks after rows any is marked n =
    ap (has n) is ∙ list_any-append (λ (m : ℕ). m == n) marks (place ∷ []) ∙ ap (λ (b : Bool). b || ((place == n) || false)) (marked n) ∙ swap-or (has n (answered_places rows)) (place == n)
    ∙ ap (λ (b : Bool). ((place == n) && b) || has n (answered_places rows)) (sym any) ∙ sym (marks-answered place a n rows)

count-cons : (row : Row) (rows : List Row) → count_by waits (row ∷ rows) ≡ cond (waits row) 1 0 + count_by waits rows
count-cons row rows = sum_by-append (λ (r : Row). cond (waits r) 1 0) (row ∷ []) rows ∙ ap (λ (n : ℕ). n + count_by waits rows) (zero-add (cond (waits row) 1 0))

count-answered : (place : ℕ) (a : Answer) (rows : List Row) → count_by waits (answered_at place a rows) + cond (list_any (waits_there place) rows) 1 0 ≤ count_by waits rows
count-answered place a [] = omega arith
count-answered place a (row ∷ rows) =
    grind (arith, count-answered place a rows, count-cons row rows, count-cons (if waits_there place row then with_answer a row else row) (answered_at place a rows))

pub fewer-wait : (place : ℕ) (a : Answer) (rows : List Row) → list_any (waits_there place) rows ≡ true → count_by waits (answered_at place a rows) + 1 ≤ count_by waits rows
fewer-wait place a rows any = rw any at (count-answered place a rows)
