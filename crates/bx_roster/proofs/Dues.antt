-- The entries of a queue, their sessions, and the effect of a tick.
use Rattle.std.proofs.Common.{◌≡◌, ◌≢◌, ℕ, ◌+◌, ◌<◌, ◌≤◌, Bool, true, false, List, [], ◌∷◌, ◌++◌, append_assoc, length, map, refl, sym, ap, subst, ◌∙◌, arith, eq-eqb, ne_eqb, eqb-true}
use Rattle.std.specs.Prelude.{◌&&◌, ◌||◌, ◌==◌, nat_lt, nat_le, not, Some, None, if◌then◌else◌}
use Rattle.std.specs.{List.filter, List.list_any, List.Sorted.IsPermutation}
use Rattle.std.proofs.Math.Bool.{and-false, or-true}
use Rattle.std.proofs.lemmas.{Grind.common_steps, Bool.Decides.nat_tests, Bool.leb-true, Bool.le-leb, Bool.and_parts, List.Elements.All-head, List.Elements.All-tail}
use Rattle.std.proofs.lemmas.List.Sorted.{length_permutation, IsPermutation-sym, IsPermutation-trans, IsPermutation-middle, IsPermutation-append_right, list_any-IsPermutation}
use Rattle.bx_entry.specs.Registry.{Registered, extended, closed, overdue_closed, is_overdue}
use Rattle.bx_roster.specs.Words.{Members, live_in, with_live, IsTable, IsAbsent, AllLive, due_at, AllFiled, IsFrom, files}
use Rattle.bx_roster.specs.declared.due_queue.Due.{Due}
use Rattle.bx_roster.proofs.Live.{live_in-overdue_closed}
use Rattle.bx_roster.proofs.Tables.{IsTable-absent, map-absent, live_in-all, changed-due, changed-number, closing-due, closing-number}

-- ---- Comparisons of moments

not-less : (a b : ℕ) → b ≤ a → nat_lt a b ≡ false
not-less a b le = grind (arith, nat_tests)

-- ---- The entries of one session

pub files-number : (r : Registered) (d : Due) → files r d ≡ true → d.number ≡ r.number
files-number r d e = eqb-true d.number r.number (and_parts (d.number == r.number) (nat_le d.moment.0 r.due) e).0

files-due : (r : Registered) (d : Due) → files r d ≡ true → d.moment.0 ≤ r.due
files-due r d e = leb-true d.moment.0 r.due (and_parts (d.number == r.number) (nat_le d.moment.0 r.due) e).1

pub files-from : (r : Registered) (d : Due) → d.number ≡ r.number → d.moment.0 ≤ r.due → files r d ≡ true
files-from r d same le = ap (λ (b : Bool). b && nat_le d.moment.0 r.due) (eq-eqb d.number r.number same) ∙ le-leb d.moment.0 r.due le

files-other : (r : Registered) (d : Due) → r.number ≢ d.number → files r d ≡ false
files-other r d ne = ap (λ (b : Bool). b && nat_le d.moment.0 r.due) (ne_eqb d.number r.number (λ e. ne (sym e)))

files-later : (r s : Registered) (d : Due) → s.number ≡ r.number → r.due ≤ s.due → files r d ≡ true → files s d ≡ true
files-later r s d same later e = let le : d.moment.0 ≤ r.due = files-due r d e in files-from s d (files-number r d e ∙ sym same) (omega arith)

any-later : (r s : Registered) (es : List Due) → s.number ≡ r.number → r.due ≤ s.due → list_any (files r) es ≡ true → list_any (files s) es ≡ true
any-later r s [] same later any = any
any-later r s (d ∷ es) same later any = grind (arith, common_steps, any-later r s es same later, files-later r s d same later)

any-other : (r : Registered) (d : Due) (es : List Due) → r.number ≢ d.number → list_any (files r) (d ∷ es) ≡ true → list_any (files r) es ≡ true
any-other r d es ne any = ap (λ (b : Bool). b || list_any (files r) es) (sym (files-other r d ne)) ∙ any

-- ---- Sessions that have an entry

pub filed-permuted : (es new : List Due) (rs : List Registered) → IsPermutation es new → AllFiled es rs → AllFiled new rs
filed-permuted es new [] p all = tt
filed-permuted es new (r ∷ rs) p all = (sym (list_any-IsPermutation (files r) es new p) ∙ all.0, filed-permuted es new rs p all.1)

pub filed-cons : (d : Due) (es : List Due) (rs : List Registered) → AllFiled es rs → AllFiled (d ∷ es) rs
filed-cons d es [] all = tt
filed-cons d es (r ∷ rs) all = (ap (λ (b : Bool). files r d || b) all.0 ∙ or-true (files r d), filed-cons d es rs all.1)

pub filed-map : (es : List Due) (g : Registered → Registered) (rs : List Registered) → ((r : Registered) → (g r).number ≡ r.number) → ((r : Registered) → r.due ≤ (g r).due) →
    AllFiled es rs → AllFiled es (map g rs)
filed-map es g [] same later all = tt
filed-map es g (r ∷ rs) same later all = (any-later r (g r) es (same r) (later r) all.0, filed-map es g rs same later all.1)

pub filed-filter : (es : List Due) (p : Registered → Bool) (rs : List Registered) → AllFiled es rs → AllFiled es (filter p rs)
filed-filter es p [] all = tt
filed-filter es p (r ∷ rs) all = grind (arith, common_steps, filed-filter es p rs all.1)

pub filed-append : (es : List Due) (rs ss : List Registered) → AllFiled es rs → AllFiled es ss → AllFiled es (rs ++ ss)
filed-append es [] ss a b = b
filed-append es (r ∷ rs) ss a b = (a.0, filed-append es rs ss a.1 b)

pub filed-extended : (es : List Due) (n due : ℕ) (rs : List Registered) → AllFiled es rs → AllFiled es (live_in (extended n due rs))
filed-extended es n due rs all = filed-filter es (λ r. r.live) (extended n due rs) (filed-map es _ rs (λ r. changed-number due r _) (λ r. changed-due n due r _) all)

pub filed-closed : (es : List Due) (n : ℕ) (rs : List Registered) → AllFiled es rs → AllFiled es (live_in (closed n rs))
filed-closed es n rs all = filed-filter es (λ r. r.live) (closed n rs) (filed-map es _ rs (λ r. closing-number r _) (λ r. closing-due r _) all)

-- ---- An entry is added or removed

pub entries-filed : (d : Due) (late waiting late' waiting' : List Due) → late' ≡ late → IsPermutation (d ∷ waiting) waiting' → IsPermutation (d ∷ (late ++ waiting)) (late' ++ waiting')
entries-filed d late waiting late' waiting' e p =
    rw e (IsPermutation-trans (d ∷ (late ++ waiting)) (late ++ d ∷ waiting) (late ++ waiting')
    (IsPermutation-sym (late ++ d ∷ waiting) (d ∷ (late ++ waiting)) (IsPermutation-middle late d waiting)) (IsPermutation-append_right late (d ∷ waiting) waiting' p))

pub entries-taken : (d : Due) (late waiting late' waiting' : List Due) → late ≡ late' ++ d ∷ [] → waiting' ≡ waiting → IsPermutation (late ++ waiting) (d ∷ (late' ++ waiting'))
entries-taken d late waiting late' waiting' e f = rw (e, f) (subst (λ (es : List Due). IsPermutation es (d ∷ (late' ++ waiting))) (sym (append_assoc late' (d ∷ []) waiting)) (IsPermutation-middle late' d waiting))

pub filed-push : (d : Due) (late waiting late' waiting' : List Due) (rs : List Registered) (r : Registered) → late' ≡ late → IsPermutation (d ∷ waiting) waiting' → d.number ≡ r.number → d.moment.0 ≡ r.due →
    AllFiled (late ++ waiting) rs → AllFiled (late' ++ waiting') (rs ++ r ∷ [])
filed-push d late waiting late' waiting' rs r e p same moment all =
    let here : files r d ≡ true = files-from r d same (omega (arith, moment)) in
    filed-permuted (d ∷ (late ++ waiting)) (late' ++ waiting') (rs ++ r ∷ []) (entries-filed d late waiting late' waiting' e p)
    (filed-append (d ∷ (late ++ waiting)) rs (r ∷ []) (filed-cons d (late ++ waiting) rs all) (ap (λ (b : Bool). b || list_any (files r) (late ++ waiting)) here, tt))

pub length-push : (d : Due) (late waiting late' waiting' : List Due) → late' ≡ late → IsPermutation (d ∷ waiting) waiting' → length (late' ++ waiting') ≡ length (late ++ waiting) + 1
length-push d late waiting late' waiting' e p =
    omega (arith, length_permutation (d ∷ (late ++ waiting)) (late' ++ waiting') (entries-filed d late waiting late' waiting' e p))

pub filed-absent : (d : Due) (es : List Due) (rs : List Registered) → IsAbsent d.number rs → AllFiled (d ∷ es) rs → AllFiled es rs
filed-absent d es [] a all = tt
filed-absent d es (r ∷ rs) a all = (any-other r d es a.0 all.0, filed-absent d es rs a.1 all.1)

pub none-absent : (n : ℕ) (rs : List Registered) → due_at n rs ≡ None → IsAbsent n rs
none-absent n [] none = tt
none-absent n (r ∷ rs) none = grind (arith, common_steps, none-absent n rs)

pub filed-gone : (d : Due) (es : List Due) (rs : List Registered) → AllFiled (d ∷ es) rs → AllFiled es (live_in (closed d.number rs))
filed-gone d es [] all = tt
filed-gone d es (r ∷ rs) all = grind (arith, common_steps, filed-gone d es rs all.1, any-other r d es)

pub filed-moved : (d e : Due) (es : List Due) (due low high : ℕ) (rs : List Registered) → e.number ≡ d.number → e.moment.0 ≡ due → IsTable low high rs → AllFiled (d ∷ es) rs →
    due_at d.number rs ≡ Some due → AllFiled (e ∷ es) rs
filed-moved d e es due low high [] same moment t all is = tt
filed-moved d e es due low high (r ∷ rs) same moment t all is =
    grind (arith, common_steps, filed-moved d e es due r.number high rs same moment t.2 all.1, filed-cons e es rs, filed-absent d es rs, IsTable-absent r.number high d.number rs, any-other r d es, files-from r e)

-- ---- The sessions after a tick

abbrev pub stays : ℕ → Registered → Bool
stays moment r = r.live && nat_le moment r.due

less-or-not : (a b : ℕ) (c : Bool) → nat_lt a b ≡ c → nat_le b a ≡ not c
less-or-not a b c h1 = grind (arith, common_steps, nat_tests)

pub stays-overdue_closed : (moment : ℕ) (rs : List Registered) → filter (stays moment) rs ≡ live_in (overdue_closed moment rs)
stays-overdue_closed moment [] = refl
stays-overdue_closed moment (r ∷ rs) = grind (arith, common_steps, stays-overdue_closed moment rs)

lt-test : (a b : ℕ) → a < b → nat_lt a b ≡ true
lt-test a b less = grind (arith, nat_tests)

pub due-from : (m : ℕ) (r : Registered) (es : List Due) → IsFrom m es → list_any (files r) es ≡ true → m ≤ r.due
due-from m r [] from any = cc
due-from m r (d ∷ es) from any = grind (arith, common_steps, due-from m r es (All-tail (λ (x : Due). m ≤ x.moment.0) d es from), All-head (λ (x : Due). m ≤ x.moment.0) d es from, files-due r d)

pub none-overdue_closed : (m : ℕ) (es : List Due) (rs : List Registered) → IsFrom m es → AllFiled es rs → overdue_closed m rs ≡ rs
none-overdue_closed m es [] from all = refl
none-overdue_closed m es (r ∷ rs) from all =
    let no : is_overdue m r ≡ false = ap (λ (b : Bool). r.live && b) (not-less r.due m (due-from m r es from all.0)) ∙ and-false r.live in
    ap (λ (b : Bool). (if b then record r { live = false } else r) ∷ overdue_closed m rs) no ∙ ap (λ (ys : List Registered). r ∷ ys) (none-overdue_closed m es rs from all.1)

pub settled : (m : ℕ) (late waiting : List Due) (ms : Members) → late ≡ [] → IsFrom m waiting → AllFiled (late ++ waiting) ms.live → AllLive ms.live →
    with_live ms (live_in (overdue_closed m ms.live)) ≡ ms
settled m late waiting ms none from filed all =
    let es : AllFiled waiting ms.live = subst (λ (l : List Due). AllFiled (l ++ waiting) ms.live) none filed in
    ap (with_live ms) (ap live_in (none-overdue_closed m waiting ms.live from es) ∙ live_in-all ms.live all)

goes : (m : ℕ) (r : Registered) → r.due < m → stays m r ≡ false
goes m r late = ap (λ (b : Bool). r.live && b) (less-or-not r.due m true (lt-test r.due m late)) ∙ and-false r.live

closed-stays : (n m due low high : ℕ) (rs : List Registered) → due < m → IsTable low high rs → due_at n rs ≡ Some due → filter (stays m) (closed n rs) ≡ filter (stays m) rs
closed-stays n m due low high [] late t is = refl
closed-stays n m due low high (r ∷ rs) late t is = grind (arith, common_steps, closed-stays n m due r.number high rs late t.2, map-absent n (λ s. record s { live = false }) rs, IsTable-absent r.number high n rs, goes m r)

pub closed-overdue_closed : (n m due low high : ℕ) (rs : List Registered) → due < m → IsTable low high rs → due_at n rs ≡ Some due → live_in (overdue_closed m (live_in (closed n rs))) ≡ live_in (overdue_closed m rs)
closed-overdue_closed n m due low high rs late t is =
    live_in-overdue_closed m (closed n rs) ∙ sym (stays-overdue_closed m (closed n rs)) ∙ closed-stays n m due low high rs late t is ∙ stays-overdue_closed m rs
