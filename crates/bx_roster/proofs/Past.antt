-- The late entries of a queue, in order and without repetition, give the overdue sessions.
use Rattle.std.proofs.Common.{◌≡◌, ℕ, ◌<◌, Bool, true, false, List, [], ◌∷◌, ◌++◌, map, refl, sym, ap, ◌∙◌, arith, eqb}
use Rattle.std.specs.Prelude.{◌&&◌, ◌==◌}
use Rattle.std.specs.{List.dedup, List.list_any, List.Sorted.IsPermutation, List.Sorted.IsSorted, Ordering.nat_cmp}
use Rattle.std.proofs.lemmas.{Grind.common_steps, List.Sorted.list_any-IsPermutation, Map.Keys.IsStrictlyIncreasing-dedup, Map.Keys.sorted_from_strictly_increasing}
use Rattle.std.proofs.Math.Bool.{and-false}
use Rattle.bx_history.specs.Members.{has}
use Rattle.bx_history.proofs.Ascending.{dedup-has, AllAbove, Ascends, above-lower, same-ascends, ascends-sorted, filter-has}
use Rattle.bx_entry.specs.Registry.{Registered, overdue}
use Rattle.bx_roster.specs.Words.{IsTable, IsAbsent, AllLive, due_at, AllFiled, IsFrom, files, is_past, past_numbers}
use Rattle.bx_roster.specs.declared.due_queue.Due.{Due}
use Rattle.bx_roster.proofs.{Tables.IsTable-absent, Dues.due-from, Dues.files-number}

-- ---- The overdue sessions

overdue-above : (m low high : ℕ) (rs : List Registered) → IsTable low high rs → AllAbove low (overdue m rs)
overdue-above m low high [] t = tt
overdue-above m low high (r ∷ rs) t = grind (arith, common_steps, above-lower, overdue-above m r.number high rs t.2)

overdue-ascends : (m low high : ℕ) (rs : List Registered) → IsTable low high rs → Ascends (overdue m rs)
overdue-ascends m low high [] t = tt
overdue-ascends m low high (r ∷ rs) t = grind (arith, common_steps, overdue-above m r.number high rs t.2, overdue-ascends m r.number high rs t.2)

absent-overdue : (m n : ℕ) (rs : List Registered) → IsAbsent n rs → has n (overdue m rs) ≡ false
absent-overdue m n [] a = refl
absent-overdue m n (r ∷ rs) a = grind (arith, common_steps, absent-overdue m n rs a.1)

past-has : (m n low high : ℕ) (rs : List Registered) → IsTable low high rs → AllLive rs → is_past m (due_at n rs) ≡ has n (overdue m rs)
past-has m n low high [] t all = refl
past-has m n low high (r ∷ rs) t all = grind (arith, common_steps, past-has m n r.number high rs t.2 all.1, absent-overdue, IsTable-absent)

-- ---- Each overdue session has a late entry

late-has : (m : ℕ) (r : Registered) (late waiting : List Due) → IsFrom m waiting → r.due < m → list_any (files r) (late ++ waiting) ≡ true → has r.number (map (λ (e : Due). e.number) late) ≡ true
late-has m r [] waiting from less any = absurd (omega (arith, due-from m r waiting from any, less))
late-has m r (d ∷ late) waiting from less any = grind (arith, common_steps, late-has m r late waiting from less, files-number)

overdue-late : (m n : ℕ) (rs : List Registered) (late waiting : List Due) → IsFrom m waiting → AllFiled (late ++ waiting) rs → AllLive rs →
    has n (overdue m rs) ≡ true → has n (map (λ (e : Due). e.number) late) ≡ true
overdue-late m n [] late waiting from filed all h = cc
overdue-late m n (r ∷ rs) late waiting from filed all h = grind (arith, common_steps, overdue-late m n rs late waiting from filed.1 all.1, late-has m r late waiting from)

found-by : (m n : ℕ) (rs : List Registered) (late : List Due) → (has n (overdue m rs) ≡ true → has n (map (λ (e : Due). e.number) late) ≡ true) →
    (b : Bool) → has n (overdue m rs) ≡ b → (has n (map (λ (e : Due). e.number) late) && b) ≡ b
found-by m n rs late h1 b h2 = grind (arith, common_steps, and-false)

pub past-overdue : (m low high : ℕ) (rs : List Registered) (late waiting : List Due) (found sorted numbers : List ℕ) → IsFrom m waiting → AllFiled (late ++ waiting) rs → IsTable low high rs → AllLive rs →
    found ≡ past_numbers m rs late → IsPermutation found sorted → IsSorted nat_cmp sorted → numbers ≡ dedup eqb sorted → numbers ≡ overdue m rs
past-overdue m low high rs late waiting found sorted numbers from filed t all is moved rises once =
    once ∙ same-ascends (dedup eqb sorted) (overdue m rs)
    (ascends-sorted (dedup eqb sorted) (sorted_from_strictly_increasing (dedup eqb sorted) (IsStrictlyIncreasing-dedup sorted rises)))
    (overdue-ascends m low high rs t)
    (λ n. dedup-has n sorted ∙ sym (list_any-IsPermutation (λ (k : ℕ). k == n) found sorted moved) ∙ ap (has n) is
    ∙ filter-has (λ (k : ℕ). is_past m (due_at k rs)) n (map (λ (d : Due). d.number) late)
    ∙ ap (λ (b : Bool). has n (map (λ (d : Due). d.number) late) && b) (past-has m n low high rs t all)
    ∙ found-by m n rs late (overdue-late m n rs late waiting from filed all) (has n (overdue m rs)) refl)
