-- Batches of ticks continue a list of ticks.
use Rattle.std.proofs.Common.{◌≡◌, ℕ, zero, suc, ◌+◌, ◌<◌, List, [], ◌∷◌, ◌++◌, length, map, refl, ap, sym, ◌∙◌, subst, arith, append_assoc, length-append}
use Rattle.std.specs.List.{fold}
use Rattle.std.proofs.lemmas.List.{append-nil, map-append}
use Rattle.bx_advice.specs.declared.config.Config.{Config}
use Rattle.bx_entry.specs.Listing.{Listed, Tick}
use Rattle.bx_entry.specs.Registry.{Judged, Registry, judge, found_at, entries_of, entries, state_of, tick_verdict}
use Rattle.bx_entry.specs.declared.entry.Entry.{Entry}
use Rattle.bx_entry.specs.declared.senders.Senders.TheVariants.{NoneYet}
use Rattle.bx_window.specs.declared.batch.UnpublishedBatch.{UnpublishedBatch}
use Rattle.bx_window.specs.Places.{Continues}
use Rattle.bx_calls.specs.Ticks.{ticks, tick_at, tick_entries}

pub ticks_add : (m n : ℕ) → ticks m ++ ticks n ≡ ticks (m + n)
ticks_add zero n = let e : 0 + n ≡ n = omega arith in rw e refl
ticks_add (suc m) n = let e : suc m + n ≡ suc (m + n) = omega arith in rw e (ap (λ (l : List Listed). Tick 0 ∷ l) (ticks_add m n))

pub ticks_length : (n : ℕ) → length (ticks n) ≡ n
ticks_length zero = refl
ticks_length (suc n) = ap suc (ticks_length n)

pub ticks_more : (n : ℕ) → ticks n ++ Tick 0 ∷ [] ≡ ticks (n + 1)
ticks_more n = ticks_add n 1

pub entries_more : (place n : ℕ) → tick_entries place n ++ tick_at (place + n) ∷ [] ≡ tick_entries place (n + 1)
entries_more place zero = let e : place + 0 ≡ place = omega arith in rw e refl
entries_more place (suc n) =
    let e : place + suc n ≡ place + 1 + n = omega arith in
    let k : suc n + 1 ≡ suc (n + 1) = omega arith in
    rw (e, k) (ap (λ (l : List Entry). tick_at place ∷ l) (entries_more (place + 1) n))

pub entries_count : (place n : ℕ) → length (tick_entries place n) ≡ n
entries_count place zero = refl
entries_count place (suc n) = ap suc (entries_count (place + 1) n)

entry_in : Judged → Entry
entry_in j = j.entry

-- A registry with these elements, in which no session was ever opened.
idle : List Judged → Registry
idle judged = record { clock = 0; sessions = []; senders = NoneYet; judged = judged }

next_of : List Judged → Judged
next_of judged = found_at (length judged) 0 (tick_verdict (state_of (idle judged)) 0)

entries_from : (config : Config) (judged : List Judged) (n : ℕ) → entries_of (fold (judge config) (idle judged) (ticks n)) ≡ map entry_in judged ++ tick_entries (length judged) n
unfolding idle next_of entry_in
entries_from config judged zero = sym (append-nil (map entry_in judged))
entries_from config judged (suc n) =
    let j : Judged = next_of judged in
    let more : length (judged ++ j ∷ []) ≡ length judged + 1 = length-append judged (j ∷ []) in
    entries_from config (judged ++ j ∷ []) n
    ∙ ap (λ (k : ℕ). map entry_in (judged ++ j ∷ []) ++ tick_entries k n) more
    ∙ ap (λ (l : List Entry). l ++ tick_entries (length judged + 1) n) (map-append entry_in judged (j ∷ []))
    ∙ append_assoc (map entry_in judged) (tick_at (length judged) ∷ []) (tick_entries (length judged + 1) n)

pub entries_are : (config : Config) (n : ℕ) → entries config (ticks n) ≡ tick_entries 0 n
unfolding idle
entries_are config n = entries_from config [] n

pub entries_add : (place m n : ℕ) → tick_entries place (m + n) ≡ tick_entries place m ++ tick_entries (place + m) n
entries_add place zero n = let e : place + 0 ≡ place = omega arith in let k : 0 + n ≡ n = omega arith in rw (e, k) refl
entries_add place (suc m) n =
    let e : place + suc m ≡ place + 1 + m = omega arith in
    let k : suc m + n ≡ suc (m + n) = omega arith in
    rw (e, k) (ap (λ (l : List Entry). tick_at place ∷ l) (entries_add (place + 1) m n))

pub ticks_continue : (config : Config) (m n : ℕ) (b : UnpublishedBatch) → 0 < n → b.batch.first ≡ m → b.batch.entries ≡ tick_entries m n → b.elements ≡ ticks n → Continues config (ticks m) b
ticks_continue config m n b some first es xs =
    let count = entries_count m n in
    let z : 0 + m ≡ m = omega arith in
    let split : tick_entries 0 (m + n) ≡ tick_entries 0 m ++ tick_entries m n = subst (λ (k : ℕ). tick_entries 0 (m + n) ≡ tick_entries 0 m ++ tick_entries k n) z (entries_add 0 m n) in
    record {
      first = first ∙ sym (ticks_length m);
      some = omega (arith, some, ap length es, count);
      entries = ap (λ (l : List Listed). entries config (ticks m ++ l)) xs
          ∙ ap (entries config) (ticks_add m n)
          ∙ entries_are config (m + n)
          ∙ split
          ∙ ap (λ (l : List Entry). l ++ tick_entries m n) (sym (entries_are config m))
          ∙ ap (λ (l : List Entry). entries config (ticks m) ++ l) (sym es);
    }
