-- The sessions of a map in ascending order of number, and changes under one number.
use Rattle.std.proofs.Common.{◌≡◌, ◌≢◌, ℕ, zero, suc, ◌+◌, ◌<◌, ◌≤◌, true, false, List, [], ◌∷◌, ◌++◌, length, length-append, Option, Some, None, option_map, is_some, refl, sym, ap, ap₂, ◌∙◌, arith, eq-eqb, ne_eqb, append-nil, true≢false}
use Rattle.std.specs.Prelude.{◌==◌, ◌⊎◌, max, if◌then◌else◌}
use Rattle.std.proofs.lemmas.{Bool.Decides.eqb_tells, List.map-append, List.Elements.filter-append, Grind.common_steps}
use Rattle.bx_entry.specs.Registry.{Registered, extended, closed}
use Rattle.bx_roster.specs.Words.{live_in, IsTable, IsAbsent, AllLive, known_of, client_and_ack_of, due_at, Record, session_of, with_one, sessions_to, Stands}
use Rattle.bx_roster.proofs.Tables.{IsTable-push, live_in-all, map-absent}

-- ---- Lists

IsTable-higher : (low high high' : ℕ) (rs : List Registered) → high ≤ high' → IsTable low high rs → IsTable low high' rs
IsTable-higher low high high' [] le t = omega (arith, t)
IsTable-higher low high high' (r ∷ rs) le t = (t.0, t.1, IsTable-higher r.number high high' rs le t.2)

pub IsTable-above : (low high n : ℕ) (rs : List Registered) → high < n → IsTable low high rs → IsAbsent n rs
IsTable-above low high n [] lt t = tt
IsTable-above low high n (r ∷ rs) lt t =
    let below : r.number ≤ high = bound r.number high rs t.2 in
    let ne : r.number ≢ n = omega arith in
    (ne, IsTable-above r.number high n rs lt t.2)
  where
    bound : (low high : ℕ) (rs : List Registered) → IsTable low high rs → low ≤ high
    bound low high [] t = t
    bound low high (r ∷ rs) t = omega (arith, bound r.number high rs t.2, t.0)

pub AllLive-push : (rs : List Registered) (s : Registered) → AllLive rs → s.live ≡ true → AllLive (rs ++ s ∷ [])
AllLive-push [] s a l = (l, tt)
AllLive-push (r ∷ rs) s a l = (a.0, AllLive-push rs s a.1 l)

-- ---- The session under a number

module _ {A : Type 0} (pick : Registered → A) (n : ℕ) where
  abbrev pub found : List Registered → Option A
  found [] = None
  found (r ∷ rs) = if r.number == n then Some (pick r) else found rs

  pub found-absent : (rs : List Registered) → IsAbsent n rs → found rs ≡ None
  found-absent [] a = refl
  found-absent (r ∷ rs) a = rw (ne_eqb r.number n a.0) (found-absent rs a.1)

  found-here : (rs : List Registered) (s : Registered) → IsAbsent n rs → s.number ≡ n → found (rs ++ s ∷ []) ≡ Some (pick s)
  found-here [] s a e = rw (eq-eqb s.number n e) refl
  found-here (r ∷ rs) s a e = rw (ne_eqb r.number n a.0) (found-here rs s a.1 e)

  found-past : (rs : List Registered) (s : Registered) → s.number ≢ n → found (rs ++ s ∷ []) ≡ found rs
  found-past [] s ne = rw (ne_eqb s.number n ne) refl
  found-past (r ∷ rs) s ne = ap (λ o. if r.number == n then Some (pick r) else o) (found-past rs s ne)

pub client_and_ack_of-found : (n : ℕ) (rs : List Registered) → client_and_ack_of n rs ≡ found known_of n rs
client_and_ack_of-found n [] = refl
client_and_ack_of-found n (r ∷ rs) = ap (λ o. if r.number == n then Some (known_of r) else o) (client_and_ack_of-found n rs)

pub due_at-found : (n : ℕ) (rs : List Registered) → due_at n rs ≡ found (λ r. r.due) n rs
due_at-found n [] = refl
due_at-found n (r ∷ rs) = ap (λ o. if r.number == n then Some r.due else o) (due_at-found n rs)

-- ---- The sessions of a map

pub same_to : (f g : ℕ → Record) (k : ℕ) → ((n : ℕ) → n ≤ k → f n ≡ g n) → sessions_to f k ≡ sessions_to g k
unfolding sessions_to
same_to f g zero h = refl
same_to f g (suc k) h = ap₂ (λ rs o. with_one rs (session_of o)) (same_to f g k (λ n le. h n (omega (arith, le)))) (h (suc k) (omega arith))

module _ (at : ℕ → Record) (stand : (n : ℕ) (r : Registered) → at n ≡ Some (Some r) → Stands n r) where
  pub table-to : (k : ℕ) → IsTable 0 k (sessions_to at k)
  unfolding sessions_to
  table-to zero = omega arith
  table-to (suc k) = grind (arith, common_steps, IsTable-higher 0 k (suc k) (sessions_to at k), IsTable-push 0 k (sessions_to at k), stand (suc k), table-to k)

  live-one : (k : ℕ) (rs : List Registered) (o : Record) → at (suc k) ≡ o → AllLive rs → AllLive (with_one rs (session_of o))
  live-one k rs (Some (Some r)) e a = AllLive-push rs r a (stand (suc k) r e).live
  live-one k rs _ e a = a

  pub live-to : (k : ℕ) → AllLive (sessions_to at k)
  unfolding sessions_to
  live-to zero = tt
  live-to (suc k) = live-one k (sessions_to at k) (at (suc k)) refl (live-to k)

  module _ {A : Type 0} (pick : Registered → A) (n : ℕ) where
    none-below : (o : Record) → at n ≡ o → n ≤ 0 → None ≡ option_map pick (session_of o)
    none-below (Some (Some r)) e le = absurd (omega (arith, le, (stand n r e).above))
    none-below _ e le = refl

    found-at : (rs : List Registered) (o : Record) → at n ≡ o → IsAbsent n rs → found pick n (with_one rs (session_of o)) ≡ option_map pick (session_of o)
    found-at rs (Some (Some r)) e a = found-here pick n rs r a (stand n r e).number
    found-at rs _ e a = found-absent pick n rs a

    found-beside : (k : ℕ) (rs : List Registered) (o : Record) → at (suc k) ≡ o → n ≤ k → found pick n (with_one rs (session_of o)) ≡ found pick n rs
    found-beside k rs (Some (Some r)) e le = let ne : r.number ≢ n = omega (arith, (stand (suc k) r e).number) in found-past pick n rs r ne
    found-beside k rs _ e le = refl

    pub found-to : (k : ℕ) → n ≤ k → found pick n (sessions_to at k) ≡ option_map pick (session_of (at n))
    unfolding sessions_to
    found-to zero le = none-below (at n) refl le
    found-to (suc k) le = grind (arith, common_steps, found-to k, found-at (sessions_to at k) (at n) refl, IsTable-above 0 k n (sessions_to at k), table-to k, found-beside k (sessions_to at k) (at (suc k)) refl)

-- ---- A session is closed

module _ (n : ℕ) where
  abbrev close_one : Registered → Registered
  close_one r = if r.number == n then record r { live = false } else r

  closed-push : (rs : List Registered) (r : Registered) → live_in (closed n (rs ++ r ∷ [])) ≡ live_in (closed n rs) ++ live_in (closed n (r ∷ []))
  closed-push rs r = ap live_in (map-append close_one rs (r ∷ [])) ∙ filter-append (λ (s : Registered). s.live) (closed n rs) (closed n (r ∷ []))

  closed-here : (rs : List Registered) (r : Registered) → r.number ≡ n → live_in (closed n (rs ++ r ∷ [])) ≡ live_in (closed n rs)
  closed-here rs r e = closed-push rs r ∙ rw (eq-eqb r.number n e) (append-nil (live_in (closed n rs)))

  closed-there : (rs : List Registered) (r : Registered) → r.number ≢ n → r.live ≡ true → live_in (closed n (rs ++ r ∷ [])) ≡ live_in (closed n rs) ++ r ∷ []
  closed-there rs r ne l = closed-push rs r ∙ rw (ne_eqb r.number n ne, l) refl

  module _ (at new : ℕ → Record) (stand : (n : ℕ) (r : Registered) → at n ≡ Some (Some r) → Stands n r)
      (gone : new n ≡ None) (others : (q : ℕ) → q ≢ n → new q ≡ at q) where
    closed-at : (rs : List Registered) (o : Record) → at n ≡ o → live_in (closed n rs) ≡ live_in (closed n (with_one rs (session_of o)))
    closed-at rs (Some (Some r)) e = sym (closed-here rs r (stand n r e).number)
    closed-at rs _ e = refl

    closed-beside : (q : ℕ) (rs : List Registered) (o : Record) → q ≢ n → at q ≡ o → with_one (live_in (closed n rs)) (session_of o) ≡ live_in (closed n (with_one rs (session_of o)))
    closed-beside q rs (Some (Some r)) ne e = let s = stand q r e in let other : r.number ≢ n = (λ same. ne (sym s.number ∙ same)) in sym (closed-there rs r other s.live)
    closed-beside q rs _ ne e = refl

    pub closed-to : (k : ℕ) → sessions_to new k ≡ live_in (closed n (sessions_to at k))
    unfolding sessions_to
    closed-to zero = refl
    closed-to (suc k) = grind (arith, common_steps, closed-to k, gone, others (suc k), closed-at (sessions_to at k) (at n) refl, closed-beside (suc k) (sessions_to at k) (at (suc k)))

    length-one : (rs ss : List Registered) (o : Record) → length rs + 1 ≡ length ss → length (with_one rs (session_of o)) + 1 ≡ length (with_one ss (session_of o))
    length-one rs ss o e = grind (arith, common_steps, length-append)

    pub length-closed : (r : Registered) → at n ≡ Some (Some r) → (k : ℕ) → n ≤ k → length (sessions_to new k) + 1 ≡ length (sessions_to at k)
    unfolding sessions_to
    length-closed r there zero le = absurd (omega (arith, le, (stand n r there).above))
    length-closed r there (suc k) le = by (λ h. length-closed r there k h) (eqb_tells (suc k) n)
      where
        by : (n ≤ k → length (sessions_to new k) + 1 ≡ length (sessions_to at k)) → ((suc k == n) ≡ true) × (suc k ≡ n) ⊎ ((suc k == n) ≡ false) × (suc k ≢ n) → length (with_one (sessions_to new k) (session_of (new (suc k)))) + 1 ≡ length (with_one (sessions_to at k) (session_of (at (suc k))))
        by h1 h2 = grind (arith, common_steps, same_to, length-append, length-one)

-- ---- A due moment is extended

module _ (n due : ℕ) (at new : ℕ → Record) (stand : (n : ℕ) (r : Registered) → at n ≡ Some (Some r) → Stands n r) (x : Registered) (there : at n ≡ Some (Some x))
    (moved : new n ≡ Some (Some (record x { due = max x.due due }))) (others : (q : ℕ) → q ≢ n → new q ≡ at q) where
  extended-one : (rs : List Registered) (r y : Registered) → (if r.number == n then record r { due = max r.due due } else r) ≡ y → extended n due (rs ++ r ∷ []) ≡ extended n due rs ++ y ∷ []
  extended-one rs r y e = map-append (λ (r : Registered). if r.number == n then record r { due = max r.due due } else r) rs (r ∷ []) ∙ ap (λ (s : Registered). extended n due rs ++ s ∷ []) e

  extended-beside : (q : ℕ) (rs : List Registered) (o : Record) → q ≢ n → at q ≡ o → with_one (extended n due rs) (session_of o) ≡ extended n due (with_one rs (session_of o))
  extended-beside q rs (Some (Some r)) ne e =
      let s = stand q r e in let other : r.number ≢ n = (λ same. ne (sym s.number ∙ same)) in sym (extended-one rs r r (rw (ne_eqb r.number n other) refl))
  extended-beside q rs _ ne e = refl

  pub extended-to : (k : ℕ) → sessions_to new k ≡ extended n due (sessions_to at k)
  unfolding sessions_to
  extended-to zero = refl
  extended-to (suc k) = grind (arith, common_steps, extended-to k, moved, there, others (suc k), extended-one (sessions_to at k) x, (stand n x there).number, extended-beside (suc k) (sessions_to at k) (at (suc k)))

-- ---- A number without a session

IsAbsent-push : (n : ℕ) (rs : List Registered) (r : Registered) → IsAbsent n rs → r.number ≢ n → IsAbsent n (rs ++ r ∷ [])
IsAbsent-push n [] r a ne = (ne, tt)
IsAbsent-push n (x ∷ rs) r a ne = (a.0, IsAbsent-push n rs r a.1 ne)

module _ (at : ℕ → Record) (stand : (n : ℕ) (r : Registered) → at n ≡ Some (Some r) → Stands n r) (n : ℕ) (none : session_of (at n) ≡ None) where
  absent-one : (q : ℕ) (rs : List Registered) (o : Record) → at q ≡ o → IsAbsent n rs → IsAbsent n (with_one rs (session_of o))
  absent-one q rs None e a = a
  absent-one q rs (Some None) e a = a
  absent-one q rs (Some (Some r)) e a =
      let other : r.number ≢ n = (λ same. some-none r (sym none ∙ ap (λ m. session_of (at m)) (sym same ∙ (stand q r e).number) ∙ ap session_of e)) in IsAbsent-push n rs r a other
    where
      some-none : (r : Registered) → None ≡ Some r → ⊥
      some-none r e = true≢false (sym (ap is_some e))

  pub absent-to : (k : ℕ) → IsAbsent n (sessions_to at k)
  unfolding sessions_to
  absent-to zero = tt
  absent-to (suc k) = absent-one (suc k) (sessions_to at k) (at (suc k)) refl (absent-to k)

  pub closed-none : (k : ℕ) → sessions_to at k ≡ live_in (closed n (sessions_to at k))
  closed-none k = sym (live_in-all (sessions_to at k) (live-to at stand k)) ∙ ap live_in (sym (map-absent n (λ r. record r { live = false }) (sessions_to at k) (absent-to k)))

  pub extended-none : (due k : ℕ) → sessions_to at k ≡ live_in (extended n due (sessions_to at k))
  extended-none due k = sym (live_in-all (sessions_to at k) (live-to at stand k)) ∙ ap live_in (sym (map-absent n (λ r. record r { due = max r.due due }) (sessions_to at k) (absent-to k)))
