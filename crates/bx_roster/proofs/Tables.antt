-- Tables of sessions, and changes of one session.
use Rattle.std.proofs.Common.{◌≡◌, ◌≢◌, ℕ, ◌<◌, ◌≤◌, Bool, false, List, [], ◌∷◌, ◌++◌, map, refl, ap, ◌∙◌, cond, arith, ne_eqb}
use Rattle.std.specs.Prelude.{◌==◌, max, if◌then◌else◌}
use Rattle.std.specs.List.{filter}
use Rattle.std.proofs.lemmas.Grind.{common_steps}
use Rattle.bx_entry.specs.Registry.{Registered}
use Rattle.bx_roster.specs.Words.{live_in, IsNamed, IsTable, IsAbsent, AllLive}

-- ---- Tables

pub IsTable-bounds : (low high : ℕ) (rs : List Registered) → IsTable low high rs → low ≤ high
IsTable-bounds low high [] t = t
IsTable-bounds low high (r ∷ rs) t = omega (arith, IsTable-bounds r.number high rs t.2, t.0)

pub IsTable-lower : (low low' high : ℕ) (rs : List Registered) → low' ≤ low → IsTable low high rs → IsTable low' high rs
IsTable-lower low low' high [] le t = omega (arith, t)
IsTable-lower low low' high (r ∷ rs) le t = (omega (arith, t.0), t.1, t.2)

pub IsTable-absent : (low high n : ℕ) (rs : List Registered) → n ≤ low → IsTable low high rs → IsAbsent n rs
IsTable-absent low high n [] le t = tt
IsTable-absent low high n (r ∷ rs) le t =
    let below : n < r.number = omega (arith, t.0) in
    let ne : r.number ≢ n = omega arith in
    (ne, IsTable-absent r.number high n rs (omega arith) t.2)

pub IsTable-filter : (low high : ℕ) (p : Registered → Bool) (rs : List Registered) → IsTable low high rs → IsTable low high (filter p rs)
IsTable-filter low high p [] t = t
IsTable-filter low high p (r ∷ rs) t = grind (arith, common_steps, IsTable-filter r.number high p rs t.2, IsTable-lower r.number low high (filter p rs))

pub IsTable-map : (low high : ℕ) (g : Registered → Registered) (rs : List Registered) → ((r : Registered) → (g r).number ≡ r.number) → ((r : Registered) → (g r).client ≡ r.client) →
    IsTable low high rs → IsTable low high (map g rs)
IsTable-map low high g [] number client t = t
IsTable-map low high g (r ∷ rs) number client t = grind (arith, common_steps, IsTable-map r.number high g rs number client t.2)

pub IsTable-push : (low high : ℕ) (rs : List Registered) (s : Registered) → high < s.number → IsNamed s → IsTable low high rs → IsTable low s.number (rs ++ s ∷ [])
IsTable-push low high [] s above named t = (omega (arith, t), named, omega arith)
IsTable-push low high (r ∷ rs) s above named t = (t.0, t.1, IsTable-push r.number high rs s above named t.2)

-- ---- One session by its number

module _ (n : ℕ) (f : Registered → Registered) where
  abbrev pub changing : Registered → Registered
  changing r = if r.number == n then f r else r

  pub map-absent : (rs : List Registered) → IsAbsent n rs → map changing rs ≡ rs
  map-absent [] a = refl
  map-absent (r ∷ rs) a = rw (ne_eqb r.number n a.0) (ap (λ (ys : List Registered). r ∷ ys) (map-absent rs a.1))

-- ---- The live sessions

pub AllLive-live : (rs : List Registered) → AllLive (live_in rs)
AllLive-live [] = tt
AllLive-live (r ∷ rs) = grind (arith, common_steps, AllLive-live rs)

pub live_in-all : (rs : List Registered) → AllLive rs → live_in rs ≡ rs
live_in-all [] all = refl
live_in-all (r ∷ rs) all = ap (λ (b : Bool). cond b (r ∷ live_in rs) (live_in rs)) all.0 ∙ ap (λ (ys : List Registered). r ∷ ys) (live_in-all rs all.1)

-- ---- A due moment is extended

pub changed-due : (n due : ℕ) (r : Registered) (b : Bool) → r.due ≤ (if b then record r { due = max r.due due } else r).due
changed-due n due r b = grind (arith, common_steps)

pub changed-number : (due : ℕ) (r : Registered) (b : Bool) → (if b then record r { due = max r.due due } else r).number ≡ r.number
changed-number due r b = grind (arith, common_steps)

pub changed-client : (due : ℕ) (r : Registered) (b : Bool) → (if b then record r { due = max r.due due } else r).client ≡ r.client
changed-client due r b = grind (arith, common_steps)

-- ---- A session is closed

pub closing-due : (r : Registered) (b : Bool) → r.due ≤ (if b then record r { live = false } else r).due
closing-due r b = grind (arith, common_steps)

pub closing-number : (r : Registered) (b : Bool) → (if b then record r { live = false } else r).number ≡ r.number
closing-number r b = grind (arith, common_steps)

pub closing-client : (r : Registered) (b : Bool) → (if b then record r { live = false } else r).client ≡ r.client
closing-client r b = grind (arith, common_steps)
