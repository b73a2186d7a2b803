-- Closing or extending sessions commutes with taking only the live ones.
use Rattle.std.proofs.Common.{◌≡◌, ℕ, Bool, false, List, arith}
use Rattle.std.specs.Prelude.{max, if◌then◌else◌}
use Rattle.std.proofs.lemmas.Grind.{common_steps}
use Rattle.bx_entry.specs.Registry.{Registered, extended, closed, overdue_closed}
use Rattle.bx_roster.specs.Live.{live_in}
use Rattle.bx_roster.proofs.Lists.{filter-map-filter, filter-map, filter-filter}

abbrev is_live : Registered → Bool
is_live r = r.live

pub live_in-live : (sessions : List Registered) → live_in (live_in sessions) ≡ live_in sessions
live_in-live sessions = filter-filter is_live sessions

extended-same-by : (number due : ℕ) (r : Registered) (b : Bool) → is_live (if b then record r { due = max r.due due } else r) ≡ is_live r
extended-same-by number due r b = grind (arith, common_steps)

pub live_in-extended : (number due : ℕ) (sessions : List Registered) → live_in (extended number due sessions) ≡ extended number due (live_in sessions)
live_in-extended number due sessions = filter-map is_live _ (λ r. extended-same-by number due r _) sessions

closed-stays-by : (r : Registered) (b : Bool) → is_live r ≡ false → is_live (if b then record r { live = false } else r) ≡ false
closed-stays-by r b e = grind (arith, common_steps)

pub live_in-closed : (number : ℕ) (sessions : List Registered) → live_in (closed number (live_in sessions)) ≡ live_in (closed number sessions)
live_in-closed number sessions = filter-map-filter is_live _ (λ r e. closed-stays-by r _ e) sessions

pub live_in-overdue_closed : (moment : ℕ) (sessions : List Registered) → live_in (overdue_closed moment (live_in sessions)) ≡ live_in (overdue_closed moment sessions)
live_in-overdue_closed moment sessions = filter-map-filter is_live _ (λ r e. closed-stays-by r _ e) sessions
