-- The live sessions, with their limit and the number of all that were opened.
use Rattle.std.specs.Prelude.{ℕ, Bool, List, filter}
use Rattle.bx_entry.specs.Registry.{Registered}

-- How many sessions may be live, how many were ever opened, and the live ones.
pub record Members : Type 0 where
  pub limit : ℕ
  pub opened : ℕ
  pub live : List Registered

-- The sessions of a list that are live, in the same order.
abbrev pub live_in : List Registered → List Registered
live_in sessions = filter (λ (r : Registered). r.live) sessions

-- `ms` with these live sessions, and with the same limit and number of opened sessions.
abbrev pub with_live : Members → List Registered → Members
with_live ms live = record ms { live = live }

-- A table as contracts see it: the sessions, and whether a record is reserved for the next one.
pub record Prepared : Type 0 where
  pub members : Members
  pub ready : Bool
