-- A map of records by session number, as a list of sessions.
use Rattle.std.specs.Prelude.{ℕ, zero, suc, ◌≡◌, ◌+◌, ◌^◌, ◌<◌, ◌≤◌, true, List, [], ◌∷◌, ◌++◌, length, Option, Some, None, is_some, max, if◌then◌else◌}
use Rattle.bx_entry.specs.Registry.{Registered}
use Rattle.bx_roster.specs.Tables.{IsNamed}

-- What is stored under a number, if anything: a session or a vacant record.
abbrev pub Record : Type 0
Record = Option (Option Registered)

-- The session of a record, if any.
abbrev pub session_of : Option (Option Registered) → Option Registered
session_of None = None
session_of (Some record_there) = record_there

-- The sessions `rs`, followed by one more session, if there is one.
abbrev pub with_one : List Registered → Option Registered → List Registered
with_one rs None = rs
with_one rs (Some r) = rs ++ r ∷ []

-- The sessions with numbers from 1 to `n` in the map `at`, in ascending order.
unfoldable pub sessions_to : (ℕ → Record) → ℕ → List Registered
sessions_to at zero = []
sessions_to at (suc n) = with_one (sessions_to at n) (session_of (at (suc n)))

-- Session `r`, which is stored under number `n`, is live. Its number is `n`, also in its client id,
-- and is at least 1.
pub record Stands (n : ℕ) (r : Registered) : Type 0 where
  pub number : r.number ≡ n
  pub above : 0 < n
  pub named : IsNamed r
  pub live : r.live ≡ true

-- The session with its due moment moved to `due`, but never back.
abbrev pub later : ℕ → Registered → Registered
later due r = record r { due = max r.due due }

-- How many records there are under a number: 1 or 0.
abbrev pub vacant_count : Record → ℕ
vacant_count o = if is_some o then 1 else 0

-- The map `at` has a record for each of the `count` live sessions, which are at most `limit`. It
-- may have one other record, a vacant one, under the number `opened + 1`. The live sessions have
-- numbers from 1 to `opened`, under which they are stored. `records`: how many records the map has.
pub record IsKept (at : ℕ → Record) (records limit count opened : ℕ) : Type 0 where
  pub fits : count ≤ limit
  pub small : limit < 2 ^ 64
  pub counted : count ≡ length (sessions_to at opened)
  pub sized : records ≡ count + vacant_count (at (opened + 1))
  pub next : session_of (at (opened + 1)) ≡ None
  pub beyond : (n : ℕ) → opened + 1 < n → at n ≡ None
  pub vacant : (n : ℕ) → at n ≡ Some None → n ≡ opened + 1
  pub stand : (n : ℕ) (r : Registered) → at n ≡ Some (Some r) → Stands n r

-- ---- A walk over the map

-- The sessions in these records.
abbrev pub sessions_in : List (Option Registered) → List Registered
sessions_in [] = []
sessions_in (None ∷ records) = sessions_in records
sessions_in (Some r ∷ records) = r ∷ sessions_in records
