-- How edits change the live sessions.
use Rattle.std.specs.Prelude.{ℕ, ◌≡◌, ◌+◌, ◌<◌, ◌^◌, Bool, true, false, if◌then◌else◌, List, [], ◌∷◌, ◌++◌, length, fold, IsSome}
use Rattle.bx_entry.specs.Registry.{Registered, extended, closed, overdue_closed}
use Rattle.bx_roster.specs.Live.{Members, with_live, live_in}
use Rattle.bx_roster.specs.Tables.{IsNamed, client_and_ack_of}
use Rattle.bx_roster.specs.declared.{edit.Edit.Edit, edit.Edits.Edits, edit.Edits.TheVariants.Each, edit.Edits.TheVariants.Expire}
use Rattle.bx_roster.specs.declared.edit.Edit.TheVariants.{Open, Extend, Close}

-- The sessions after one edit: one is opened, has its due moment extended, or is closed.
abbrev pub edited : Members → Edit → Members
edited ms (Open s) = record ms { opened = s.number; live = ms.live ++ s ∷ [] }
edited ms (Extend number due) = with_live ms (live_in (extended number due ms.live))
edited ms (Close number) = with_live ms (live_in (closed number ms.live))

-- The sessions after all edits of a change, or after an expiry that closes the overdue ones.
abbrev pub edited_by : Members → Edits → Members
edited_by ms (Each edits) = fold edited ms edits
edited_by ms (Expire moment) = with_live ms (live_in (overdue_closed moment ms.live))

-- The session `s`, marked as live, can be opened: there is room for it, and it has the next number.
-- The number fits in 64 bits, and the client id ends in its digits.
pub record IsNext (ms : Members) (s : Registered) : Type 0 where
  pub room : length ms.live < ms.limit
  pub number : s.number ≡ ms.opened + 1
  pub small : s.number < 2 ^ 64
  pub named : IsNamed s
  pub live : s.live ≡ true

-- The edit can be made: a session that it opens is the next one, and a session that it closes is
-- live. Extending is always possible.
abbrev pub CanEdit : Members → Edit → Type 0
CanEdit ms (Open s) = IsNext ms s
CanEdit ms (Extend number due) = Unit {0}
CanEdit ms (Close number) = IsSome (client_and_ack_of number ms.live)

-- These edits can be made, one after another.
abbrev pub CanEditEach : Members → List Edit → Type 0
CanEditEach ms [] = Unit {0}
CanEditEach ms (e ∷ es) = CanEdit ms e × CanEditEach (edited ms e) es

-- All edits of a change can be made, one after another. An expiry is always possible.
abbrev pub CanEditBy : Members → Edits → Type 0
CanEditBy ms (Each edits) = CanEditEach ms edits
CanEditBy ms (Expire moment) = Unit {0}

-- Whether an edit opens a session.
abbrev pub is_open : Edit → Bool
is_open (Open s) = true
is_open (Extend number due) = false
is_open (Close number) = false

-- How many sessions an edit opens.
abbrev pub opened_by : Edit → ℕ
opened_by (Open s) = 1
opened_by (Extend number due) = 0
opened_by (Close number) = 0

-- How many sessions these edits open.
abbrev pub opened_by_each : List Edit → ℕ
opened_by_each [] = 0
opened_by_each (e ∷ es) = opened_by e + opened_by_each es

-- How many sessions a change opens.
abbrev pub opens : Edits → ℕ
opens (Each edits) = opened_by_each edits
opens (Expire moment) = 0

-- How many sessions can be opened without allocating: one if a record is reserved (`ready`),
-- otherwise none.
abbrev pub room_of : Bool → ℕ
room_of ready = if ready then 1 else 0
