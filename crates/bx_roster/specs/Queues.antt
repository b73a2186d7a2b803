-- The queue of due moments, with an entry for each live session at its due moment or before.
use Rattle.std.specs.Prelude.{ℕ, ◌≡◌, ◌+◌, ◌<◌, ◌≤◌, ◌==◌, ◌&&◌, nat_le, nat_lt, Bool, true, false, List, [], ◌∷◌, ◌++◌, All, length, map, filter, Option, Some, None}
use Rattle.std.specs.{List.list_any, BinaryHeap.IsHeap, Ordering.nat_cmp, Ordering.ordering_then}
use Rattle.std.specs.declared.cmp.Ordering.{Ordering}
use Rattle.bx_entry.specs.Registry.{Registered}
use Rattle.bx_roster.specs.Live.{Members}
use Rattle.bx_roster.specs.Tables.{AllLive, IsTable, due_at}
use Rattle.bx_roster.specs.declared.due_queue.Due.{Due}

-- A queue of due moments, with room for `room` entries. A tick moves the entries before its moment
-- from `waiting` to `late`.
pub record Queue : Type 0 where
  pub room : ℕ
  pub late : List Due
  pub waiting : List Due

-- All entries of a queue, the late ones first.
abbrev pub entries : Queue → List Due
entries q = q.late ++ q.waiting

-- The order of entries: the one with the earlier moment is greater. Between equal moments, the
-- session's number decides.
abbrev pub due_order : Due → Due → Ordering
due_order x y = ordering_then (nat_cmp y.moment.0 x.moment.0) (nat_cmp x.number y.number)

-- No entry is earlier than `moment`.
abbrev pub IsFrom : ℕ → List Due → Type 0
IsFrom moment dues = All (λ (d : Due). moment ≤ d.moment.0) dues

-- The list `after` is `before`, followed by entries that are earlier than `moment`.
abbrev pub IsLateBy : ℕ → List Due → List Due → Type 0
IsLateBy moment before after = (moved : List Due) × (after ≡ before ++ moved) × All (λ (d : Due). d.moment.0 < moment) moved

-- Whether entry `d` is for session `r`, at the due moment of the session or before.
abbrev pub files : Registered → Due → Bool
files r d = (d.number == r.number) && nat_le d.moment.0 r.due

-- Each session has an entry at its due moment or before.
abbrev pub AllFiled : List Due → List Registered → Type 0
AllFiled dues [] = Unit {0}
AllFiled dues (r ∷ rs) = (list_any (files r) dues ≡ true) × AllFiled dues rs

-- The waiting entries form a heap. The heap and the list of late entries each have memory for
-- `room` entries, and there are at most `room` entries in all.
pub record IsQueue (waiting late : List Due) (waiting_room late_room room : ℕ) : Type 0 where
  pub heap : IsHeap due_order waiting
  pub fits : length late + length waiting ≤ room
  pub waiting_fits : room ≤ waiting_room
  pub late_fits : room ≤ late_room

-- The sessions are live, in ascending order of number, with numbers from 1 to `opened`. Each client
-- id ends in the digits of its session's number.
pub record IsRoster (ms : Members) : Type 0 where
  pub table : IsTable 0 ms.opened ms.live
  pub all : AllLive ms.live

-- `IsRoster` holds for the sessions `ms`: they are live and in ascending order. Each has an entry
-- in the queue at its due moment or before. The queue has room for the greatest number of live
-- sessions.
pub record IsQueued (ms : Members) (q : Queue) : Type 0 where
  pub roster : IsRoster ms
  pub filed : AllFiled (entries q) ms.live
  pub room : ms.limit ≤ q.room

-- Whether there is a due moment and it is before `moment`.
abbrev pub is_past : ℕ → Option ℕ → Bool
is_past moment None = false
is_past moment (Some due) = nat_lt due moment

-- The numbers in `dues` of sessions that are live and were due before `moment`. Each number occurs
-- as often as it has entries.
abbrev pub past_numbers : ℕ → List Registered → List Due → List ℕ
past_numbers moment live dues = filter (λ n. is_past moment (due_at n live)) (map (λ (d : Due). d.number) dues)
