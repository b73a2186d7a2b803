-- The held connects of a round, and their answers.
use Rattle.std.specs.Prelude.{ℕ, ◌+◌, ◌==◌, ◌&&◌, ◌<◌, ◌≤◌, ◌≡◌, Bool, true, List, [], ◌∷◌, ◌++◌, filter, map, length, count_by, is_none, is_some, option_map, if◌then◌else◌, Option, Some, None, Ok}
use Rattle.std.specs.{List.AllByRecursion, List.Sorted.IsStrictlySortedBy, Map.keys_of, Ordering.nat_cmp}
use Rattle.bx_history.specs.Members.{has}
use Rattle.bx_fanout.specs.declared.{held_inputs.HeldInput.HeldInput, out.Out.Out}
use Rattle.bx_message.specs.declared.reply.{Answer.Answer, Item.Item}
use Rattle.bx_message.specs.declared.reply.Item.TheVariants.{EventItem, ReplyItem}

-- A held connect with its place.
abbrev pub Row : Type 0
Row = ℕ × HeldInput

abbrev pub is_answered : Row → Bool
is_answered row = is_some row.1.answer

abbrev pub waits : Row → Bool
waits row = is_none row.1.answer

-- All held connects in `rows` are before `place`.
abbrev pub AllBelow : ℕ → List Row → Type 0
AllBelow place rows = AllByRecursion (λ (row : Row). row.0 < place) rows

-- The last of `rows`, if any, has no answer.
abbrev pub LastWaits : List Row → Type 0
LastWaits rows = (earlier : List Row) (row : Row) → rows ≡ earlier ++ row ∷ [] → waits row ≡ true

-- ---- An answer arrives

-- Whether the held connect is at `place` and has no answer yet.
abbrev pub waits_there : ℕ → Row → Bool
waits_there place row = (row.0 == place) && waits row

-- The held connect with `answer` as its answer.
abbrev pub with_answer : Answer → Row → Row
with_answer answer row = (row.0, record row.1 { answer = Some answer })

-- The held connects, with `answer` assigned to the one that waits at `place`, if any.
abbrev pub answered_at : ℕ → Answer → List Row → List Row
answered_at place answer rows = map (λ (row : Row). if waits_there place row then with_answer answer row else row) rows

-- ---- Outs

-- The items that a client gets for an answer: its events, and then its reply.
abbrev pub items_of : Answer → List Item
items_of a = map EventItem a.events ++ ReplyItem a.reply ∷ []

abbrev pub items_by : Option Answer → List Item
items_by None = []
items_by (Some a) = items_of a

abbrev pub out_of : Row → Out
out_of row = record { input = row.1.number; result = Ok (items_by row.1.answer) }

-- The outs of the answered connects, in the order of `rows`.
abbrev pub outs_of : List Row → List Out
outs_of rows = map out_of (filter is_answered rows)

-- The out of a held connect, or `None` if there is no connect or it has no answer yet.
abbrev pub out_by : Option HeldInput → Option Out
out_by None = None
out_by (Some h) = option_map (λ (a : Answer). record { input = h.number; result = Ok (items_of a) }) h.answer

-- The number of items in a held connect's response, or 0 if there is no connect or it has no
-- answer.
abbrev pub room_by : Option HeldInput → ℕ
room_by None = 0
room_by (Some h) = elim h.answer [ None ↦ 0 | Some a ↦ length a.events + 1 ]

-- The number of each held connect's input, in the order of `rows`.
abbrev pub numbers : List Row → List ℕ
numbers rows = map (λ (row : Row). row.1.number) rows

-- Outs of the first answered connects of `old` were appended to `before`, resulting in `after`.
-- `new` has the other answered connects. The waiting connects are unchanged.
pub record Gives (old : List Row) (before after : List Out) (new : List Row) : Type 0 where
  pub more : List Out
  pub behind : after ≡ before ++ more
  pub given : outs_of old ≡ more ++ outs_of new
  pub others : filter waits new ≡ filter waits old

-- ---- The places of the answered connects

-- The places of the answered connects, in the order of the rows.
abbrev pub answered_places : List Row → List ℕ
answered_places rows = map (λ (row : Row). row.0) (filter is_answered rows)

-- The places of `rows` ascend. `answered` has the places of the answered connects, in any order.
-- Its `capacity` is enough for the places of the waiting connects too.
pub record IsMarked (rows : List Row) (answered : List ℕ) (capacity : ℕ) : Type 0 where
  pub ordered : IsStrictlySortedBy nat_cmp (keys_of rows)
  pub marked : (n : ℕ) → has n answered ≡ has n (answered_places rows)
  pub room : length answered + count_by waits rows ≤ capacity
