-- The queue of one session, and its outstanding batch.
use Rattle.std.specs.Prelude.{ℕ, ◌+◌, ◌==◌, ◌&&◌, min, Bool, List, [], ◌∷◌, ◌++◌, length, take, drop, nat_lt, nat_le, if◌then◌else◌}
use Rattle.bx_message.specs.declared.event.Event.{Event}
use Rattle.bx_message.specs.Events.{event_size}

-- An event, with the place of its publish, so that two publishes of equal data differ.
pub record Publication : Type 0 where
  pub place : ℕ
  pub event : Event

-- The queue of a session, oldest event first. The first `out` events are the outstanding batch, and
-- the others wait. `number` is the number of the last batch.
pub record Window : Type 0 where
  pub queue : List Publication
  pub out : ℕ
  pub number : ℕ

-- No events, and no batch so far.
abbrev pub empty : Window
empty = record { queue = []; out = 0; number = 0 }

-- The size of the JSON texts of these events together, in bytes.
unfoldable pub bytes_of : List Publication → ℕ
bytes_of [] = 0
bytes_of (p ∷ ps) = event_size p.event + bytes_of ps

-- Whether the queue has room for event `e`, if it may have at most `events` events and `bytes`
-- bytes.
unfoldable pub has_room : ℕ → ℕ → Event → Window → Bool
has_room events bytes e w = nat_lt (length w.queue) events && nat_le (bytes_of w.queue + event_size e) bytes

-- `w` with event `e` appended to its queue.
abbrev pub with_event : Publication → Window → Window
with_event e w = record w { queue = w.queue ++ e ∷ [] }

-- The events of the outstanding batch, oldest first. There are none if no batch is outstanding.
abbrev pub outstanding : Window → List Publication
outstanding w = take w.out w.queue

-- `w` after its outstanding batch is acknowledged and dropped.
abbrev pub cleared : Window → Window
cleared w = record w { queue = drop w.out w.queue; out = 0 }

-- Whether a number acknowledges the outstanding batch: it is at least the number of the last batch.
abbrev pub acknowledges : ℕ → Window → Bool
acknowledges number w = nat_le w.number number

-- `w` without its outstanding batch, if `number` acknowledges that batch. Otherwise `w` is
-- unchanged.
abbrev pub acknowledged : ℕ → Window → Window
acknowledged number w = if acknowledges number w then cleared w else w

-- How many events are sent at once if no batch is outstanding: all of the queue, up to `most`.
abbrev pub portion : ℕ → Window → ℕ
portion most w = min most (length w.queue)

-- `w` with its first `count` events as the next batch, which is then outstanding.
abbrev pub with_batch : ℕ → Window → Window
with_batch count w = record w { out = count; number = w.number + 1 }

-- Whether the next batch can be formed: no batch is outstanding, and events wait. `most`: how many
-- events a batch may have.
abbrev pub forms : ℕ → Window → Bool
forms most w = (w.out == 0) && nat_lt 0 (portion most w)

-- `w` after the next batch is formed from up to `most` events. Unchanged if none can be formed.
abbrev pub formed : ℕ → Window → Window
formed most w = if forms most w then with_batch (portion most w) w else w

-- `w` after its first `count` events are sent without a batch and dropped.
abbrev pub forgotten : ℕ → Window → Window
forgotten count w = record w { queue = drop count w.queue }

-- `w` after all its events are dropped. The number of the last batch stays.
abbrev pub emptied : Window → Window
emptied w = record w { queue = []; out = 0 }
