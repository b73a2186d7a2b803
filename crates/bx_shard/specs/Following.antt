-- How one entry changes the sessions of a shard and their connects.
use Rattle.std.specs.Prelude.{ℕ, ◌≡◌, Bool, [], take, is_some, if◌then◌else◌, Option, Some, None}
use Rattle.std.specs.Option.{option_and_then}
use Rattle.bx_advice.specs.declared.config.Config.{Config}
use Rattle.bx_message.specs.declared.reply.Answer.{Answer}
use Rattle.bx_entry.specs.Words.{events_of, Kept, after, resumed, forgotten, ride_portion, rider_of}
use Rattle.bx_entry.specs.declared.entry.{Rider.Rider, Entry.Entry}
use Rattle.bx_connects.specs.declared.connects.ConnectState.{ConnectState}
use Rattle.bx_connects.specs.Connects.{completed, connect_at}
use Rattle.bx_shard.specs.declared.sessions.Sessions.{Sessions}
use Rattle.bx_shard.specs.Sessions.{AreCounted, AreHeld, kept_in}
use Rattle.bx_shard.specs.States.{Files, IsGiven, KeepsSessions, begun, session_after}

-- ---- Riders

-- The entry without its rider.
abbrev pub alone : Entry → Entry
alone e = record e { rides = None }

-- The entry's rider, if any.
abbrev pub rides_of : Entry → Option Rider
rides_of e = rider_of e.kind e.rides

-- The entry's rider, if its session is in the shard.
abbrev pub rider_in : (ℕ → Option Kept) → Entry → Option Rider
rider_in sessions e = option_and_then (λ (r : Rider). if is_some (sessions r.session) then Some r else None) (rides_of e)

-- The answer to a rider, still without events.
abbrev pub unridden : Rider → Answer
unridden rider = record { events = []; reply = rider.reply }

-- A session after its waiting events, at most one batch, moved into the answer to its rider. No
-- events move if the session acknowledges.
abbrev pub given_up : Config → Kept → Kept
given_up config k = after (forgotten (ride_portion config (resumed k))) k

-- The state of a rider after its filed answer got its session's waiting events: at most one batch,
-- and no events if the session acknowledges. The state is unchanged if the session is not in the
-- shard.
abbrev pub completed_by : Config → Option Kept → Option ConnectState → Option ConnectState
completed_by config None state = state
completed_by config (Some k) state = completed (events_of (take (ride_portion config (resumed k)) k.queue)) state

-- ---- Entries

-- `new` is the sessions and connects of a shard after entry `e` is applied to `old`. `belongs`:
-- whether a session that `e` opens is placed in the shard. In `new`, the tree has exactly the
-- patterns of the sessions, which are live. A connect is held if and only if its session holds it.
pub record Followed (belongs : Bool) (e : Entry) (old new : Sessions) : Type 0 where
  pub config : new.config ≡ old.config
  pub sessions : (n : ℕ) → kept_in new n ≡ session_after old.config belongs e n (kept_in old n)
  pub connects : Files e.place (IsGiven old.config (kept_in old) e) (begun (kept_in old) (connect_at old.connects) e e.kind) (connect_at new.connects)
  pub known : KeepsSessions (kept_in old) e (connect_at old.connects) (connect_at new.connects)
  pub counted : AreCounted new
  pub held : AreHeld new
