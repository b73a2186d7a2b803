-- The connects of a shard: held, with a waker or without, or answered and not taken yet.
use Rattle.std.specs.Prelude.{ℕ, ◌≡◌, ◌≤◌, nat_eq, nat_lt, not, Bool, true, false, List, filter, length, if◌then◌else◌, Option, Some, None}
use Rattle.std.specs.Map.{lookup}
use Rattle.futures.specs.declared.task.waker.Waker.{Waker}
use Rattle.bx_message.specs.declared.{event.Event.Event, reply.Answer.Answer}
use Rattle.bx_session.specs.declared.answered.Answered.{Answered}
use Rattle.bx_connects.specs.declared.{connects.ConnectState.ConnectState, connects.FiledAnswer.FiledAnswer, held.HeldConnect.HeldConnect, watch.Watch.Watch}
use Rattle.bx_connects.specs.declared.connects.ConnectState.TheVariants.{Held, Filed}
use Rattle.bx_connects.specs.declared.watch.Watch.TheVariants.{Stored, Ready, Unknown, Shut}

-- The connects of a shard: the held connects (`held`) and the filed answers (`filed`), each with
-- the place of its connect or rider.
pub record KnownConnects : Type 0 where
  pub held : List (ℕ × HeldConnect)
  pub filed : List (ℕ × FiledAnswer)

-- The connect that is held at `place`, if any.
abbrev pub hold_at : List (ℕ × HeldConnect) → ℕ → Option HeldConnect
hold_at held place = lookup (nat_eq place) held

-- The answer that is filed for the connect or rider at `place`, if any.
abbrev pub filing_at : List (ℕ × FiledAnswer) → ℕ → Option FiledAnswer
filing_at filed place = lookup (nat_eq place) filed

-- The state of a connect: held, or answered if it is not held. `None` if it is neither.
abbrev pub state_by : Option HeldConnect → Option FiledAnswer → Option ConnectState
state_by (Some h) filed = Some (Held h.session h.deadline h.waker)
state_by None (Some f) = Some (Filed f.session f.place f.answer)
state_by None None = None

-- The state of the connect at `place`, if it is known.
abbrev pub connect_at : KnownConnects → ℕ → Option ConnectState
connect_at connects place = state_by (hold_at connects.held place) (filing_at connects.filed place)

-- Whether a connect is held and its answer is filed.
abbrev pub is_both : Option HeldConnect → Option FiledAnswer → Bool
is_both (Some h) (Some f) = true
is_both _ _ = false

-- No connect is held while its answer is filed.
abbrev pub AreApart : List (ℕ × HeldConnect) → List (ℕ × FiledAnswer) → Type 0
AreApart held filed = (place : ℕ) → is_both (hold_at held place) (filing_at filed place) ≡ false

-- A hold by `session` until `deadline`, without a waker.
abbrev pub held_for : ℕ → Option ℕ → Option HeldConnect
held_for session deadline = Some (record { session = session; deadline = deadline; waker = None })

-- The result of registering a waker with a connect: `Unknown` if it is not held, `Shut` if the
-- shard is shut, otherwise `Stored` with the waker that is replaced, if any.
abbrev pub watched_hold : Bool → Waker → Option HeldConnect → Watch
watched_hold shut waker None = Unknown waker
watched_hold true waker (Some h) = Shut waker
watched_hold false waker (Some h) = Stored h.waker

-- A held connect after a waker was registered; it stores the waker unless the shard is shut.
abbrev pub stored_at : Bool → Waker → HeldConnect → HeldConnect
stored_at true waker h = h
stored_at false waker h = record h { waker = Some waker }

-- A held connect without its waker.
abbrev pub unwatched_hold : HeldConnect → HeldConnect
unwatched_hold h = record h { waker = None }

-- The session and the deadline of a held connect.
abbrev pub hold_of : HeldConnect → ℕ × Option ℕ
hold_of h = (h.session, h.deadline)

-- The state of a connect that `session` holds until `deadline`, without a waker.
abbrev pub held_by : ℕ → Option ℕ → Option ConnectState
held_by session deadline = Some (Held session deadline None)

-- The session of a connect, if it is known.
abbrev pub session_at : Option ConnectState → Option ℕ
session_at None = None
session_at (Some (Held session deadline waker)) = Some session
session_at (Some (Filed session place answer)) = Some session

-- The session and the deadline of a connect, if it is known. An answered connect has no deadline.
abbrev pub known_as : Option ConnectState → Option (ℕ × Option ℕ)
known_as None = None
known_as (Some (Held session deadline waker)) = Some (session, deadline)
known_as (Some (Filed session place answer)) = Some (session, None)

-- A connect after the entry at `place` gave `answer` to it. An unknown connect stays unknown.
abbrev pub filed_as : ℕ → Answer → Option ConnectState → Option ConnectState
filed_as place answer None = None
filed_as place answer (Some (Held session deadline waker)) = Some (Filed session place answer)
filed_as place answer (Some (Filed session earlier replaced)) = Some (Filed session place answer)

-- A connect after `events` replaced the events of its filed answer. A connect without a filed
-- answer is unchanged.
abbrev pub completed : List Event → Option ConnectState → Option ConnectState
completed events (Some (Filed session place answer)) = Some (Filed session place (record answer { events = events }))
completed events state = state

-- The connects after the entry at `place` gives an answer, if it gives one. An answer to an unknown
-- connect changes nothing.
abbrev pub filing : ℕ → Option Answered → (ℕ → Option ConnectState) → ℕ → Option ConnectState
filing place None connects p = connects p
filing place (Some a) connects p = if nat_eq a.place p then filed_as place a.answer (connects a.place) else connects p

-- The answer that is filed for a connect, if any.
abbrev pub filed_answer : Option ConnectState → Option Answer
filed_answer (Some (Filed session place answer)) = Some answer
filed_answer _ = None

-- A connect after its filed answer, if any, was taken. It is then unknown. A connect without a
-- filed answer is unchanged.
abbrev pub taken_from : Option ConnectState → Option ConnectState
taken_from (Some (Filed session place answer)) = None
taken_from state = state

-- The result of registering a waker with a connect: `Unknown` if the connect is unknown, `Ready` if
-- its answer is filed, `Shut` if the shard is shut, otherwise `Stored` with the waker that is
-- replaced, if any.
abbrev pub watched : Bool → Waker → Option ConnectState → Watch
watched shut waker None = Unknown waker
watched true waker (Some (Held session deadline older)) = Shut waker
watched false waker (Some (Held session deadline older)) = Stored older
watched shut waker (Some (Filed session place answer)) = Ready waker

-- A connect after a waker was registered; only a held connect stores it, unless the shard is shut.
abbrev pub with_waker : Bool → Waker → Option ConnectState → Option ConnectState
with_waker false waker (Some (Held session deadline older)) = Some (Held session deadline (Some waker))
with_waker _ waker state = state

-- A held connect without its waker. An answered connect has none, and is unchanged.
abbrev pub unwatched : ConnectState → ConnectState
unwatched (Held session deadline waker) = Held session deadline None
unwatched (Filed session place answer) = Filed session place answer

-- Whether a connect was answered by an entry before place `before`.
abbrev pub is_filed_below : ℕ → ConnectState → Bool
is_filed_below before (Held session deadline waker) = false
is_filed_below before (Filed session place answer) = nat_lt place before

-- A connect after a sweep: unknown if it was answered by an entry before place `before`, otherwise
-- unchanged.
abbrev pub unswept : ℕ → Option ConnectState → Option ConnectState
unswept before None = None
unswept before (Some state) = if not (is_filed_below before state) then Some state else None

-- The filed answers that were given by the entry at place `before` or by a later one.
abbrev pub kept_from : ℕ → List (ℕ × FiledAnswer) → List (ℕ × FiledAnswer)
kept_from before filed = filter (λ (f : ℕ × FiledAnswer). not (nat_lt f.1.place before)) filed

-- The connects without the answers that were given by entries before place `before`.
abbrev pub swept : ℕ → KnownConnects → KnownConnects
swept before connects = record { held = connects.held; filed = kept_from before connects.filed }

-- How many connects are held.
abbrev pub count_held : KnownConnects → ℕ
count_held connects = length connects.held

-- `session` holds the connect at `place` until `deadline`. `waker` is stored with it, if any.
pub record IsHeldUntil (connects : KnownConnects) (place session : ℕ) (deadline : Option ℕ) : Type 0 where
  pub waker : Option Waker
  pub held : connect_at connects place ≡ Some (Held session deadline waker)

-- `session` holds the connect at `place`, and `deadline`, the end of the hold, is at or before
-- `moment`.
pub record IsDue (connects : KnownConnects) (session moment : ℕ) : Type 0 where
  pub place : ℕ
  pub deadline : ℕ
  pub held : IsHeldUntil connects place session (Some deadline)
  pub due : deadline ≤ moment

-- How many filed answers were given by entries before place `before`.
abbrev pub count_filed_below : ℕ → KnownConnects → ℕ
count_filed_below before connects = length (filter (λ (f : ℕ × FiledAnswer). nat_lt f.1.place before) connects.filed)
