-- The state of the program's shard, and how one entry changes it.
use Rattle.std.specs.Prelude.{ℕ, ◌⊎◌, ◌+◌, ◌==◌, ◌&&◌, ◌≡◌, ◌≢◌, ◌≤◌, Bool, true, false, List, if◌then◌else◌, nat_eq, option_map, Option, Some, None, is_some, is_none, Contains}
use Rattle.std.specs.{List.list_any, Option.option_and_then, Option.option_or}
use Rattle.bx_advice.specs.declared.config.Config.{Config}
use Rattle.bx_entry.specs.declared.entry.{Entry.Entry, EntryKind.EntryKind, Rider.Rider}
use Rattle.bx_entry.specs.declared.entry.EntryKind.TheVariants.{Opened, Connect, Unsubscribe, Disconnect, Refused, Tick}
use Rattle.bx_entry.specs.Words.{Kept, kept, kept_step, is_live, rider_of, step, unopened}
use Rattle.bx_session.specs.declared.answered.Answered.{Answered}
use Rattle.bx_session.specs.Views.{pending}
use Rattle.bx_connects.specs.declared.connects.ConnectState.{ConnectState}
use Rattle.bx_connects.specs.declared.connects.ConnectState.TheVariants.{Held, Filed}
use Rattle.bx_connects.specs.Connects.{connect_at, session_at, unswept, unwatched, with_waker}
use Rattle.bx_shard.specs.declared.sessions.Sessions.{Sessions}
use Rattle.futures.specs.declared.task.waker.Waker.{Waker}
use Rattle.bx_shard.specs.Effects.{answers_by, holding}
use Rattle.bx_shard.specs.Sessions.{AreTied, kept_in}
use Rattle.bx_entry.specs.Placings.{Setup}
use Rattle.bx_shard.specs.Shards.{is_placed_in}

-- A shard: its setup, its index, the number of applied entries (`place`), whether it is shut, and
-- its sessions with their connects.
pub record State : Type 0 where
  pub setup : Setup
  pub index : ℕ
  pub place : ℕ
  pub shut : Bool
  pub sessions : Sessions

-- The state of the connect or rider at `place`, if it is held or its answer is filed.
abbrev pub connect_in : State → ℕ → Option ConnectState
connect_in s place = connect_at s.sessions.connects place

-- Session `number`, if it is in the shard.
abbrev pub session_in : State → ℕ → Option Kept
session_in s number = kept_in s.sessions number

-- ---- Sessions

-- Session `n` as it is before it opens, if an entry of the given kind opens it in the shard, and
-- otherwise `None`. `belongs`: whether the session is placed in the shard.
abbrev pub opening : Bool → EntryKind → ℕ → Option Kept
opening belongs (Opened m ack) n = if (m == n) && belongs then Some (kept (unopened m)) else None
opening belongs _ n = None

-- A session if it is live, and otherwise `None`.
abbrev pub if_live : Kept → Option Kept
if_live k = if is_live k.stage then Some k else None

-- Session `n` of a shard after entry `e`, which may open the session. `belongs`: whether a session
-- that `e` opens is placed in the shard. The result is `None` if the session is closed or not in
-- the shard.
abbrev pub session_after : Config → Bool → Entry → ℕ → Option Kept → Option Kept
session_after config belongs e n o = option_and_then (λ k. if_live (kept_step config k e)) (option_or o (opening belongs e.kind n))

-- ---- Connects

-- A connect after the sessions in `numbers` are closed: `None` if one of them holds it, otherwise
-- unchanged.
abbrev pub dropped_by : List ℕ → Option ConnectState → Option ConnectState
dropped_by numbers None = None
dropped_by numbers (Some (Held session deadline waker)) = if list_any (λ m. m == session) numbers then None else Some (Held session deadline waker)
dropped_by numbers (Some (Filed session place answer)) = Some (Filed session place answer)

-- The connects after an entry, before its answers are filed. After the entry of a connect, this
-- connect is held, if its session is in the shard. A tick drops the connects that are held by the
-- sessions that it closes. A tick that was admitted drops no connects, since no session is due
-- before its hold ends.
abbrev pub begun : (ℕ → Option Kept) → (ℕ → Option ConnectState) → Entry → EntryKind → ℕ → Option ConnectState
begun sessions connects e (Connect m client id acked hold) p = if is_some (sessions m) then holding m (pending e.place client id e.moment hold) connects p else connects p
begun sessions connects e (Tick numbers) p = dropped_by numbers (connects p)
begun sessions connects e _ p = connects p

-- Applying entry `e` to session `number`, which is in the shard, gives the answer `a` to a connect
-- or rider.
abbrev pub IsGiven : Config → (ℕ → Option Kept) → Entry → ℕ → Answered → Type 0
IsGiven config sessions e number a = Contains (answers_by (λ s. step config s e) (sessions number)) a

-- `new` is the connects `old` after all answers in `Given` are filed, as given by the entry at
-- `place`. All other connects are unchanged.
pub record Files (place : ℕ) (Given : ℕ → Answered → Type 0) (old new : ℕ → Option ConnectState) : Type 0 where
  pub given : (n : ℕ) (a : Answered) → Given n a → new a.place ≡ Some (Filed n place a.answer)
  pub kept : (p : ℕ) → ((n : ℕ) (a : Answered) → Given n a → a.place ≢ p) → new p ≡ old p

-- The number of a rider's session, if there is a rider.
abbrev pub riding : Option Rider → Option ℕ
riding rides = option_map (λ (r : Rider). r.session) rides

-- The number of the session that connects by an entry of the given kind, if the kind is a connect.
abbrev pub connecting : EntryKind → Option ℕ
connecting (Connect m client id acked hold) = Some m
connecting _ = None

-- Entry `e`, at place `p`, is a connect of session `m` or has its rider, and the session is in the
-- shard.
pub record Connects (sessions : ℕ → Option Kept) (e : Entry) (p m : ℕ) : Type 0 where
  pub place : e.place ≡ p
  pub session : (connecting e.kind ≡ Some m) ⊎ (riding (rider_of e.kind e.rides) ≡ Some m)
  pub here : is_some (sessions m) ≡ true

-- Each connect that is held or answered in `new` has the same session as in `old`, or is the
-- connect or rider of entry `e`.
abbrev pub KeepsSessions : (ℕ → Option Kept) → Entry → (ℕ → Option ConnectState) → (ℕ → Option ConnectState) → Type 0
KeepsSessions sessions e old new = (p m : ℕ) → session_at (new p) ≡ Some m → (session_at (old p) ≡ Some m) ⊎ Connects sessions e p m

-- Whether an entry of the given kind opens a session that is placed in shard `index`.
abbrev pub opens_in : Setup → ℕ → EntryKind → Bool
opens_in setup index (Opened m ack) = is_placed_in setup index m
opens_in setup index _ = false

-- ---- One entry

-- `new` is the shard `old` after it applies entry `e`.
pub record Applied (old : State) (e : Entry) (new : State) : Type 0 where
  pub place : new.place ≡ e.place + 1
  pub setup : new.setup ≡ old.setup
  pub index : new.index ≡ old.index
  pub shut : new.shut ≡ old.shut
  pub sessions : (n : ℕ) → session_in new n ≡ session_after old.setup.config (opens_in old.setup old.index e.kind) e n (session_in old n)
  pub connects : Files e.place (IsGiven old.setup.config (session_in old) e) (begun (session_in old) (connect_in old) e e.kind) (connect_in new)
  pub known : KeepsSessions (session_in old) e (connect_in old) (connect_in new)

-- The shards `old` and `new` have the same setup, index, place, sessions and connects. Both are
-- shut, or neither is.
pub record IsAsBefore (old new : State) : Type 0 where
  pub place : new.place ≡ old.place
  pub setup : new.setup ≡ old.setup
  pub index : new.index ≡ old.index
  pub shut : new.shut ≡ old.shut
  pub sessions : (n : ℕ) → session_in new n ≡ session_in old n
  pub connects : (p : ℕ) → connect_in new p ≡ connect_in old p

-- ---- Invariants

-- In shard `s`, the tree of patterns and the held connects agree with the sessions. At `s.place`
-- and later, no connect is held and no answer is filed.
pub record IsSound (s : State) : Type 0 where
  pub tied : AreTied s.sessions
  pub fresh : (p : ℕ) → s.place ≤ p → connect_in s p ≡ None

-- ---- Other calls

-- `new` is the shard `old` after a call of `watch` with `waker` for the connect at place `connect`.
-- If the connect is held and the shard is not shut, the connect stores `waker`. Nothing else has
-- changed.
pub record Watched (connect : ℕ) (waker : Waker) (old new : State) : Type 0 where
  pub place : new.place ≡ old.place
  pub setup : new.setup ≡ old.setup
  pub index : new.index ≡ old.index
  pub shut : new.shut ≡ old.shut
  pub sessions : (n : ℕ) → session_in new n ≡ session_in old n
  pub connects : (p : ℕ) → connect_in new p ≡ (if nat_eq connect p then with_waker old.shut waker (connect_in old connect) else connect_in old p)

-- `new` is the shard `old` without the answers given by entries before place `before`.
pub record Swept (before : ℕ) (old new : State) : Type 0 where
  pub place : new.place ≡ old.place
  pub setup : new.setup ≡ old.setup
  pub index : new.index ≡ old.index
  pub shut : new.shut ≡ old.shut
  pub sessions : (n : ℕ) → session_in new n ≡ session_in old n
  pub connects : (p : ℕ) → connect_in new p ≡ unswept before (connect_in old p)

-- `new` is the shard `old` after it is shut: its held connects have no wakers.
pub record WasShut (old new : State) : Type 0 where
  pub place : new.place ≡ old.place
  pub setup : new.setup ≡ old.setup
  pub index : new.index ≡ old.index
  pub shut : new.shut ≡ true
  pub sessions : (n : ℕ) → session_in new n ≡ session_in old n
  pub connects : (p : ℕ) → connect_in new p ≡ option_map unwatched (connect_in old p)

-- Whether an entry of the given kind is applied without allocating if it has no rider.
abbrev pub takes_none_by : EntryKind → Bool
takes_none_by (Unsubscribe m patterns) = true
takes_none_by (Disconnect m) = true
takes_none_by Refused = true
takes_none_by (Tick numbers) = true
takes_none_by _ = false

-- Whether an entry is applied without allocating.
abbrev pub takes_no_memory : Entry → Bool
takes_no_memory e = is_none (rider_of e.kind e.rides) && takes_none_by e.kind
