-- When a shard of the program agrees with its definition `shard_at` in `Shards.antt`.
use Rattle.std.specs.Prelude.{ℕ, ◌+◌, ◌<◌, ◌≤◌, ◌==◌, ◌≡◌, ◌≢◌, length, Bool, true, false, List, [], ◌∷◌, ◌++◌, filter, find, slice_get, nat_eq, if◌then◌else◌, Option, Some, None, option_map, IsSome, take}
use Rattle.std.specs.Map.{keys_of}
use Rattle.futures.specs.declared.task.waker.Waker.{Waker}
use Rattle.bx_entry.specs.Words.{Listed, PlacedAnswer, answer, answer_of, Kept, Judged, Waiting, entries, registry, Filed}
use Rattle.bx_entry.specs.declared.entry.Entry.{Entry}
use Rattle.bx_message.specs.declared.reply.Answer.{Answer}
use Rattle.bx_connects.specs.declared.connects.ConnectState.{ConnectState}
use Rattle.bx_connects.specs.declared.connects.ConnectState.TheVariants as states
use Rattle.bx_connects.specs.Connects.{filed_answer, is_filed_below, session_at, taken_from}
use Rattle.bx_entry.specs.Placings.{Setup}
use Rattle.bx_shard.specs.Shards.{is_taken, shard_at, is_placed_in}
use Rattle.bx_shard.specs.States.{Applied, IsAsBefore, IsSound, State, Swept, Watched, WasShut, connect_in, session_in}

-- An answer with `place`, that of the entry that gave the answer.
abbrev pub placed : ℕ → Answer → PlacedAnswer
placed place a = record { place = place; events = a.events; reply = a.reply }

-- An answer without the place of the entry that gave it.
abbrev pub given_of : PlacedAnswer → Answer
given_of a = record { events = a.events; reply = a.reply }

-- The filed answer to a connect, if any, with the place of the entry that gave it.
abbrev pub filed_with_place : Option ConnectState → Option PlacedAnswer
filed_with_place None = None
filed_with_place (Some (states.Held session deadline waker)) = None
filed_with_place (Some (states.Filed session place answer)) = Some (placed place answer)

-- The message at `place` is an accepted connect or rider of a session that is placed in `shard`.
pub record IsConnectOf (setup : Setup) (list : List Listed) (shard place : ℕ) : Type 0 where
  pub session : ℕ
  pub waits : option_map (λ (j : Judged). j.slot) (slice_get (registry setup.config list).judged place) ≡ Some (Waiting session)
  pub stands : is_placed_in setup shard session ≡ true

-- The message at `place` is an accepted connect or rider of `session`, which is placed in `shard`.
pub record IsOwn (setup : Setup) (list : List Listed) (shard place session : ℕ) : Type 0 where
  pub waits : option_map (λ (j : Judged). j.slot) (slice_get (registry setup.config list).judged place) ≡ Some (Waiting session)
  pub stands : is_placed_in setup shard session ≡ true

-- The program's shard `s`, with the index `shard` and the setup `setup`, agrees with its definition
-- `shard_at` after `n` entries of `list`. It has the same sessions and filed answers. Its tree of
-- patterns and its held connects agree with its sessions. The answers to the messages at the places
-- in `taken` were taken or dropped. All these places are in the list. If one of them is the place
-- of a connect or rider of the shard, it is below `n`. That connect or rider is no longer held or
-- answered. Each connect that is held or answered has a session that is placed in the shard.
pub record Refines (setup : Setup) (list : List Listed) (taken : List ℕ) (shard n : ℕ) (s : State) : Type 0 where
  pub setup_is : s.setup ≡ setup
  pub index_is : s.index ≡ shard
  pub place_is : s.place ≡ n
  pub within : n ≤ length list
  pub sound : IsSound s
  pub sessions : (m : ℕ) → session_in s m ≡ find (λ (k : Kept). k.number == m) (shard_at setup list taken shard n).sessions
  pub filed : (p : ℕ) → filed_with_place (connect_in s p) ≡ option_map answer_of (find (λ (f : Filed). f.connect == p) (shard_at setup list taken shard n).filed)
  pub known : (p : ℕ) → is_taken taken p ≡ true → p < length list
  pub gone : (p : ℕ) → is_taken taken p ≡ true → IsConnectOf setup list shard p → (p < n) × (connect_in s p ≡ None)
  pub owned : (p m : ℕ) → session_at (connect_in s p) ≡ Some m → IsOwn setup list shard p m

-- A shard without sessions, connects and applied entries agrees with its definition `shard_at`, if
-- the list is empty.
abbrev pub RefinesAtFirst : Type 0
RefinesAtFirst = (setup : Setup) (shard : ℕ) (s : State) → s.setup ≡ setup → s.index ≡ shard → s.place ≡ 0 → IsSound s →
    ((m : ℕ) → session_in s m ≡ None) → ((p : ℕ) → connect_in s p ≡ None) → Refines setup [] [] shard 0 s

-- A shard still agrees with its definition `shard_at` after it applies the next entry of the list.
abbrev pub RefinesOnwards : Type 0
RefinesOnwards = (setup : Setup) (list : List Listed) (taken : List ℕ) (shard n : ℕ) (e : Entry) (old new : State) → 0 < setup.config.limits.batch →
    slice_get (entries setup.config list) n ≡ Some e → Refines setup list taken shard n old → Applied old e new → IsSound new → Refines setup list taken shard (n + 1) new

-- A shard still agrees with its definition `shard_at` after a call that changes nothing.
abbrev pub RefinesStill : Type 0
RefinesStill = (setup : Setup) (list : List Listed) (taken : List ℕ) (shard n : ℕ) (old new : State) →
    Refines setup list taken shard n old → IsAsBefore old new → IsSound new → Refines setup list taken shard n new

-- A shard still agrees with its definition `shard_at` when the list grows.
abbrev pub RefinesLonger : Type 0
RefinesLonger = (setup : Setup) (list more : List Listed) (taken : List ℕ) (shard n : ℕ) (s : State) → Refines setup list taken shard n s → Refines setup (list ++ more) taken shard n s

-- `new` is the shard `old` after the answer to the connect at `place`, if one is filed, is taken.
pub record Took (place : ℕ) (old new : State) : Type 0 where
  pub place_is : new.place ≡ old.place
  pub setup_is : new.setup ≡ old.setup
  pub index_is : new.index ≡ old.index
  pub shut_is : new.shut ≡ old.shut
  pub sessions : (n : ℕ) → session_in new n ≡ session_in old n
  pub connects : (p : ℕ) → connect_in new p ≡ (if nat_eq place p then taken_from (connect_in old place) else connect_in old p)

-- A shard still agrees with its definition `shard_at` after an answer is taken from it.
abbrev pub RefinesTaken : Type 0
RefinesTaken = (setup : Setup) (list : List Listed) (taken : List ℕ) (shard n place : ℕ) (old new : State) → 0 < setup.config.limits.batch →
    Refines setup list taken shard n old → IsSome (filed_answer (connect_in old place)) → Took place old new → IsSound new → Refines setup list (taken ++ place ∷ []) shard n new

-- A shard still agrees with its definition `shard_at` after an answer is taken from another shard.
abbrev pub RefinesBeside : Type 0
RefinesBeside = (setup : Setup) (list : List Listed) (taken : List ℕ) (shard n place : ℕ) (s : State) (other m : ℕ) (beside : State) → 0 < setup.config.limits.batch →
    Refines setup list taken shard n s → IsSome (filed_answer (connect_in s place)) → other ≢ shard → Refines setup list taken other m beside →
    Refines setup list (taken ++ place ∷ []) other m beside

-- A shard still agrees with its definition `shard_at` after a call of `watch`.
abbrev pub RefinesWatched : Type 0
RefinesWatched = (setup : Setup) (list : List Listed) (taken : List ℕ) (shard n connect : ℕ) (waker : Waker) (old new : State) →
    Refines setup list taken shard n old → Watched connect waker old new → IsSound new → Refines setup list taken shard n new

-- A shard still agrees with its definition `shard_at` after it is shut.
abbrev pub RefinesShut : Type 0
RefinesShut = (setup : Setup) (list : List Listed) (taken : List ℕ) (shard n : ℕ) (old new : State) →
    Refines setup list taken shard n old → WasShut old new → IsSound new → Refines setup list taken shard n new

-- Whether a connect has a filed answer that was given by an entry before place `before`.
abbrev pub is_swept : ℕ → Option ConnectState → Bool
is_swept before None = false
is_swept before (Some state) = is_filed_below before state

-- The places of the connects with filed answers that were given by entries before place `before`.
abbrev pub swept_places : ℕ → State → List ℕ
swept_places before s = filter (λ (place : ℕ). is_swept before (connect_in s place)) (keys_of s.sessions.connects.filed)

-- A shard still agrees with its definition `shard_at` after it drops the answers given by entries
-- before place `before`. These count as taken.
abbrev pub RefinesSwept : Type 0
RefinesSwept = (setup : Setup) (list : List Listed) (taken : List ℕ) (shard n before : ℕ) (old new : State) →
    Refines setup list taken shard n old → Swept before old new → IsSound new → Refines setup list (taken ++ swept_places before old) shard n new

-- A shard still agrees with its definition `shard_at` after another shard drops the answers given
-- by entries before place `before`. These count as taken.
abbrev pub RefinesBesideSwept : Type 0
RefinesBesideSwept = (setup : Setup) (list : List Listed) (taken : List ℕ) (shard n before : ℕ) (s : State) (other m : ℕ) (beside : State) →
    Refines setup list taken shard n s → other ≢ shard → Refines setup list taken other m beside → Refines setup list (taken ++ swept_places before s) other m beside

-- ---- Answers

-- The answer that a shard has filed for a message is that of the definition `answer`, over the
-- entries that the shard has applied.
abbrev pub FiledIsGiven : Type 0
FiledIsGiven = (setup : Setup) (list : List Listed) (taken : List ℕ) (shard n place : ℕ) (s : State) (a : Answer) → Refines setup list taken shard n s →
    filed_answer (connect_in s place) ≡ Some a → option_map given_of (answer setup.config (take n list) place) ≡ Some a
