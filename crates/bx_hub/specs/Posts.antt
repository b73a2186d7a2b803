-- What a post or a tick returns, and why it is not admitted.
use Rattle.std.specs.Prelude.{ℕ, ◌≡◌, ◌≢◌, ◌+◌, ◌<◌, ◌≤◌, ◌⊎◌, ◌^◌, ◌++◌, List, length, take, drop, Some, None}
use mathlib.Core.List.{IsPrefix}
use Rattle.bx_registry.specs.Slots.{admitted_slots}
use Rattle.bx_entry.specs.Inputs.{ReadInput, Request, Unread, added_by, refusal_of}
use Rattle.bx_entry.specs.declared.entry.Slot.{Slot}
use Rattle.bx_entry.specs.declared.input.Input.{Input}
use Rattle.bx_entry.specs.declared.input.Refusal.TheVariants as refusals
use Rattle.bx_entry.specs.Placings.{Setup}
use Rattle.bx_window.specs.declared.law.LogStep.{LogStep}
use Rattle.bx_window.specs.Steps.{list_of, firsts_of, begin_of, below, inputs_of}
use Rattle.bx_hub.specs.declared.fault.PostFault.{PostFault}
use Rattle.bx_hub.specs.declared.fault.PostFault.TheVariants.{Refused, TooManyMessages, Closed, Behind, Overrun, WrongShard, Memory}
use Rattle.bx_window.specs.declared.writer.TheConstants.{MAX_BATCHES}

-- A call admitted `input` at place `first`, and extended its pass from `old` to `new`.
-- No rule rejects `input` there. The list of `old` ends at `first` or before. From `first` on, the
-- list of `new` has exactly the entries that `input` adds. Each front within `new` shows all of
-- these entries, or none.
pub record IsAdmittedAt (input : ReadInput) (first : ℕ) (old new : List LogStep) : Type 0 where
  pub allowed : refusal_of first input ≡ None
  pub fresh : length (list_of old) ≤ first
  pub there : drop first (list_of new) ≡ added_by input
  pub end : length (list_of new) ≡ first + length (added_by input)
  pub at_once : (front : List LogStep) → IsPrefix front new → (length (list_of front) ≤ first) ⊎ (list_of front ≡ list_of new)

-- `new` is the whole log after `input` was appended to the log `old`, at place `first`. `recorded`
-- are the inputs that are recorded of it.
pub record IsGrown (input : ReadInput) (recorded : List Input) (first : ℕ) (old new : List LogStep) : Type 0 where
  pub first_is : first ≡ length (list_of old)
  pub list_is : list_of new ≡ list_of old ++ added_by input
  pub inputs_are : inputs_of new ≡ inputs_of old ++ recorded

-- `slots` are what a single-threaded server gives for `input` at place `first` of the list of
-- `front`.
abbrev pub AreSlotsAt : Setup → ReadInput → ℕ → List LogStep → List Slot → Type 0
AreSlotsAt setup input first front slots = slots ≡ admitted_slots setup (take first (list_of front)) (added_by input)

-- The window of `front` has `MAX_BATCHES` batches, and the oldest begins at `first`. The list of
-- `front` has at least `MAX_BATCHES` entries from `first` on.
abbrev pub IsFull : ℕ → List LogStep → Type 0
IsFull first front = (length (firsts_of front) ≡ MAX_BATCHES) × (begin_of front ≡ first) × (first + MAX_BATCHES ≤ length (list_of front))

-- `input` is allowed at the end of `front` and adds entries, but the window is full, and begins at
-- `first`.
pub record IsFullFor (input : ReadInput) (first : ℕ) (front : List LogStep) : Type 0 where
  pub allowed : refusal_of (length (list_of front)) input ≡ None
  pub some : 0 < length (added_by input)
  pub full : IsFull first front

-- `before` is an earlier front than `front`. At its end, `input` could be appended, but the window
-- was full, and began at `first`.
pub record WasFullFor (input : ReadInput) (front : List LogStep) : Type 0 where
  pub before : List LogStep
  pub first : ℕ
  pub begins : IsPrefix before front
  pub full : IsFullFor input first before

-- Making room in the full window can fail with the fault. `Overrun`: `place` is before the window
-- of `front`. `WrongShard`: a lock guards another shard. `Memory` claims nothing. Other faults
-- cannot occur.
abbrev pub IsWithoutRoom : PostFault → List LogStep → Type 0
IsWithoutRoom (Overrun shard place) front = place < begin_of front
IsWithoutRoom (WrongShard shard found) front = found ≢ shard
IsWithoutRoom Memory front = Unit {0}
IsWithoutRoom _ front = ⊥

-- A tick, or a request with documents that are messages, which its listener allows.
abbrev pub IsReadable : ReadInput → Type 0
IsReadable (Unread refusal) = ⊥
IsReadable input = Unit {0}

-- The number of messages of a request. 0 for a tick, and for a request that cannot be read.
abbrev pub messages_in : ReadInput → ℕ
messages_in (Request moment nonce messages) = length messages
messages_in _ = 0

-- The fault can be why admission rejected `input`, if the pass has then seen `front`. `Refused`:
-- the rules reject `input` after the list of `front`, with this refusal. `Ended` can also
-- mean that the log of publishes and trims is too long. `Behind`: `input` could be appended, but
-- the window is full and begins at `first`. `Overrun`: the window was full, and now begins after
-- `place`. `WrongShard`: the window was full, and the lock of `shard` guards another shard.
-- `Closed`: the documents are messages that the listener allows. `Memory` claims nothing. Admission
-- does not count messages.
abbrev pub IsRefused : ReadInput → PostFault → List LogStep → Type 0
IsRefused input (Refused refusals.Ended) front = (refusal_of (length (list_of front)) input ≡ Some refusals.Ended) ⊎ (2 ^ 62 ≤ length front)
IsRefused input (Refused refusal) front = refusal_of (length (list_of front)) input ≡ Some refusal
IsRefused input Closed front = IsReadable input
IsRefused input (Behind first) front = IsFullFor input first front
IsRefused input (Overrun shard place) front = WasFullFor input front × (place < begin_of front)
IsRefused input (WrongShard shard found) front = WasFullFor input front × (found ≢ shard)
IsRefused input Memory front = Unit {0}
IsRefused input TooManyMessages front = ⊥

-- The fault can be why a hub that accepts up to `most` messages in a request rejected `input`:
-- `input` has more of them, or admission rejected it.
abbrev pub IsRejected : ℕ → ReadInput → PostFault → List LogStep → Type 0
IsRejected most input TooManyMessages front = most < messages_in input
IsRejected most input fault front = IsRefused input fault front

-- The fault can be the reason why a planned batch is not published at the end of `front`. `Ended`:
-- the log has no room for another step. `Behind`: the window is full and begins at `first`.
-- `Memory` claims nothing. Other faults cannot occur.
abbrev pub IsUnpublished : PostFault → List LogStep → Type 0
IsUnpublished (Refused refusals.Ended) front = 2 ^ 62 ≤ length front
IsUnpublished (Behind first) front = IsFull first front
IsUnpublished Memory front = Unit {0}
IsUnpublished _ front = ⊥

-- With `Behind`, `front` is the whole `log` and has room for another step. `Overrun` cannot occur.
-- Other faults claim nothing.
abbrev pub IsWhole : PostFault → List LogStep → List LogStep → Type 0
IsWhole (Behind first) front log = (front ≡ log) × (length log < 2 ^ 62)
IsWhole (Overrun shard place) front log = ⊥
IsWhole _ front log = Unit {0}

-- No batch in the window of `front` is wholly before `place`.
abbrev pub IsUntrimmable : ℕ → List LogStep → Type 0
IsUntrimmable place front = below place (length (list_of front)) (firsts_of front) ≡ 0

-- No batch in the window of `log` is wholly before `place`, or `log` has no room for another step.
abbrev pub IsTrimmedTo : ℕ → List LogStep → Type 0
IsTrimmedTo place log = IsUntrimmable place log ⊎ (2 ^ 62 ≤ length log)
