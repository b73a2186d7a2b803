-- The faults of posts and shards, and the number of shards that each fault stopped.
use Rattle.std.specs.Prelude.{ℕ, ◌≡◌, ◌≢◌, ◌+◌, ◌<◌, List, codes}
use Rattle.bx_entry.specs.declared.input.AdmitFault.{AdmitFault}
use Rattle.bx_entry.specs.declared.input.AdmitFault.TheVariants as admissions
use Rattle.bx_entry.specs.Refusals.{refusal_reason, refusal_status}
use Rattle.bx_message.specs.declared.status.Status.{Status}
use Rattle.bx_message.specs.declared.status.Status.TheVariants as statuses
use Rattle.bx_window.specs.declared.law.LogStep.{LogStep}
use Rattle.bx_window.specs.Steps.{begin_of}
use Rattle.bx_hub.specs.declared.{activity.Activity.Activity, fault.HubFault.HubFault, fault.Lagging.Lagging, fault.PostFault.PostFault}
use Rattle.bx_hub.specs.declared.activity.Activity.TheVariants.{Active, Paused, Closed}
use Rattle.bx_hub.specs.declared.fault.HubFault.TheVariants as stops
use Rattle.bx_hub.specs.declared.fault.PostFault.TheVariants.{Refused, TooManyMessages, Behind, Overrun, WrongShard, Memory}
use Rattle.bx_hub.specs.declared.fault.PostFault.TheVariants as faults

-- The fault of a post or tick for a fault of planning its entries: the same refusal, or `Memory`.
abbrev pub of_admission : AdmitFault → PostFault
of_admission (admissions.Refused refusal) = Refused refusal
of_admission admissions.Memory = Memory

-- The reason of a fault of a post in words: that of its refusal, or its own.
abbrev pub fault_reason : PostFault → List ℕ
fault_reason (Refused refusal) = refusal_reason refusal
fault_reason TooManyMessages = codes "more messages in one request than the server accepts"
fault_reason faults.Closed = codes "the server is shutting down"
fault_reason (Behind first) = codes "the window is full because a shard lags"
fault_reason (Overrun shard place) = codes "internal error: the window lacks entries that a shard needs"
fault_reason (WrongShard shard found) = codes "internal error: the lock of a shard guards another shard"
fault_reason Memory = codes "out of memory"

-- The HTTP status of a request that was not admitted: that of its refusal, 400 for too many
-- messages, or 503 for other faults.
abbrev pub fault_status : PostFault → Status
fault_status (Refused refusal) = refusal_status refusal
fault_status TooManyMessages = statuses.BadRequest
fault_status _ = statuses.Unavailable

-- The number of stopped shards, for any fault: the sum of the counts.
abbrev pub count_of : Lagging → ℕ
count_of l = l.memory + l.overrun + l.paused + l.closed + l.misplaced

-- The counts with one more shard, counted under the given fault.
abbrev pub one_more : HubFault → Lagging → Lagging
one_more stops.Closed l = record l { closed = l.closed + 1 }
one_more stops.Paused l = record l { paused = l.paused + 1 }
one_more (stops.Overrun shard place) l = record l { overrun = l.overrun + 1 }
one_more stops.Memory l = record l { memory = l.memory + 1 }
one_more (stops.WrongShard found) l = record l { misplaced = l.misplaced + 1 }

-- The fault can stop shard `index` after its reader has seen `front`. `Overrun` names the shard and
-- a place before the window of `front`. `WrongShard` names another shard. Other faults claim
-- nothing.
abbrev pub IsStopped : HubFault → ℕ → List LogStep → Type 0
IsStopped (stops.Overrun shard place) index front = (shard ≡ index) × (place < begin_of front)
IsStopped (stops.WrongShard found) index front = found ≢ index
IsStopped _ index front = Unit {0}

-- If the fault is `Overrun`, it reports `position`, the position of the shard.
abbrev pub IsAt : HubFault → ℕ → Type 0
IsAt (stops.Overrun shard place) position = place ≡ position
IsAt _ position = Unit {0}

-- A closed shard is stopped by `Closed`, a paused one by `Paused`, and an active one by neither.
abbrev pub IsStoppedIn : Activity → HubFault → Type 0
IsStoppedIn Closed f = f ≡ stops.Closed
IsStoppedIn Paused f = f ≡ stops.Paused
IsStoppedIn Active f = (f ≡ stops.Closed → ⊥) × (f ≡ stops.Paused → ⊥)

-- The activity after a pause: `Paused` if it was `Active`, and otherwise unchanged.
abbrev pub paused : Activity → Activity
paused Active = Paused
paused Paused = Paused
paused Closed = Closed

-- The activity after a resume: `Active` if it was `Paused`, and otherwise unchanged.
abbrev pub resumed : Activity → Activity
resumed Active = Active
resumed Paused = Active
resumed Closed = Closed
