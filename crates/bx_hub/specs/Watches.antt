-- The results of registering a waker, and which waker a call returns.
use Rattle.std.specs.Prelude.{ℕ, ◌≡◌, ◌≤◌, Bool, true, Option, Some, None, is_some}
use Rattle.bx_connects.specs.Connects.{filed_answer}
use Rattle.bx_connects.specs.Waking.{waker_of}
use Rattle.bx_connects.specs.declared.{connects.ConnectState.ConnectState, watch.Watch.Watch}
use Rattle.bx_connects.specs.declared.watch.Watch.TheVariants.{Stored, Ready, Unknown, Shut}
use Rattle.bx_entry.specs.declared.entry.Ticket.{Ticket}
use Rattle.bx_hub.specs.declared.shard_state.evidence.WatchEvidence.{WatchEvidence}
use Rattle.futures.specs.declared.task.waker.Waker.{Waker}

-- The result agrees with `connect`, which is known under the ticket after the call, if any.
-- `Stored`: `waker` is registered with the connect. The other results return `waker`. `Ready`: an
-- answer is filed. `Unknown`: no connect is known. `Shut`: the shard is closed, as `shut` states,
-- and no answer is filed.
abbrev pub HoldsOf : Bool → Waker → Option ConnectState → Watch → Type 0
HoldsOf shut waker connect (Stored older) = waker_of connect ≡ Some waker
HoldsOf shut waker connect (Ready given) = (is_some (filed_answer connect) ≡ true) × (given ≡ waker)
HoldsOf shut waker connect (Unknown given) = (connect ≡ None) × (given ≡ waker)
HoldsOf shut waker connect (Shut given) = (shut ≡ true) × (filed_answer connect ≡ None) × (given ≡ waker)

-- If the result is not `Stored`, it returns `waker`.
abbrev pub IsBack : Waker → Watch → Type 0
IsBack waker (Stored older) = Unit {0}
IsBack waker (Ready given) = given ≡ waker
IsBack waker (Unknown given) = given ≡ waker
IsBack waker (Shut given) = given ≡ waker

-- The result is `Shut`.
abbrev pub IsShut : Watch → Type 0
IsShut (Shut given) = Unit {0}
IsShut _ = ⊥

module _ {L : Type 0} where
  -- `evidence` records `ticket`, `waker` and the result `said`.
  pub record IsSaid (ticket : Ticket) (waker : Waker) (said : Watch) (evidence : WatchEvidence L) : Type 0 where
    pub ticket_is : evidence.ticket.value ≡ ticket
    pub waker_is : evidence.waker.value ≡ waker
    pub said_is : evidence.said.value ≡ said

  -- The evidence records `ticket`, `waker` and the result `said`. Without evidence, the ticket
  -- names none of `shards` shards, and the result is `Unknown`.
  abbrev pub IsToldOf : ℕ → Ticket → Waker → Watch → Option (WatchEvidence L) → Type 0
  IsToldOf shards ticket waker said (Some evidence) = IsSaid ticket waker said evidence
  IsToldOf shards ticket waker said None = (shards ≤ ticket.shard) × (said ≡ Unknown waker)
