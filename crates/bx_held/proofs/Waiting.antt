-- A task that registered a waker waits for the answer.
use Rattle.std.proofs.Common.{ℕ, ◌≡◌, ◌⊎◌, inl, inr, Bool, true, false, Option, Some, None, ap, subst, true≢false}
use Rattle.std.specs.Prelude.{IsSomeAnd}
use Rattle.bx_entry.specs.declared.entry.Ticket.{Ticket}
use Rattle.bx_connects.specs.declared.watch.Watch.{Watch}
use Rattle.bx_connects.specs.declared.watch.Watch.TheVariants.{Stored, Ready, Unknown, Shut}
use Rattle.bx_hub.specs.Watches.{IsToldOf}
use Rattle.bx_hub.specs.declared.shard_state.evidence.WatchEvidence.{WatchEvidence}
use Rattle.futures.specs.Poll.{OnPending}
use Rattle.futures.specs.Task.{Wakes}
use Rattle.futures.specs.declared.task.Poll.{Poll}
use Rattle.futures.specs.declared.task.Poll.TheVariants.{Ready, Pending}
use Rattle.futures.specs.declared.task.context.Context.{Context}
use Rattle.futures.specs.declared.task.waker.Waker.{Waker}
use Rattle.bx_held.specs.Waiting.{IsWaitedFor}

pub on_pending : {A P : Type 0} (polled : Poll A) → P → OnPending polled P
on_pending (Ready x) p = tt
on_pending Pending p = p

abbrev is_stored : Watch → Bool
is_stored (Stored older) = true
is_stored (Ready given) = false
is_stored (Unknown given) = false
is_stored (Shut given) = false

pub waited_for : {L : Type 0} (shards : ℕ) (slot : Option Waker) (waker : Waker) (older : Option Waker)
    (ticket : Ticket) (evidence : Option (WatchEvidence L)) (old new : Context)
    → slot ≡ Some waker → (new.lacks_waker ≡ true) ⊎ IsSomeAnd slot (λ w. Wakes w old)
    → IsToldOf shards ticket waker (Stored older) evidence
    → IsWaitedFor ticket evidence old new
waited_for shards slot waker older ticket evidence old new is (inl lacks) told = inl (inr lacks)
waited_for shards slot waker older ticket (Some evidence) old new is (inr wakes) told =
    inr (record {
      waker = waker;
      wakes = subst (λ (o : Option Waker). IsSomeAnd o (λ w. Wakes w old)) is wakes;
      older
          = older;
      lies = told;
    })
waited_for shards slot waker older ticket None old new is (inr wakes) told = absurd (true≢false (ap is_stored told.1))
