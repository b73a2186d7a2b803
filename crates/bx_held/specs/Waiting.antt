-- Which task waits for a connect.
use Rattle.std.specs.Prelude.{ℕ, ◌≡◌, ◌⊎◌, true, Option, IsSomeAnd}
use Rattle.bx_connects.specs.declared.watch.Watch.TheVariants.{Stored, Unknown}
use Rattle.bx_entry.specs.declared.entry.Ticket.{Ticket}
use Rattle.bx_hub.specs.Watches.{IsSaid, IsToldOf}
use Rattle.bx_hub.specs.declared.shard_state.evidence.WatchEvidence.{WatchEvidence}
use Rattle.futures.specs.Task.{Wakes}
use Rattle.futures.specs.declared.task.context.Context.{Context}
use Rattle.futures.specs.declared.task.waker.Waker.{Waker}

-- The task is polled again in any case: it asked for that, or memory ran out for its waker.
abbrev pub IsPolledAgain : Context → Type 0
IsPolledAgain cx = (cx.is_woken ≡ true) ⊎ (cx.lacks_waker ≡ true)

module _ {L : Type 0} where
  -- `waker`, which wakes the task of `cx`, was registered under `ticket`, in place of `older` if
  -- there was one.
  pub record IsLeftBy (cx : Context) (ticket : Ticket) (evidence : WatchEvidence L) : Type 0 where
    pub waker : Waker
    pub wakes : Wakes waker cx
    pub older : Option Waker
    pub lies : IsSaid ticket waker (Stored older) evidence

  -- A waker of the polling task was registered under the ticket, as `evidence` states, or the task
  -- is polled again in any case. `old` and `new`: the context of the poll, before and after.
  abbrev pub IsWaitedFor : Ticket → Option (WatchEvidence L) → Context → Context → Type 0
  IsWaitedFor ticket evidence old new = IsPolledAgain new ⊎ IsSomeAnd evidence (IsLeftBy old ticket)

  -- `ticket` names none of `shards` shards, or `evidence` states that no connect is known under
  -- `ticket`. `waker`: the waker that was returned.
  pub record IsUnknown (shards : ℕ) (ticket : Ticket) (evidence : Option (WatchEvidence L)) : Type 0 where
    pub waker : Waker
    pub told : IsToldOf shards ticket waker (Unknown waker) evidence
