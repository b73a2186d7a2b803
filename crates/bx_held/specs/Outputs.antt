-- What a poll for an answer returns.
use Rattle.std.specs.Prelude.{◌≡◌, List, Option, Result, Ok, Err, Some, None}
use Rattle.bx_entry.specs.declared.entry.Ticket.{Ticket}
use Rattle.bx_message.specs.declared.reply.Answer.{Answer}
use Rattle.bx_entry.specs.Placings.{Setup}
use Rattle.bx_window.specs.declared.law.LogStep.{LogStep}
use Rattle.bx_hub.specs.Faults.{IsStopped}
use Rattle.bx_hub.specs.Held.{answer_over}
use Rattle.bx_hub.specs.declared.{shard_state.evidence.NoAnswer.NoAnswer, fault.HubFault.HubFault}

module _ {L : Type 0} where
  -- The output, with an error reduced to its fault.
  abbrev pub output_of : Result (Option Answer) (NoAnswer L) → Result (Option Answer) HubFault
  output_of (Ok answer) = Ok answer
  output_of (Err stopped) = Err stopped.fault

-- The output can be returned after a pass has seen `front`.
-- An answer is the one that a single-threaded server gives with the list of `front`. A fault can
-- stop the ticket's shard, as `IsStopped` states. `None` claims nothing here; for a first output,
-- `IsUnknown` does.
abbrev pub IsGiven : Setup → Ticket → List LogStep → Result (Option Answer) HubFault → Type 0
IsGiven setup ticket front (Ok (Some a)) = answer_over setup.config front ticket.place ≡ Some a
IsGiven setup ticket front (Ok None) = Unit {0}
IsGiven setup ticket front (Err fault) = IsStopped fault ticket.shard front
