-- What a shard's lock guards.
use Rattle.std.specs.Prelude.{ℕ, ◌≡◌, ◌≤◌, ◌++◌, ◌∷◌, List, [], length, Option, Some, None, option_map, Result, Ok, Err}
use mathlib.Core.List.{IsPrefix}
use Rattle.bx_advice.specs.declared.config.Config.{Config}
use Rattle.bx_entry.specs.Answers.{answer}
use Rattle.bx_message.specs.declared.reply.Answer.{Answer}
use Rattle.bx_shard.specs.Words.{Refines, given_of, Setup, state, State}
use Rattle.bx_entry.specs.declared.Placing as Placing
use Rattle.bx_entry.specs.declared.entry.Ticket.{Ticket}
use Rattle.bx_window.specs.declared.law.LogId as LogId
use Rattle.bx_hub.specs.declared.{shard_state.ShardState.ShardState, shard_state.evidence.Unfiled.Unfiled}
use Rattle.bx_window.specs.declared.law.LogStep.{LogStep}
use Rattle.bx_window.specs.Steps.{list_of}

-- What a shard's lock guards.
-- `seen`: the log that the reader of the window has seen. `told`: the longest front of the log that
-- the shard has learned. `taken`: the places of answers that were taken or swept. `state`: the
-- shard.
pub record Held : Type 0 where
  pub seen : List LogStep
  pub told : List LogStep
  pub taken : List ℕ
  pub state : State

-- The log `h.seen` begins with `h.told`, and the shard has applied no entry after `h.told`. The
-- shard's state agrees with the definitions for the entries that it has applied.
pub record Stands (setup : Setup) (h : Held) : Type 0 where
  pub learnt : IsPrefix h.told h.seen
  pub within : h.state.place ≤ length (list_of h.told)
  pub holds : Refines setup (list_of h.seen) h.taken h.state.index h.state.place h.state

-- What a shard's lock guards. These are the log that the shard's reader has seen, the front that
-- the shard has learned, the places of taken answers, and the shard.
abbrev pub held_of : {L P : Type 0} {g : LogId.Ghosts L} {h : Placing.Ghosts P} → ShardState L P g h → Held
held_of {L} {P} {g} {h} d = record { seen = d.reader; told = d.prefix; taken = d.taken; state = state h.place_of d.shard }

-- The places of taken answers after a poll at `place`: `taken`, with `place` if the poll took an
-- answer.
abbrev pub taken_by : {E : Type 0} → Result (Option Answer) E → ℕ → List ℕ → List ℕ
taken_by (Ok (Some a)) place taken = taken ++ place ∷ []
taken_by (Ok None) place taken = taken
taken_by (Err e) place taken = taken

-- The answer, if any, of a single-threaded server with the list of `log` to the message at `place`.
abbrev pub answer_over : Config → List LogStep → ℕ → Option Answer
answer_over config log place = option_map given_of (answer config (list_of log) place)

module _ {L : Type 0} where
  -- `evidence` is for `ticket`. The ticket's shard was active, had applied all entries of `front`,
  -- and had no answer filed under the ticket.
  pub record IsUnfiledAt (ticket : Ticket) (front : List LogStep) (evidence : Unfiled L) : Type 0 where
    pub ticket_is : evidence.ticket.value ≡ ticket
    pub front_is : evidence.front.value ≡ front
