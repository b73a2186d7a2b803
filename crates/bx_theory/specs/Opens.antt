-- The open inputs of a run, and those that one more input completes. An input is open if one of its
-- messages is not answered.
use Rattle.std.specs.Prelude.{ℕ, ◌+◌, ◌<◌, ◌≡◌, not, Bool, List, [], ◌∷◌, ◌++◌, length, filter, map, is_some, Option, Some, None}
use Rattle.bx_advice.specs.declared.config.Config.{Config}
use Rattle.bx_entry.specs.Words.{PlacedAnswer, answer_in, ReadInput, added_by, refusal_of, Registry, registry, Intake, Out, held, latest, outs, places_of, result_by, taken_in}
use Rattle.bx_entry.specs.declared.input.Refusal.{Refusal}

-- An input, admitted or rejected, with its number.
pub record Numbered : Type 0 where
  pub number : ℕ
  pub intake : Intake

-- These inputs in order, numbered from `number` on.
abbrev pub numbered_from : ℕ → List Intake → List Numbered
numbered_from number [] = []
numbered_from number (d ∷ ds) = record { number = number; intake = d } ∷ numbered_from (number + 1) ds

-- The answers to the messages of the input `o`, in order, with `None` for each message that is not
-- answered.
abbrev pub answers_to : Config → Registry → Numbered → List (Option PlacedAnswer)
answers_to config r o = map (answer_in config r) (places_of o.intake o.intake.input)

-- Whether all messages of the input `o` are answered.
abbrev pub is_whole : Config → Registry → Numbered → Bool
is_whole config r o = is_some (latest 0 (answers_to config r o))

-- The number of the input `o`, and its response or refusal.
abbrev pub out_of : Config → Registry → Numbered → Out
out_of config r o = record { input = o.number; result = result_by (answers_to config r o) o.intake.refusal }

-- The registry after all `inputs`, each admitted or rejected.
abbrev pub registry_after : Config → List ReadInput → Registry
registry_after config inputs = registry config (taken_in inputs).list

-- Those of `inputs` with a message that is not answered after all of them, in order.
abbrev pub open_after : Config → List ReadInput → List Numbered
open_after config inputs = filter (λ (o : Numbered). not (is_whole config (registry_after config inputs) o)) (numbered_from 0 (taken_in inputs).intake)

-- What an input appends when the list has length `len`, or its refusal.
abbrev pub intake_as : ℕ → ReadInput → Option Refusal → Intake
intake_as len input None = record { input = input; first = len; count = length (added_by input); refusal = None }
intake_as len input (Some refusal) = record { input = input; first = len; count = 0; refusal = Some refusal }

-- The next input `input` after `inputs`, with its number and the places of its messages, or its
-- refusal.
abbrev pub newest : List ReadInput → ReadInput → Numbered
newest inputs input =
    let len : ℕ = length (taken_in inputs).list in
    record { number = length inputs; intake = intake_as len input (refusal_of len input) }

-- The inputs that the next one, `input`, may complete: those of `inputs` with an unanswered
-- message, and `input` itself.
abbrev pub waiting_at : Config → List ReadInput → ReadInput → List Numbered
waiting_at config inputs input = open_after config inputs ++ newest inputs input ∷ []

-- The next input appends the outs of all inputs that it completes, in order. An input is complete
-- once all its messages are answered.
abbrev pub OutsAdd : Type 0
OutsAdd = (config : Config) (inputs : List ReadInput) (input : ReadInput) → 0 < config.limits.batch →
    let r : Registry = registry_after config (inputs ++ input ∷ []) in
    outs config (inputs ++ input ∷ []) ≡ outs config inputs ++ map (out_of config r) (filter (is_whole config r) (waiting_at config inputs input))

-- After `input`, the inputs with an unanswered message are those that had one before, and `input`
-- itself, except those that are then complete.
abbrev pub OpensGoOn : Type 0
OpensGoOn = (config : Config) (inputs : List ReadInput) (input : ReadInput) → 0 < config.limits.batch →
    let r : Registry = registry_after config (inputs ++ input ∷ []) in
    open_after config (inputs ++ input ∷ []) ≡ filter (λ (o : Numbered). not (is_whole config r o)) (waiting_at config inputs input)

-- The inputs with an unanswered message are exactly those that the run reports as held.
abbrev pub OpenIsHeld : Type 0
OpenIsHeld = (config : Config) (inputs : List ReadInput) → 0 < config.limits.batch → held config inputs ≡ map (λ (o : Numbered). o.number) (open_after config inputs)
