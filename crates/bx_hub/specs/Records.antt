-- The requests and ticks that are recorded of a list.
use Rattle.std.specs.Prelude.{ℕ, ◌≡◌, List, [], ◌∷◌, ◌++◌, Result, Ok, Err}
use Rattle.std.specs.List.{flat_map, AllByRecursion}
use Rattle.std.proofs.Props.{props}
use Rattle.bx_cut.specs.Bodies.{texts_of}
use Rattle.bx_entry.specs.Inputs.{added_by}
use Rattle.bx_entry.specs.Listing.{Listed}
use Rattle.bx_message.specs.declared.message.Message.{Message}
use Rattle.bx_entry.specs.Requests.{arrival_messages, read_input}
use Rattle.bx_entry.specs.declared.input.Refusal.{Refusal}
use Rattle.bx_entry.specs.declared.input.Input.{Input}
use Rattle.bx_entry.specs.declared.input.Input.TheVariants.{Post, Tick}
use Rattle.bx_record.specs.Laws.{CanRecord}
use Rattle.bx_hub.specs.declared.submission.Submission.{Submission}
use Rattle.bx_hub.specs.declared.submission.Submission.TheVariants as submission

-- The request or tick as it arrived, without the messages that were read from it.
abbrev pub input_in : Submission → Input
input_in (submission.Request r) = Post r.now.arrival
input_in (submission.Tick tick) = Tick tick.now.moment

-- The documents of a request; a tick has none.
abbrev pub documents_in : Submission → List (List ℕ)
documents_in (submission.Request r) = texts_of r.now.arrival.bodies
documents_in (submission.Tick tick) = []

-- The list of only `input` if its request has messages, and otherwise the empty list.
abbrev pub where_any : List Message → Input → List Input
where_any [] input = []
where_any (m ∷ ms) input = input ∷ []

-- The inputs recorded of a request or tick: itself, unless it is a request without messages.
abbrev pub inputs_by : Submission → List Input
inputs_by (submission.Request r) = where_any r.now.messages.items (Post r.now.arrival)
inputs_by (submission.Tick tick) = Tick tick.now.moment ∷ []

-- The inputs recorded of the request `input`: itself, if messages were read from it and there are
-- any.
abbrev pub input_by : Result (List Message) Refusal → Input → List Input
input_by (Ok ms) input = where_any ms input
input_by (Err fault) input = []

-- The inputs recorded of a request or tick as it arrived: itself, unless it is a request without
-- messages or with documents that are not messages.
abbrev pub inputs_from : Input → List Input
inputs_from (Post a) = input_by (arrival_messages a) (Post a)
inputs_from (Tick moment) = Tick moment ∷ []

-- `all` is `before` followed by `last`.
pub record EndsIn (all last : List Input) : Type 0 where
  pub before : List Input
  pub is : all ≡ before ++ last

-- The list that has the entries of `inputs`, in order.
abbrev pub list_by : List Input → List Listed
list_by inputs = flat_map (λ input. added_by (read_input input)) inputs

-- Proves that `CanRecord` is a proposition for each input.
can_record-prop : (input : Input) → IsProp (CanRecord input)
can_record-prop (Post a) = hlevel props
can_record-prop (Tick moment) = hlevel props

-- Proves that `CanRecord`, for all inputs of a list, is a proposition.
pub can_record_all-prop : (inputs : List Input) → IsProp (AllByRecursion CanRecord inputs)
can_record_all-prop [] = hlevel props
can_record_all-prop (input ∷ inputs) = hlevel (can_record-prop input, can_record_all-prop inputs, props)

pub ruleset record_props = (can_record_all-prop, props)
