-- The outs of a run: the responses to its inputs, in the order in which they become complete. A
-- response is complete once all messages of its input are answered. At the end, an input without a
-- complete response is held.
use Rattle.std.specs.Prelude.{ℕ, zero, suc, ◌+◌, ◌==◌, ◌&&◌, max, Bool, false, List, [], ◌∷◌, ◌++◌, length, filter, map, fold, nat_lt, nat_le, is_none, Option, Some, None, Result, Ok, Err, flat_map, position}
use Rattle.bx_entry.specs.{Listing.Listed, Registry.Registry, Registry.registry, Answers.PlacedAnswer, Answers.answer_in}
use Rattle.bx_advice.specs.declared.config.Config.{Config}
use Rattle.bx_message.specs.declared.{reply.Item.Item, reply.Item.TheVariants.EventItem, reply.Item.TheVariants.ReplyItem}
use Rattle.bx_entry.specs.Inputs.{ReadInput, Request, Unread, Tick, refusal_of, added_by}
use Rattle.bx_entry.specs.declared.input.Refusal.{Refusal}

-- What an input appends to the list: `count` elements from place `first` on, or its refusal.
pub record Intake : Type 0 where
  pub input : ReadInput
  pub first : ℕ
  pub count : ℕ
  pub refusal : Option Refusal

-- The list, and what each input so far appended to it.
pub record Taking : Type 0 where
  pub list : List Listed
  pub intake : List Intake

-- What `t` becomes after `input`, which is rejected with the refusal, if there is one. Otherwise
-- its elements are appended to the list.
abbrev pub taken_as : Taking → ReadInput → Option Refusal → Taking
taken_as t input (Some refusal) = record t { intake = t.intake ++ record { input = input; first = length t.list; count = 0; refusal = Some refusal } ∷ [] }
taken_as t input None = record {
  list = t.list ++ added_by input;
  intake = t.intake ++ record { input = input; first = length t.list; count = length (added_by input); refusal = None } ∷ [];
}

-- What `t` becomes after the next input, which is admitted or rejected.
abbrev pub take_in : Taking → ReadInput → Taking
take_in t input = taken_as t input (refusal_of (length t.list) input)

-- The list after all inputs, and what each of them appended to it.
abbrev pub taken_in : List ReadInput → Taking
taken_in inputs = fold take_in (record { list = []; intake = [] }) inputs

-- The response to an input, or its refusal. `input`: the number of the input, from 0.
pub record Out : Type 0 where
  pub input : ℕ
  pub result : Result (List Item) Refusal

-- ---- When a response is complete

-- The `count` numbers from `first` on.
abbrev pub numbers_from : ℕ → ℕ → List ℕ
numbers_from first zero = []
numbers_from first (suc count) = first ∷ numbers_from (first + 1) count

-- The places of the messages that an input waits for until they are answered. A tick and a rejected
-- input wait for none.
abbrev pub places_of : Intake → ReadInput → List ℕ
places_of d (Request moment nonce ms) = numbers_from d.first d.count
places_of d (Unread fault) = []
places_of d (Tick moment) = []

-- The greatest of `place` and the places of these answers, or none if an answer is missing.
abbrev pub latest : ℕ → List (Option PlacedAnswer) → Option ℕ
latest place [] = Some place
latest place (None ∷ answers) = None
latest place (Some a ∷ answers) = latest (max place a.place) answers

-- Whether an element of the input is at `place`.
abbrev pub has_place : ℕ → Intake → Bool
has_place place d = nat_le d.first place && nat_lt place (d.first + d.count)

-- The number of the input that completes the response to input `i`, if any: the one that gives the
-- last of these answers. If there are no answers to wait for, it is `i` itself.
abbrev pub whole_by : List Intake → ℕ → List (Option PlacedAnswer) → Option ℕ
whole_by intake i [] = Some i
whole_by intake i (a ∷ answers) = elim (latest 0 (a ∷ answers)) [ None ↦ None | Some place ↦ position (has_place place) intake ]

-- The part of a response for one message: its events, then its reply.
abbrev pub items_of : PlacedAnswer → List Item
items_of a = map EventItem a.events ++ ReplyItem a.reply ∷ []

-- The items of a response, message by message. Missing answers are left out.
abbrev pub answered_items : List (Option PlacedAnswer) → List Item
answered_items [] = []
answered_items (None ∷ answers) = answered_items answers
answered_items (Some a ∷ answers) = items_of a ++ answered_items answers

-- The response with these answers, unless the input is rejected.
abbrev pub result_by : List (Option PlacedAnswer) → Option Refusal → Result (List Item) Refusal
result_by answers None = Ok (answered_items answers)
result_by answers (Some refusal) = Err refusal

-- The out of an input, and the number of the input that completes this out, if any.
pub record Whole : Type 0 where
  pub at : Option ℕ
  pub out : Out

-- The out of input `i`, and the number of the input that completes it, if any. `d`: what input `i`
-- appended to the list.
abbrev pub whole_of : Config → Registry → List Intake → ℕ → Intake → Whole
whole_of config r intake i d =
    let answers = map (answer_in config r) (places_of d d.input) in
    record { at = whole_by intake i answers; out = record { input = i; result = result_by answers d.refusal } }

-- The outs of these inputs, numbered from `i` on, each with the input that completes it, if any.
abbrev pub wholes_from : Config → Registry → List Intake → ℕ → List Intake → List Whole
wholes_from config r intake i [] = []
wholes_from config r intake i (d ∷ ds) = whole_of config r intake i d ∷ wholes_from config r intake (i + 1) ds

-- The outs of all inputs over their list, each with the input that completes it, if any.
abbrev pub wholes_in : Config → Taking → List Whole
wholes_in config t = wholes_from config (registry config t.list) t.intake 0 t.intake

-- The outs of the inputs of a run, each with the input that completes it, if any.
abbrev pub wholes : Config → List ReadInput → List Whole
wholes config inputs = wholes_in config (taken_in inputs)

-- ---- The outs

-- Whether an out is completed by an input, and that input is `j`.
abbrev pub is_at : ℕ → Option ℕ → Bool
is_at j None = false
is_at j (Some i) = i == j

-- The outs that input `j` completes, in the order of their inputs.
abbrev pub whole_at : ℕ → List Whole → List Out
whole_at j ws = map (λ (w : Whole). w.out) (filter (λ (w : Whole). is_at j w.at) ws)

-- The outs that the first `count` inputs complete, in the order of the inputs that complete them.
abbrev pub outs_in : ℕ → List Whole → List Out
outs_in count ws = flat_map (λ j. whole_at j ws) (numbers_from 0 count)

-- All complete outs of a run, in the order of the inputs that complete them.
abbrev pub outs : Config → List ReadInput → List Out
outs config inputs = outs_in (length inputs) (wholes config inputs)

-- The numbers of the inputs without a complete response at the end of a run.
abbrev pub held : Config → List ReadInput → List ℕ
held config inputs = map (λ (w : Whole). w.out.input) (filter (λ (w : Whole). is_none w.at) (wholes config inputs))
