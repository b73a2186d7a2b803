-- The last input of a round, and the answers to its messages as they are collected.
use Rattle.std.specs.Prelude.{ℕ, ◌+◌, ◌<◌, ◌≤◌, ◌≡◌, Bool, true, false, List, [], ◌∷◌, ◌++◌, length, flat_map, slice_get, option_map, Option, Some, None, Result, Ok, Err, ⊤}
use Rattle.bx_advice.specs.declared.config.Config.{Config}
use Rattle.bx_entry.specs.Words.{answer, Listed}
use Rattle.bx_entry.specs.declared.{entry.Slot.Slot, input.Refusal.Refusal}
use Rattle.bx_entry.specs.declared.entry.Slot.TheVariants.{Ready}
use Rattle.bx_fanout.specs.declared.{current_input.CurrentInput.CurrentInput, out.Out.Out}
use Rattle.bx_fanout.specs.HeldInputs.{items_of}
use Rattle.bx_message.specs.declared.reply.{Answer.Answer, Item.Item}
use Rattle.bx_shard.specs.Words.{Setup, is_taken, given_of}
use Rattle.bx_world.specs.Words.{EachSlot, WorldState}

-- Every shard has applied the whole list.
abbrev pub IsLevel : WorldState → Type 0
IsLevel w = (k n : ℕ) → slice_get w.applied k ≡ Some n → length w.list ≤ n

-- The answer to the message at `place` in the form that its client gets, or `None` if the list does
-- not answer it yet.
abbrev pub given_at : Config → List Listed → ℕ → Option Answer
given_at config list place = option_map given_of (answer config list place)

-- `answers` are the answers that the list gives to the messages from `place` on, in order.
abbrev pub AreAnswers : Config → List Listed → ℕ → List Answer → Type 0
AreAnswers config list place [] = ⊤
AreAnswers config list place (a ∷ answers) = (given_at config list place ≡ Some a) × AreAnswers config list (place + 1) answers

-- No answer to a message at `place` or later was taken.
abbrev pub NoneTakenFrom : ℕ → List ℕ → Type 0
NoneTakenFrom place taken = (p : ℕ) → place ≤ p → is_taken taken p ≡ false

-- From `old` to `new`, only answers to messages at `place` or later were taken. The list and what
-- each shard has applied are unchanged.
pub record Keeps (place : ℕ) (old new : WorldState) : Type 0 where
  pub list : new.list ≡ old.list
  pub applied : new.applied ≡ old.applied
  pub earlier : (p : ℕ) → p < place → is_taken new.taken p ≡ is_taken old.taken p

-- ---- One answer

-- The result is the answer to the message at `place`, and the first slot was removed. From `place`
-- on, no other answer was taken. Or the result is `None`, because the list has no answer to the
-- message yet, and nothing changed.
abbrev pub NextBy : Setup → WorldState → ℕ → List Slot → List Slot → WorldState → Option Answer → Type 0
NextBy setup old place before after new None = (given_at setup.config old.list place ≡ None) × (after ≡ before) × (new ≡ old)
NextBy setup old place before after new (Some a) =
    (given_at setup.config old.list place ≡ Some a) × EachSlot setup old.list (place + 1) after × (length before ≡ length after + 1) × NoneTakenFrom (place + 1) new.taken × Keeps place old new

-- Let `before` be the slots of the messages from some place on, at least one. If all shards have
-- applied the list and no answer from that place on was taken, `NextBy` holds there.
abbrev pub Next : Setup → WorldState → List Slot → List Slot → WorldState → Option Answer → Type 0
Next setup old before after new result =
    (place : ℕ) → IsLevel old → EachSlot setup old.list place before → NoneTakenFrom place old.taken → 0 < length before → NextBy setup old place before after new result

-- The result is the reply of the first slot, as an answer without events, and that slot was
-- removed. Or the result is `None`, and the slots are unchanged.
abbrev pub NextReady : List Slot → List Slot → Option Answer → Type 0
NextReady before after None = after ≡ before
NextReady before after (Some a) = (before ≡ Ready a.reply ∷ after) × (a.events ≡ [])

-- ---- All answers

-- The place of the first message without a collected answer.
abbrev pub next_place : CurrentInput → ℕ
next_place n = n.first + length n.answers.items

-- `n` holds the answers to the first messages of its input, and the slots of its other messages. No
-- answer to a message with a slot, or to a later message, was taken.
pub record IsCollected (setup : Setup) (w : WorldState) (n : CurrentInput) : Type 0 where
  pub answers : AreAnswers setup.config w.list n.first n.answers.items
  pub slots : EachSlot setup w.list (next_place n) n.slots.items
  pub fresh : NoneTakenFrom (next_place n) w.taken

-- If the flag is `true`, all answers to the input are collected. If it is `false`, the list has no
-- answer yet to the input's next message.
abbrev pub IsWhole : Config → List Listed → CurrentInput → Bool → Type 0
IsWhole config list n true = n.slots.items ≡ []
IsWhole config list n false = (0 < length n.slots.items) × (given_at config list (next_place n) ≡ None)

-- From `old` to `new`, slots may have been replaced by collected answers, one for each. The input's
-- number, place, refusal and items are unchanged.
pub record Collects (old new : CurrentInput) : Type 0 where
  pub number : new.number ≡ old.number
  pub first : new.first ≡ old.first
  pub refusal : new.refusal ≡ old.refusal
  pub items : new.items.items ≡ old.items.items
  pub many : length new.answers.items + length new.slots.items ≡ length old.answers.items + length old.slots.items

-- ---- The response

-- The response to an input: the items already converted, followed by those of its collected
-- answers.
abbrev pub response_of : CurrentInput → List Item
response_of n = n.items.items ++ flat_map items_of n.answers.items

-- `Ok` with the response `items`, or `Err` with the reason for which the input was rejected, if it
-- was.
abbrev pub result_of : List Item → Option Refusal → Result (List Item) Refusal
result_of items None = Ok items
result_of items (Some refusal) = Err refusal

abbrev pub out_of : CurrentInput → Out
out_of n = record { input = n.number; result = result_of (response_of n) n.refusal }

-- From `old` to `new`, only the items and the collected answers of the input may have changed.
pub record OthersStay (old new : CurrentInput) : Type 0 where
  pub number : new.number ≡ old.number
  pub first : new.first ≡ old.first
  pub refusal : new.refusal ≡ old.refusal
  pub slots : new.slots.items ≡ old.slots.items
