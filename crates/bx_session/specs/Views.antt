-- A session as the program stores it, and the answers that its calls return.
use Rattle.std.specs.Prelude.{ℕ, ◌+◌, ◌≤◌, ◌^◌, ◌&&◌, min, length, is_some, Bool, true, false, List, [], ◌∷◌, ◌++◌, nat_lt, if◌then◌else◌, Option, Some, None}
use Rattle.std.specs.Option.{option_to_list}
use Rattle.bx_advice.specs.declared.{config.Config.Config, advice.Outcome.Outcome}
use Rattle.bx_advice.specs.Limits.{greatest_length}
use Rattle.bx_entry.specs.Words.{events_of, Kept, Filed, Pending, deadline}
use Rattle.bx_message.specs.Replies.{connect_reply}
use Rattle.bx_message.specs.declared.{event.Event.Event, reply.AckReply.AckReply, reply.Reply.Reply}
use Rattle.bx_session.specs.declared.answered.{Answered.Answered, ConnectResult.ConnectResult, Delivery.Delivery}
use Rattle.bx_session.specs.declared.answered.Delivery.TheVariants.{Waits, Given, Overflowed}

-- A session, for how many more events it has room without allocating, and the moment at which it
-- was opened.
pub record WithRoom : Type 0 where
  pub kept : Kept
  pub spare : ℕ
  pub opened : ℕ

-- The number of batches so far is at most the greatest length of the list.
abbrev pub Countable : Kept → Type 0
Countable k = k.num ≤ greatest_length

-- Whether the next event is both kept and sent: the session acknowledges and holds a connect.
abbrev pub wants_two : Kept → Bool
wants_two k = k.ack && is_some k.held

-- For how many events a rider's answer needs room: those in the queue and one that the rider may
-- publish, up to one batch. In an acknowledging session, it needs none.
abbrev pub ride_most : Config → Kept → ℕ
ride_most config k = if k.ack then 0 else min config.limits.batch (length k.queue + 1)

-- ---- Connects

-- The unanswered connect at `place`, with this client id, message id, moment and hold.
abbrev pub pending : ℕ → List ℕ → Option (List ℕ) → ℕ → ℕ → Pending
pending place client id moment hold = record { place = place; client = client; id = id; moment = moment; hold = hold }

-- The moment at which a hold ends, if it is less than 2^64.
abbrev pub deadline_of : Pending → Option ℕ
deadline_of p = if nat_lt (deadline p) (2 ^ 64) then Some (deadline p) else None

-- ---- Answers

-- The answer to the connect or rider at `place`: the events `given`, and `reply`.
abbrev pub answered : ℕ → List Event → Reply → Answered
answered place given reply = record { place = place; answer = record { events = given; reply = reply } }

-- The answer to connect `p`: the events `given`, and a reply with `outcome` and `ack`.
abbrev pub answer_to : Config → Pending → List Event → Outcome → AckReply → Answered
answer_to config p given outcome ack = answered p.place given (connect_reply config p.client p.id outcome ack)

-- An answer as the program returns it: its events without their places.
abbrev pub answered_of : Filed → Answered
answered_of f = answered f.connect (events_of f.publications) f.reply

-- The answers that a connect causes: first to the connect that it superseded, then to itself.
abbrev pub connection_answers : ConnectResult → List Answered
connection_answers c = option_to_list c.superseded ++ option_to_list c.answered

-- The answer that a delivery gives to the held connect, if any.
abbrev pub delivery_answers : Delivery → List Answered
delivery_answers Waits = []
delivery_answers (Given a) = a ∷ []
delivery_answers Overflowed = []

-- Whether a delivery makes the session overflow.
abbrev pub is_overflow : Delivery → Bool
is_overflow Waits = false
is_overflow (Given a) = false
is_overflow Overflowed = true
