-- The answer to the message at each place of the list.
use Rattle.std.specs.Prelude.{ℕ, ◌==◌, List, [], map, find, Option, Some, None, option_map, slice_get}
use Rattle.bx_entry.specs.Listing.{Listed}
use Rattle.bx_advice.specs.declared.config.Config.{Config}
use Rattle.bx_message.specs.declared.{event.Event.Event, reply.Reply.Reply}
use Rattle.bx_entry.specs.declared.entry.Entry.{Entry}
use Rattle.bx_entry.specs.Registry.{PlaceSlot, Ready, Waiting, NoSlot, Judged, Registry, registry, entries_of}
use Rattle.bx_entry.specs.Sessions.{Publication, Filed, session}

-- An answer: the place of the entry that gives it, its events and its reply.
pub record PlacedAnswer : Type 0 where
  pub place : ℕ
  pub events : List Event
  pub reply : Reply

-- The events of publications, without their places.
abbrev pub events_of : List Publication → List Event
events_of ps = map (λ (p : Publication). p.event) ps

-- A filed answer, without the place of the connect or rider that it answers, and without the places
-- of its events.
abbrev pub answer_of : Filed → PlacedAnswer
answer_of f = record { place = f.place; events = events_of f.publications; reply = f.reply }

-- The answer to the connect or rider at `place`, if it is among the filed `answers`.
abbrev pub filed_for : ℕ → List Filed → Option PlacedAnswer
filed_for place answers = option_map answer_of (find (λ (f : Filed). f.connect == place) answers)

-- The answer to the element at `place`, by its slot, after the entries `es`. A reply at once is
-- given at `place`. A connect or a rider gets what its session has filed for it, if anything. A
-- tick gets no answer.
abbrev pub answer_by : Config → List Entry → ℕ → PlaceSlot → Option PlacedAnswer
answer_by config es place (Ready reply) = Some (record { place = place; events = []; reply = reply })
answer_by config es place (Waiting number) = filed_for place (session config number es).answers
answer_by config es place NoSlot = None

-- The answer to the element at `place` after the entries `es`, by the result of judging the
-- element. There is none for a tick, before an answer is filed, or without such an element.
abbrev pub answer_at : Config → List Entry → ℕ → Option Judged → Option PlacedAnswer
answer_at config es place None = None
answer_at config es place (Some j) = answer_by config es place j.slot

-- The answer to the element at `place` of the registry `r`, if its entries give one.
abbrev pub answer_in : Config → Registry → ℕ → Option PlacedAnswer
answer_in config r place = answer_at config (entries_of r) place (slice_get r.judged place)

-- The answer to the element at `place` of the list, if the whole list gives one.
abbrev pub answer : Config → List Listed → ℕ → Option PlacedAnswer
answer config list place = answer_in config (registry config list) place
