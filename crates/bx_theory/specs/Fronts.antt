-- What answers over the fronts of one log have: a repeated batch, and no event again.
--
-- A front of a log is a prefix of it, and may be all of it. Of two fronts that a hub's callers have
-- seen, the shorter is a prefix of the longer. So both are fronts of the longer.
use Rattle.std.specs.Prelude.{if◌then◌else◌, ℕ, ◌+◌, ◌≡◌, ◌<◌, ◌≤◌, ◌==◌, false, List, take, find, Option, Some, option_map, slice_get}
use mathlib.Core.List.{IsPrefix}
use Rattle.bx_advice.specs.declared.config.Config.{Config}
use Rattle.bx_message.specs.declared.reply.AckReply.TheVariants.{AckNumber}
use Rattle.bx_entry.specs.Sessions.{Filed, Session, batch, session}
use Rattle.bx_entry.specs.Words.{Judged, Listed, PlaceSlot, PlacedAnswer, Waiting, answer, entries, events_of, registry}
use Rattle.bx_entry.specs.declared.{entry.Entry.Entry, entry.EntryKind.TheVariants.Connect}
use Rattle.bx_theory.specs.Laws.{AllBelow, LastAnswer, Repeats}

-- ---- Answers

-- How the message at `place` is answered, if the list has it.
abbrev pub slot_at : Config → List Listed → ℕ → Option PlaceSlot
slot_at config list place = option_map (λ (j : Judged). j.slot) (slice_get (registry config list).judged place)

-- `a` is the answer to the message at `place`, over some front of the log.
pub record WasGiven (config : Config) (log : List Listed) (place : ℕ) (a : PlacedAnswer) : Type 0 where
  pub front : List Listed
  pub begins : IsPrefix front log
  pub answered : answer config front place ≡ Some a

-- `a` is `filed`, which session `number` filed for its connect or rider at `place`.
pub record IsFiled (config : Config) (log : List Listed) (number place : ℕ) (filed : Filed) (a : PlacedAnswer) : Type 0 where
  pub found : find (λ (f : Filed). f.connect == place) (session config number (entries config log)).answers ≡ Some filed
  pub is : a ≡ record { place = filed.place; events = events_of filed.publications; reply = filed.reply }

-- Session `number` after the first `n` entries of the list.
abbrev pub session_before : Config → List Listed → ℕ → ℕ → Session
session_before config list number n = session config number (take n (entries config list))

-- ---- Repeated acknowledgements

-- The entry at `place` is an accepted connect of session `number`. It acknowledges nothing new
-- while a batch is outstanding, and the session has not overflowed.
pub record AsksAgain (config : Config) (log : List Listed) (number place : ℕ) : Type 0 where
  pub entry : Entry
  pub client : List ℕ
  pub id : Option (List ℕ)
  pub acked : Option ℕ
  pub hold : ℕ
  pub here : slice_get (entries config log) place ≡ Some entry
  pub connect : entry.kind ≡ Connect number client id acked hold
  pub outstanding : 0 < (session_before config log number place).out
  pub overflow : (session_before config log number place).overflow ≡ false
  pub repeats : Repeats (session_before config log number place).num acked

-- `filed` is the answer that formed the batch which is outstanding before `place`. It is the last
-- answer of session `number` after the entry at `forming`. That entry raised the session's batch
-- number by one, and the number is still the same before `place`.
pub record FormedBy (config : Config) (log : List Listed) (number place : ℕ) (filed : Filed) : Type 0 where
  pub forming : ℕ
  pub earlier : forming < place
  pub grew : (session_before config log number (forming + 1)).num ≡ (session_before config log number forming).num + 1
  pub current : (session_before config log number (forming + 1)).num ≡ (session_before config log number place).num
  pub last : LastAnswer (session_before config log number (forming + 1)) filed

-- The connect at `place` is answered at once, with the outstanding batch and its number. The
-- session's connect at `former`, an earlier place, got the answer that formed the batch, with the
-- same number and events. Over any front of the log, an answer to `former` is `first`, and one to
-- `place` is `again`.
pub record GivenAgain (config : Config) (log : List Listed) (number place : ℕ) : Type 0 where
  pub former : ℕ
  pub earlier : former < place
  pub waits : slot_at config log former ≡ Some (Waiting number)
  pub waits_again : slot_at config log place ≡ Some (Waiting number)
  pub filed : Filed
  pub formed : FormedBy config log number place filed
  pub first : PlacedAnswer
  pub again : PlacedAnswer
  pub first_is : IsFiled config log number former filed first
  pub answered : answer config log former ≡ Some first
  pub answered_again : answer config log place ≡ Some again
  pub at_once : again.place ≡ place
  pub first_number : first.reply.ack ≡ AckNumber (session_before config log number place).num
  pub again_number : again.reply.ack ≡ AckNumber (session_before config log number place).num
  pub events : again.events ≡ first.events
  pub batch_is : again.events ≡ events_of (batch (session_before config log number place))
  pub given : (a : PlacedAnswer) → WasGiven config log former a → a ≡ first
  pub given_again : (a : PlacedAnswer) → WasGiven config log place a → a ≡ again

-- A connect that acknowledges nothing new gets the outstanding batch again: the number and the
-- events of the answer that formed the batch.
abbrev pub RepeatedConnectGetsTheSameBatch : Type 0
RepeatedConnectGetsTheSameBatch = (config : Config) (log : List Listed) (number place : ℕ) → 0 < config.limits.batch →
    AsksAgain config log number place → GivenAgain config log number place

-- ---- No event again

-- `a` and `b` are the answers that session `number` filed for its connects or riders at `place` and
-- `later`. All events of `a` were published before those of `b`, so no event is in both.
pub record GivenApart (config : Config) (log : List Listed) (number place later : ℕ) (a b : PlacedAnswer) : Type 0 where
  pub filed : Filed
  pub next : Filed
  pub filed_is : IsFiled config log number place filed a
  pub next_is : IsFiled config log number later next b
  pub apart : AllBelow filed.publications next.publications

-- No event is in two answers of a session that does not acknowledge.
abbrev pub AnswersShareNoEvent : Type 0
AnswersShareNoEvent = (config : Config) (log : List Listed) (number place later : ℕ) (a b : PlacedAnswer) → 0 < config.limits.batch →
    (session config number (entries config log)).ack ≡ false → place < later →
    slot_at config log place ≡ Some (Waiting number) → slot_at config log later ≡ Some (Waiting number) →
    WasGiven config log place a → WasGiven config log later b → GivenApart config log number place later a b

-- How many events of session `number` are never sent again, as of the entry at place `n`. Events
-- that this entry acknowledges count. If the session does not acknowledge, the events that it sends
-- at this entry do not count yet.
abbrev pub done_at : Config → List Listed → ℕ → ℕ → ℕ
done_at config list number n =
    if (session_before config list number (n + 1)).ack then (session_before config list number (n + 1)).done else (session_before config list number n).done

-- `a` is the answer that session `number` filed for its connect or rider at `place`. Each event of
-- `a` was published after every event that was already acknowledged or, if the session does not
-- acknowledge, sent. So none of those is in `a`.
pub record GivenLater (config : Config) (log : List Listed) (number place : ℕ) (a : PlacedAnswer) : Type 0 where
  pub filed : Filed
  pub filed_is : IsFiled config log number place filed a
  pub later : (n : ℕ) → n ≤ a.place → AllBelow (take (done_at config log number n) (session config number (entries config log)).events) filed.publications

-- No answer has an event that was acknowledged at its place or before or, if the session does not
-- acknowledge, sent before it.
abbrev pub AcknowledgedEventsAreNotGivenAgain : Type 0
AcknowledgedEventsAreNotGivenAgain = (config : Config) (log : List Listed) (number place : ℕ) (a : PlacedAnswer) → 0 < config.limits.batch →
    slot_at config log place ≡ Some (Waiting number) → WasGiven config log place a → GivenLater config log number place a
