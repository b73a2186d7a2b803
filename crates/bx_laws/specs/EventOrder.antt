-- One order of events for all sessions.
use Rattle.std.specs.Prelude.{ℕ, ◌≡◌, ◌<◌, ◌==◌, Bool, List, take, drop, Option, Some, None}
use Rattle.std.specs.List.{filter, filter_map, list_any}
use mathlib.Core.List.{IsPrefix}
use Rattle.bx_advice.specs.declared.config.Config.{Config}
use Rattle.bx_entry.specs.Sessions.{Publication, session}
use Rattle.bx_entry.specs.Words.{Listed, PlacedAnswer, Waiting, entries, events_of}
use Rattle.bx_entry.specs.declared.entry.{Entry.Entry, EntryKind.EntryKind}
use Rattle.bx_entry.specs.declared.entry.EntryKind.TheVariants.{Publish}
use Rattle.bx_theory.specs.Fronts.{WasGiven, slot_at}

-- The publication of an entry at `place`, if the entry is an accepted publish.
abbrev pub publication_by : ℕ → EntryKind → Option Publication
publication_by place (Publish event) = Some (record { place = place; event = event })
publication_by place _ = None

-- All accepted publishes of a list, in the order of the list.
abbrev pub publications : Config → List Listed → List Publication
publications config list = filter_map (λ (e : Entry). publication_by e.place e.kind) (entries config list)

-- The events that session `number` gets, by the list of a front.
abbrev pub events_over : Config → List Listed → ℕ → List Publication
events_over config front number = (session config number (entries config front)).events

-- Whether one of `events` was published at `place`.
abbrev pub has_place : List Publication → ℕ → Bool
has_place events place = list_any (λ (p : Publication). p.place == place) events

-- Sessions `m` and `n` get their events in one order, each as far as a front of `list` shows. The
-- fronts are `front` and `other`.
pub record IsOneOrder (config : Config) (list front other : List Listed) (m n : ℕ) : Type 0 where
  -- Each session's events are accepted publishes, in the order of the list, each once.
  pub first : events_over config front m ≡ filter (λ p. has_place (events_over config front m) p.place) (publications config list)
  pub second : events_over config other n ≡ filter (λ p. has_place (events_over config other n) p.place) (publications config list)
  -- The events that both sessions get are the same list, whichever session is asked.
  pub both : filter (λ p. has_place (events_over config other n) p.place) (events_over config front m)
      ≡ filter (λ p. has_place (events_over config front m) p.place) (events_over config other n)

-- All sessions get their events in one order: that of the accepted publishes in the list.
abbrev pub EventsInOneOrder : Type 0
EventsInOneOrder = (config : Config) (list front other : List Listed) (m n : ℕ) → IsPrefix front list → IsPrefix other list → IsOneOrder config list front other m n

-- The events of the answer `a` are consecutive events of session `number`, in the session's order.
pub record HasConsecutive (config : Config) (list : List Listed) (number : ℕ) (a : PlacedAnswer) : Type 0 where
  pub from : ℕ
  pub count : ℕ
  pub is : a.events ≡ events_of (take count (drop from (events_over config list number)))

-- Each answer to a connect or rider has consecutive events of its session. The answer may be over
-- any front of the list.
abbrev pub AnswersInOrder : Type 0
AnswersInOrder = (config : Config) (list : List Listed) (number place : ℕ) (a : PlacedAnswer) → 0 < config.limits.batch →
    slot_at config list place ≡ Some (Waiting number) → WasGiven config list place a → HasConsecutive config list number a
