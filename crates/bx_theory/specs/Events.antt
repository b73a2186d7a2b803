-- Which publishes are a session's events, and which events are in answers.
use Rattle.std.specs.Prelude.{ℕ, ◌≡◌, ◌<◌, ◌≤◌, ◌+◌, true, false, List, [], ◌∷◌, ◌++◌, filter_map, option_map, slice_get, Some, ⊤}
use Rattle.bx_names.specs.Words.{Glob, matches, segments, is_broadcast}
use Rattle.bx_advice.specs.declared.config.Config.{Config}
use Rattle.bx_message.specs.declared.{event.Event.Event, message_kind.MessageKind.MessageKind}
use Rattle.bx_message.specs.{MessageKinds.message_kind_of, Events.event_size}
use Rattle.bx_entry.specs.declared.{entry.Entry.Entry, entry.EntryKind.TheVariants.Publish}
use Rattle.bx_entry.specs.Words.{Posted, Listed, Post, Judged, Waiting, event_of, registry, entries, PlacedAnswer, answer}
use Rattle.bx_entry.specs.Sessions.{Publication, pending_bytes, pending_count, unopened, session}
use Rattle.bx_theory.specs.Laws.{EachOf, PlacesFrom}
use Rattle.bx_theory.specs.Readings.{since_opening, unclosed, mention_by, last_of, some_overfills}

-- ---- Which publishes are events

-- A publish of `e` after the entries `before` reaches session `number`. Its channel is a broadcast
-- channel. A pattern that the session has subscribed to, and not unsubscribed from since, matches
-- the channel. The session was opened and not closed since. The session has not overflowed, and its
-- queue has room for the event.
pub record IsEvent (config : Config) (number : ℕ) (before : List Entry) (e : Event) : Type 0 where
  pub broadcast : is_broadcast e.channel ≡ true
  pub live : unclosed number (since_opening number before) ≡ true
  pub within : some_overfills config (unopened number) before ≡ false
  pub pattern : Glob
  pub in_force : last_of false (filter_map (λ (x : Entry). mention_by number pattern x.kind) before) ≡ true
  pub matching : matches pattern (segments e.channel) ≡ true
  pub room : pending_count (session config number before) < config.limits.events
  pub fits : pending_bytes (session config number before) + event_size e ≤ config.limits.bytes

-- An entry of `es`, at the place of `p`, publishes the event of `p`, which reaches session
-- `number`.
pub record GetsPublish (config : Config) (number : ℕ) (es : List Entry) (p : Publication) : Type 0 where
  pub before : List Entry
  pub entry : Entry
  pub behind : List Entry
  pub split : es ≡ before ++ entry ∷ behind
  pub place : entry.place ≡ p.place
  pub kind : entry.kind ≡ Publish p.event
  pub gets : IsEvent config number before p.event

-- Each event of a session is a publish that reached it.
abbrev pub EventsWerePublished : Type 0
EventsWerePublished = (config : Config) (number : ℕ) (es : List Entry) → EachOf (GetsPublish config number es) (session config number es).events

-- `all` begins with the `earlier` publications, followed by `p`.
pub record StandsBehind (earlier : List Publication) (p : Publication) (all : List Publication) : Type 0 where
  pub later : List Publication
  pub events : all ≡ earlier ++ p ∷ later

-- Each publish that reaches a session becomes one of its events, right after the events of the
-- earlier entries.
abbrev pub PublishesAreEvents : Type 0
PublishesAreEvents = (config : Config) (number : ℕ) (before : List Entry) (entry : Entry) (behind : List Entry) (e : Event) → entry.kind ≡ Publish e →
    IsEvent config number before e → StandsBehind (session config number before).events (record { place = entry.place; event = e }) (session config number (before ++ entry ∷ behind)).events

-- The place of each publication is less than those of all later ones.
abbrev pub Rising : List Publication → Type 0
Rising [] = ⊤
Rising (p ∷ ps) = EachOf (λ q. p.place < q.place) ps × Rising ps

-- If entries are at consecutive places, the events of a session have rising places. So they are in
-- the order of the list, and a publish is at most one of them.
abbrev pub EventsRise : Type 0
EventsRise = (config : Config) (number : ℕ) (es : List Entry) → PlacesFrom 0 es → Rising (session config number es).events

-- ---- Events in answers

-- The predicate `P` holds for each event of the list.
abbrev pub EachEvent : (Event → Type 0) → List Event → Type 0
EachEvent P [] = ⊤
EachEvent P (e ∷ es) = P e × EachEvent P es

-- An accepted publish of `list` has the event `e`, byte for byte. The event reaches the session of
-- the connect or rider at `place`.
pub record WasPublished (config : Config) (list : List Listed) (place : ℕ) (e : Event) : Type 0 where
  pub number : ℕ
  pub asked : option_map (λ (j : Judged). j.slot) (slice_get (registry config list).judged place) ≡ Some (Waiting number)
  pub source : ℕ
  pub message : Posted
  pub listed : slice_get list source ≡ Some (Post message)
  pub message_kind : message_kind_of message.message.channel ≡ MessageKind.Publish
  pub event : e ≡ event_of message.message
  pub gets : GetsPublish config number (entries config list) (record { place = source; event = e })

-- Each event in an answer is the event of an accepted publish, byte for byte. The publish reached
-- the session that is answered.
abbrev pub GivenWasPublished : Type 0
GivenWasPublished = (config : Config) (list : List Listed) (place : ℕ) (a : PlacedAnswer) → 0 < config.limits.batch →
    answer config list place ≡ Some a → EachEvent (WasPublished config list place) a.events
