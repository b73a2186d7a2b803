-- What requests through the read-only listener publish.
use Rattle.std.specs.Prelude.{ℕ, ◌⊎◌, ◌+◌, ◌≡◌, ◌<◌, ◌≤◌, true, List, ◌++◌, length, map, ⊤}
use Rattle.std.specs.List.{AllByRecursion}
use Rattle.bx_names.specs.Words.{is_broadcast}
use Rattle.bx_names.specs.{Globs.Glob, Globs.any_matches, Segments.segments}
use Rattle.bx_advice.specs.declared.config.Config.{Config}
use Rattle.bx_entry.specs.declared.{access.Access.TheVariants.ReadOnly, input.Arrival.Arrival, input.Input.Input, input.Input.TheVariants.Post, input.Input.TheVariants.Tick}
use Rattle.bx_entry.specs.Listing as lists
use Rattle.bx_entry.specs.Sessions.{session}
use Rattle.bx_entry.specs.Words.{Listed, added_by, entries, read_input, taken_in}
use Rattle.bx_theory.specs.Laws.{EachOf}

-- One of the patterns `ps` matches the channel. Without patterns, this is false.
abbrev pub IsMatched : List Glob → List ℕ → Type 0
IsMatched ps channel = any_matches ps (segments channel) ≡ true

-- What is listed is a tick, or a message. If the message is to a broadcast channel, one of the
-- patterns `ps` matches the channel.
abbrev pub IsAllowed : List Glob → Listed → Type 0
IsAllowed ps (lists.Post posted) = is_broadcast posted.message.channel ≡ true → IsMatched ps posted.message.channel
IsAllowed ps (lists.Tick moment) = ⊤

-- ---- One request

-- `place` is none of the `count` places from `first` on.
abbrev pub IsOutside : ℕ → ℕ → ℕ → Type 0
IsOutside first count place = (place < first) ⊎ (first + count ≤ place)

-- Each message of `added` to a broadcast channel is to one that a pattern matches. If a list has
-- `added` between `before` and `after`, the same holds for each event of a session that was
-- published at a place of `added`.
pub record AddsOnlyAllowed (ps : List Glob) (config : Config) (before added after : List Listed) : Type 0 where
  pub messages : AllByRecursion (IsAllowed ps) added
  pub events : (number : ℕ) → EachOf (λ p. IsOutside (length before) (length added) p.place ⊎ IsMatched ps p.event.channel) (session config number (entries config (before ++ (added ++ after)))).events

-- Whatever else is in the list, a request through the read-only listener with the patterns `ps`
-- publishes only to channels that one of them matches. Without patterns, it publishes nothing.
abbrev pub ReadOnlyRequestPublishesAsAllowed : Type 0
ReadOnlyRequestPublishesAsAllowed = (config : Config) (ps : List Glob) (a : Arrival) (before after : List Listed) → a.access ≡ ReadOnly ps →
    AddsOnlyAllowed ps config before (added_by (read_input (Post a))) after

-- ---- Only such requests

-- The input is a request through the read-only listener with the patterns `ps`, or a tick.
abbrev pub IsOfReaders : List Glob → Input → Type 0
IsOfReaders ps (Post a) = a.access ≡ ReadOnly ps
IsOfReaders ps (Tick moment) = ⊤

-- Each message of `list` to a broadcast channel, and each event of a session, is to a channel that
-- a pattern matches.
pub record HasOnlyAllowed (ps : List Glob) (config : Config) (list : List Listed) : Type 0 where
  pub messages : AllByRecursion (IsAllowed ps) list
  pub events : (number : ℕ) → EachOf (λ p. IsMatched ps p.event.channel) (session config number (entries config list)).events

-- If all requests of a run come through the read-only listener with the patterns `ps`, all messages
-- to broadcast channels and all events are to channels that one of them matches. Without patterns,
-- there are none.
abbrev pub ReadersPublishAsAllowed : Type 0
ReadersPublishAsAllowed = (config : Config) (ps : List Glob) (inputs : List Input) → AllByRecursion (IsOfReaders ps) inputs → HasOnlyAllowed ps config (taken_in (map read_input inputs)).list
