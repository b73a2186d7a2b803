-- What the state of a session or of the registry means, in terms of the whole list.
use Rattle.std.specs.Prelude.{ℕ, ◌≡◌, ◌≤◌, ◌==◌, ◌&&◌, ◌||◌, not, max, is_some, is_none, Bool, true, false, List, [], ◌∷◌, ◌++◌, length, map, filter, filter_map, fold, nat_le, nat_lt, if◌then◌else◌, Option, Some, None, ⊤}
use Rattle.std.specs.List.{list_any}
use Rattle.bx_names.specs.Words.{name_fault, Glob, in_force, with_pattern}
use Rattle.bx_advice.specs.declared.{config.Config.Config, advice.Outcome.Outcome, error.Error.TheVariants.SupersededConnect}
use Rattle.bx_advice.specs.declared.advice.Outcome.TheVariants.{Connected, Disconnected, Failed}
use Rattle.bx_message.specs.{Replies.connect_reply, MessageKinds.message_kind_of}
use Rattle.bx_message.specs.declared.{message.Message.Message, message_kind.MessageKind.MessageKind, message.TextMember.TheVariants.Absent}
use Rattle.bx_entry.specs.Words.{Listed, Post, Posted, due_of, Registered, Registry, Judged, event_of, registry, entries_of, entries}
use Rattle.bx_entry.specs.Listing as messages
use Rattle.bx_entry.specs.declared.entry.{Entry.Entry, EntryKind.EntryKind}
use Rattle.bx_entry.specs.declared.entry.EntryKind.TheVariants.{Opened, Connect, Subscribe, Unsubscribe, Publish, Disconnect, Refused, Tick}
use Rattle.bx_entry.specs.Sessions.{Session, Pending, Filed, Publication, ack_given, is_live, is_hit, has_room, pending_bytes, pending_count, step, session, Closed, deadline}

-- ---- Live: opened, and not closed since

-- Whether an entry of this kind opens the session with this number.
abbrev pub opens_by : ℕ → EntryKind → Bool
opens_by number (Opened n ack) = n == number
opens_by number _ = false

-- Whether an entry of this kind closes the session with this number: its disconnect, or a tick that
-- names it.
abbrev pub closes_by : ℕ → EntryKind → Bool
closes_by number (Disconnect n) = n == number
closes_by number (Tick numbers) = list_any (λ n. n == number) numbers
closes_by number _ = false

-- Whether an entry closes the session with this number.
abbrev pub closes : ℕ → Entry → Bool
closes number e = closes_by number e.kind

-- The entries after the first one that opens the session with this number, or `None` if no entry
-- opens it.
abbrev pub since_opening : ℕ → List Entry → Option (List Entry)
since_opening number [] = None
since_opening number (e ∷ es) = if opens_by number e.kind then Some es else since_opening number es

-- Whether a session was opened, and no later entry closes it. The list has the entries after its
-- opening. It is `None` if the session was not opened.
abbrev pub unclosed : ℕ → Option (List Entry) → Bool
unclosed number None = false
unclosed number (Some es) = not (list_any (closes number) es)

-- A session is live exactly if it was opened and not closed since.
abbrev pub LiveReading : Type 0
LiveReading = (config : Config) (number : ℕ) (es : List Entry) → is_live (session config number es).stage ≡ unclosed number (since_opening number es)

-- ---- Active: last mentioned in a subscription

-- `Some true` if an entry of this kind subscribes session `number` to the pattern `p`, `Some false`
-- if it unsubscribes the session from `p`, and otherwise `None`.
abbrev pub mention_by : ℕ → Glob → EntryKind → Option Bool
mention_by number p (Subscribe n ps) = if (n == number) && in_force ps p then Some true else None
mention_by number p (Unsubscribe n ps) = if (n == number) && in_force ps p then Some false else None
mention_by number p _ = None

-- The last element, or `b` if there is none.
abbrev pub last_of : Bool → List Bool → Bool
last_of b [] = b
last_of b (c ∷ cs) = last_of c cs

-- A pattern is active exactly if a subscription mentioned it last, and the session has not
-- overflowed.
abbrev pub InForceReading : Type 0
InForceReading = (config : Config) (number : ℕ) (es : List Entry) (p : Glob) →
    in_force (session config number es).patterns p ≡ (not (session config number es).overflow && last_of false (filter_map (λ (e : Entry). mention_by number p e.kind) es))

-- ---- Held: until an entry ends the hold

-- Whether an entry of this kind, at `moment`, ends the hold of the connect `p`. An event that
-- session `s` gets ends it, and so does a newer connect or a disconnect of the session. A tick ends
-- it at or after its deadline.
abbrev pub ends_by : Config → Session → Pending → ℕ → EntryKind → Bool
ends_by config s p moment (Connect n client id acked hold) = n == s.number
ends_by config s p moment (Publish e) = is_hit s e && has_room config e s
ends_by config s p moment (Disconnect n) = n == s.number
ends_by config s p moment (Tick numbers) = nat_le (deadline p) moment
ends_by config s p moment _ = false

-- Whether the entry `e` ends the hold of the connect `p` of session `s`.
abbrev pub ends : Config → Session → Pending → Entry → Bool
ends config s p e = ends_by config s p e.moment e.kind

-- None of the entries ends the hold of the connect `p`. `s`: the session before them.
abbrev pub NoneEnds : Config → Pending → Session → List Entry → Type 0
NoneEnds config p s [] = ⊤
NoneEnds config p s (e ∷ es) = (ends config s p e ≡ false) × NoneEnds config p (step config s e) es

-- The events in the answer to a held connect, by the entry that ends the hold: the event of a
-- publish. Other entries give none.
abbrev pub ending_events : ℕ → EntryKind → List Publication
ending_events place (Publish event) = record { place = place; event = event } ∷ []
ending_events place _ = []

-- The outcome of a held connect, by the kind of the entry that ends the hold. A newer connect
-- supersedes it, and a disconnect disconnects it. With an event or a tick, it succeeds.
abbrev pub ending_outcome : EntryKind → Outcome
ending_outcome (Connect n client id acked hold) = Failed SupersededConnect
ending_outcome (Disconnect n) = Disconnected
ending_outcome _ = Connected

-- Entry `e` turns session `s` into `t`. The first answer that the entry gives is to the held
-- connect `p`. It has the event that the entry publishes, if any, and the outcome for an entry of
-- its kind. If the session acknowledges and the connect succeeds, the reply has the number of the
-- last batch.
pub record AnsweredAt (config : Config) (p : Pending) (e : Entry) (s t : Session) : Type 0 where
  pub answer : Filed
  pub others : List Filed
  pub answers : t.answers ≡ s.answers ++ answer ∷ others
  pub connect : answer.connect ≡ p.place
  pub place : answer.place ≡ e.place
  pub publications : answer.publications ≡ ending_events e.place e.kind
  pub reply : answer.reply ≡ connect_reply config p.client p.id (ending_outcome e.kind) (ack_given t.ack t.num (ending_outcome e.kind))

-- A held connect stays held until an entry ends the hold.
abbrev pub HeldReading : Type 0
HeldReading = (config : Config) (s : Session) (p : Pending) (es : List Entry) → s.held ≡ Some p → NoneEnds config p s es → (fold (step config) s es).held ≡ Some p

-- The first entry that ends the hold answers the connect.
abbrev pub EndingReading : Type 0
EndingReading = (config : Config) (s : Session) (p : Pending) (es : List Entry) (e : Entry) → s.held ≡ Some p → NoneEnds config p s es →
    ends config (fold (step config) s es) p e ≡ true → AnsweredAt config p e (fold (step config) s es) (step config (fold (step config) s es) e)

-- ---- Overflow: an earlier entry exceeded a limit

-- Whether an entry of this kind exceeds a limit of session `s`. It is a publish that a pattern of
-- the session matches, but that its queue has no room for. Or it is a subscription that results in
-- too many patterns.
abbrev pub overfills_by : Config → Session → EntryKind → Bool
overfills_by config s (Subscribe n ps) = (n == s.number) && nat_lt config.limits.patterns (length (fold with_pattern s.patterns ps))
overfills_by config s (Publish e) = is_hit s e && not (has_room config e s)
overfills_by config s _ = false

-- Whether one of the entries, applied in order to session `s`, exceeds a limit of the session. It
-- is a publish that a pattern of the session matches, but that its queue has no room for. Or it is
-- a subscription that results in too many patterns.
abbrev pub some_overfills : Config → Session → List Entry → Bool
some_overfills config s [] = false
some_overfills config s (e ∷ es) = overfills_by config s e.kind || some_overfills config (step config s e) es

-- After more entries, a session has overflowed exactly if it had overflowed before, or one of them
-- exceeds its limit of events, bytes or patterns.
abbrev pub OverflowReading : Type 0
OverflowReading = (config : Config) (s : Session) (es : List Entry) → (fold (step config) s es).overflow ≡ (s.overflow || some_overfills config s es)

-- The queue of session `s` is within its limits: the number of events, and their size in bytes.
pub record Bounded (config : Config) (s : Session) : Type 0 where
  pub events : pending_count s ≤ config.limits.events
  pub bytes : pending_bytes s ≤ config.limits.bytes

-- The queue of each session is always within the limits of events and of bytes.
abbrev pub QueueBounded : Type 0
QueueBounded = (config : Config) (number : ℕ) (es : List Entry) → Bounded config (session config number es)

-- ---- Due: the greatest moment that an accepted message set

-- Whether the sender of a message is session `number`. A rejected or sessionless message has no
-- sender.
abbrev pub is_from : ℕ → Option ℕ → Bool
is_from number None = false
is_from number (Some n) = number == n

-- The due moments that the accepted messages of session `number` set, in order.
abbrev pub given_moments : Config → ℕ → List Judged → List ℕ
given_moments config number js = map (λ (j : Judged). due_of config j.entry.moment j.hold) (filter (λ (j : Judged). is_from number j.sender) js)

-- The predicate `P` holds for each session of the list.
abbrev pub EachSession : (Registered → Type 0) → List Registered → Type 0
EachSession P [] = ⊤
EachSession P (r ∷ rs) = P r × EachSession P rs

-- The due moment of a session is the greatest that its accepted messages set. Each message sets the
-- greatest moment in the list so far, plus the time that it may be held, plus
-- `config.max_interval`.
abbrev pub DueReading : Type 0
DueReading = (config : Config) (list : List Listed) → EachSession (λ r. r.due ≡ fold max 0 (given_moments config r.number (registry config list).judged)) (registry config list).sessions

-- The registry and the entries agree on which sessions are live.
abbrev pub SameLive : Type 0
SameLive = (config : Config) (list : List Listed) → EachSession (λ r. r.live ≡ unclosed r.number (since_opening r.number (entries_of (registry config list)))) (registry config list).sessions

-- By the earlier entries, the session of an accepted message is live, unless the message is its
-- handshake. So a publish that names a session is accepted only from a live one.
abbrev pub AcceptedWhileLive : Type 0
AcceptedWhileLive = (config : Config) (list : List Listed) (before : List Judged) (j : Judged) (behind : List Judged) (number : ℕ) →
    (registry config list).judged ≡ before ++ j ∷ behind → j.sender ≡ Some number → opens_by number j.entry.kind ≡ false →
    unclosed number (since_opening number (map (λ (i : Judged). i.entry) before)) ≡ true

-- The kind of entry for a publish without a client id. Under `--anonymous`, the publish is accepted
-- if its channel is a name and it has data. Otherwise it is rejected.
abbrev pub entry_without_client : Config → Message → EntryKind
entry_without_client config m = if config.anonymous && (not (is_some (name_fault m.channel)) && not (is_none m.payload)) then Publish (event_of m) else Refused

-- The publish `m`, which has no session, turns the registry `r` into `t`. It changes no session and
-- no due moment, has no sender and is no rider.
pub record IsOfNone (config : Config) (m : Message) (r t : Registry) : Type 0 where
  pub found : Judged
  pub judged : t.judged ≡ r.judged ++ found ∷ []
  pub kind : found.entry.kind ≡ entry_without_client config m
  pub sender : found.sender ≡ None
  pub rides : found.entry.rides ≡ None
  pub sessions : t.sessions ≡ r.sessions

-- A publish without a client id is sessionless, accepted or not.
abbrev pub PublishesOfNone : Type 0
PublishesOfNone = (config : Config) (list : List Listed) (p : Posted) → message_kind_of p.message.channel ≡ MessageKind.Publish → p.message.client ≡ Absent →
    IsOfNone config p.message (registry config list) (registry config (list ++ Post p ∷ []))

-- Session `t` is closed and holds no connect. Its events and answers are those of `s`.
pub record NothingMore (s t : Session) : Type 0 where
  pub stage : t.stage ≡ Closed
  pub held : t.held ≡ None
  pub events : t.events ≡ s.events
  pub answers : t.answers ≡ s.answers

-- Nothing more happens in a closed session, whatever follows in the list.
abbrev pub ClosedIsOver : Type 0
ClosedIsOver = (config : Config) (list more : List Listed) (number : ℕ) → (session config number (entries config list)).stage ≡ Closed →
    NothingMore (session config number (entries config list)) (session config number (entries config (list ++ more)))

-- The moment of an element of the list: of the request of a message, or of a tick.
abbrev pub moment_of : Listed → ℕ
moment_of (messages.Post p) = p.moment
moment_of (messages.Tick moment) = moment

-- The clock is the greatest moment in the list, or 0 if the list is empty.
abbrev pub ClockReading : Type 0
ClockReading = (config : Config) (list : List Listed) → (registry config list).clock ≡ fold max 0 (map moment_of list)
