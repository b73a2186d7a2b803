-- One session, over all entries: its patterns, events, held connect and answers.
use Rattle.std.specs.Prelude.{ℕ, ◌+◌, ◌==◌, ◌&&◌, not, Bool, true, false, List, [], ◌∷◌, ◌++◌, length, take, fold, nat_lt, nat_le, if◌then◌else◌, Option, Some, None}
use Rattle.std.specs.List.{list_any}
use Rattle.bx_names.specs.Words.{Glob, any_matches, with_pattern, without_pattern, segments, is_broadcast}
use Rattle.bx_advice.specs.declared.{error.Error.TheVariants.SupersededConnect, error.Error.TheVariants.QueueOverflow, config.Config.Config, advice.Outcome.Outcome}
use Rattle.bx_advice.specs.declared.advice.Outcome.TheVariants.{Connected, Disconnected, Failed}
use Rattle.bx_message.specs.declared.{event.Event.Event, reply.Reply.Reply, reply.AckReply.AckReply, reply.AckReply.TheVariants.NoAck, reply.AckReply.TheVariants.AckNumber}
use Rattle.bx_message.specs.Replies.{connect_reply}
use Rattle.bx_entry.specs.declared.entry.{Entry.Entry, EntryKind.EntryKind, Rider.Rider}
use Rattle.bx_entry.specs.declared.entry.EntryKind.TheVariants.{Connect, Subscribe, Unsubscribe, Publish, Disconnect, Refused, Tick}
use Rattle.bx_entry.specs.declared.entry.EntryKind.TheVariants as entries
use Rattle.bx_entry.specs.Windows as windows
use Rattle.bx_entry.specs.Windows.{Window, acknowledges, bytes_of, emptied, forms, outstanding}
pub use Rattle.bx_entry.specs.Windows.{Publication}

-- ---- State

-- A connect that is not answered yet, with the moment of its entry and how long it may be held.
pub record Pending : Type 0 where
  pub place : ℕ
  pub client : List ℕ
  pub id : Option (List ℕ)
  pub moment : ℕ
  pub hold : ℕ

-- The answer to the connect or rider at place `connect`, given by the entry at `place`.
pub record Filed : Type 0 where
  pub connect : ℕ
  pub place : ℕ
  pub publications : List Publication
  pub reply : Reply

-- Whether a session is unopened, live or closed.
pub data Stage : Type 0 where
  Unopened : Stage
  Live : Stage
  Closed : Stage

-- A session. `ack`: whether it acknowledges batches. The first `out` events of its `queue` are the
-- outstanding batch, and the others wait. `num` is the number of the last batch. No rule reads its
-- history: all `events` that it received, how many of them are never sent again (`done`), and all
-- its `answers`.
pub record Session : Type 0 where
  pub number : ℕ
  pub stage : Stage
  pub ack : Bool
  pub overflow : Bool
  pub held : Option Pending
  pub patterns : List Glob
  pub queue : List Publication
  pub out : ℕ
  pub num : ℕ
  pub events : List Publication
  pub done : ℕ
  pub answers : List Filed

-- Session `number` before it is opened: without patterns, events, batches and answers.
abbrev pub unopened : ℕ → Session
unopened number = record {
  number = number;
  stage = Unopened;
  ack = false;
  overflow = false;
  held = None;
  patterns = [];
  queue = [];
  out = 0;
  num = 0;
  events = [];
  done = 0;
  answers = [];
}

-- Whether a session in this stage is live.
abbrev pub is_live : Stage → Bool
is_live Unopened = false
is_live Live = true
is_live Closed = false

-- How many events wait or are outstanding.
abbrev pub pending_count : Session → ℕ
pending_count s = length s.queue

-- The size of the JSON texts of all waiting and outstanding events, in bytes.
abbrev pub pending_bytes : Session → ℕ
pending_bytes s = bytes_of s.queue

-- The session's queue, how many of its events are outstanding, and the number of the last batch.
abbrev pub window_in : Session → Window
window_in s = record { queue = s.queue; out = s.out; number = s.num }

-- The session `s` with the queue and batches of `w`.
abbrev pub with_window : Window → Session → Session
with_window w s = record s { queue = w.queue; out = w.out; num = w.number }

-- The events of the outstanding batch, oldest first. There are none if no batch is outstanding.
abbrev pub batch : Session → List Publication
batch s = outstanding (window_in s)

-- ---- Answers

-- The acknowledgement in the reply to a connect: the number of the last batch, if the connect
-- succeeds and the session acknowledges.
abbrev pub ack_given : Bool → ℕ → Outcome → AckReply
ack_given ack num Connected = if ack then AckNumber num else NoAck
ack_given ack num Disconnected = if ack then AckNumber num else NoAck
ack_given ack num _ = NoAck

-- The answer that the entry at `place` gives to connect `p`: the events `given`, and a reply with
-- `outcome`.
abbrev pub filing : Config → Pending → ℕ → List Publication → Outcome → Session → Filed
filing config p place given outcome s = record { connect = p.place; place = place; publications = given; reply = connect_reply config p.client p.id outcome (ack_given s.ack s.num outcome) }

-- The session `s` after the entry at `place` answers connect `p` with the events `given` and with
-- `outcome`.
abbrev pub answered : Config → Pending → ℕ → List Publication → Outcome → Session → Session
answered config p place given outcome s = record s { answers = s.answers ++ filing config p place given outcome s ∷ [] }

-- The session `s` without its held connect, if any.
abbrev pub unheld : Session → Session
unheld s = record s { held = None }

-- The session `s` after the entry at `place` answers this held connect, if any, without events and
-- with `outcome`. The connect is then not held.
abbrev pub released_from : Config → ℕ → Outcome → Session → Option Pending → Session
released_from config place outcome s None = s
released_from config place outcome s (Some p) = answered config p place [] outcome (unheld s)

-- The session `s` after the entry at `place` answers the held connect, if any, without events and
-- with `outcome`.
abbrev pub released : Config → ℕ → Outcome → Session → Session
released config place outcome s = released_from config place outcome s s.held

-- ---- Connects

-- The session after its outstanding batch is acknowledged and dropped.
abbrev pub cleared : Session → Session
cleared s = record (with_window (windows.cleared (window_in s)) s) { done = s.done + s.out }

-- The session `s` after a connect that acknowledges this number, if any. The outstanding batch is
-- dropped if the session acknowledges batches and the number is at least that of the last batch.
abbrev pub acknowledged : Option ℕ → Session → Session
acknowledged None s = s
acknowledged (Some n) s = if s.ack && acknowledges n (window_in s) then cleared s else s

-- How many events a connect gets if no batch is outstanding: all of the queue, up to the size of a
-- batch.
abbrev pub portion : Config → Session → ℕ
portion config s = windows.portion config.limits.batch (window_in s)

-- The session `s` with its first `count` events as the next batch, which is then outstanding.
abbrev pub with_batch : ℕ → Session → Session
with_batch count s = with_window (windows.with_batch count (window_in s)) s

-- The session `s` after it forms the next batch from waiting events. Unchanged if a batch is
-- outstanding or no events wait.
abbrev pub formed : Config → Session → Session
formed config s = if forms config.limits.batch (window_in s) then with_batch (portion config s) s else s

-- The session `s` after its first `count` events are sent without a batch and dropped.
abbrev pub forgotten : ℕ → Session → Session
forgotten count s = record (with_window (windows.forgotten count (window_in s)) s) { done = s.done + count }

-- The session `s` after it sends the events that a connect gets. They are then the outstanding
-- batch or, if the session does not acknowledge, dropped.
abbrev pub gives : Config → Session → Session
gives config s = if s.ack then formed config s else forgotten (portion config s) s

-- The events that a connect gets: the outstanding or the next batch. If the session does not
-- acknowledge: its first events, up to the size of a batch.
abbrev pub given : Config → Session → List Publication
given config s = if s.ack then batch (formed config s) else take (portion config s) s.queue

-- The session `s` with `p` as its held connect.
abbrev pub holding : Pending → Session → Session
holding p s = record s { held = Some p }

-- The session `s` after connect `p`, if there are no events to send. The connect is held, if it may
-- be, and otherwise answered.
abbrev pub idle : Config → Pending → Session → Session
idle config p s = if p.hold == 0 then answered config p p.place [] Connected s else holding p s

-- The session `s` after connect `p`, which is answered at once if there are events to send. If
-- there are none, it is held or, if it may not be held, answered.
abbrev pub answered_or_held : Config → Pending → Session → Session
answered_or_held config p s =
    if length (given config s) == 0 then idle config p s
    else answered config p p.place (given config s) Connected (gives config s)

-- The session `s` after connect `p`, which acknowledges `acked` and is then answered or held. If
-- `overflow` is true, the connect fails instead.
abbrev pub admitted : Config → Pending → Option ℕ → Bool → Session → Session
admitted config p acked overflow s =
    if overflow then answered config p p.place [] (Failed QueueOverflow) s
    else answered_or_held config p (acknowledged acked s)

-- The session `s` after a held connect, if any, fails as superseded, and connect `p` is answered or
-- held. `acked`: the number that `p` acknowledges, if any. If `s` has overflowed, `p` fails.
abbrev pub connected : Config → Pending → Option ℕ → Session → Session
connected config p acked s = admitted config p acked s.overflow (released config p.place (Failed SupersededConnect) s)

-- ---- Overflow and patterns

-- The session `s` after it overflows: without patterns and events, and marked as overflowed.
abbrev pub overflowed : Session → Session
overflowed s = record (with_window (emptied (window_in s)) s) { overflow = true; patterns = [] }

-- The session `s` with `patterns` as its active patterns, or overflowed if they exceed the limit.
abbrev pub with_patterns : Config → List Glob → Session → Session
with_patterns config patterns s = if nat_lt config.limits.patterns (length patterns) then overflowed s else record s { patterns = patterns }

-- The session `s` after a subscription to `ps`, which are added. Unchanged if `s` has overflowed.
abbrev pub subscribed : Config → List Glob → Session → Session
subscribed config ps s = if s.overflow then s else with_patterns config (fold with_pattern s.patterns ps) s

-- The session `s` after an unsubscription from `ps`, which are removed.
abbrev pub unsubscribed : List Glob → Session → Session
unsubscribed ps s = record s { patterns = fold without_pattern s.patterns ps }

-- ---- Events

-- Whether session `s` receives a publish of event `e`. The session must be live and not overflowed,
-- and one of its patterns must match the event's channel, a broadcast channel.
abbrev pub is_hit : Session → Event → Bool
is_hit s e = is_live s.stage && not s.overflow && is_broadcast e.channel && any_matches s.patterns (segments e.channel)

-- Whether the queue of `s` has room for event `e` within the limits of `config`.
abbrev pub has_room : Config → Event → Session → Bool
has_room config e s = windows.has_room config.limits.events config.limits.bytes e (window_in s)

-- The session `s` after its first event is sent: as the next batch or, if the session does not
-- acknowledge, without a batch and dropped.
abbrev pub gives_one : Session → Session
gives_one s = if s.ack then with_batch 1 s else forgotten 1 s

-- The session `s` after this held connect, if any, is answered with event `e`, which is already
-- queued.
abbrev pub delivered_to : Config → Publication → Session → Option Pending → Session
delivered_to config e s None = s
delivered_to config e s (Some p) = answered config p e.place (e ∷ []) Connected (gives_one (unheld s))

-- The session `s` with event `e` appended to its queue and to its history.
abbrev pub with_event : Publication → Session → Session
with_event e s = record (with_window (windows.with_event e (window_in s)) s) { events = s.events ++ e ∷ [] }

-- The session `s` after event `e` is queued and, if a connect is held, sent as the answer to that
-- connect.
abbrev pub delivered : Config → Publication → Session → Session
delivered config e s = delivered_to config e (with_event e s) s.held

-- The session `s` after it receives event `e`. If the queue has no room for the event, the session
-- overflows.
abbrev pub received : Config → Publication → Session → Session
received config e s = if has_room config e.event s then delivered config e s else overflowed s

-- The session `s` after publish `e`. The session receives the event if `is_hit` is true: it is live
-- and not overflowed, and one of its patterns matches the broadcast channel.
abbrev pub published : Config → Publication → Session → Session
published config e s = if is_hit s e.event then received config e s else s

-- ---- Ends

-- The moment at which the hold of a connect ends.
abbrev pub deadline : Pending → ℕ
deadline p = p.moment + p.hold

-- Whether the hold of a connect has ended by `moment`: its deadline is not later.
abbrev pub ends_by : ℕ → Pending → Bool
ends_by moment p = nat_le (deadline p) moment

-- The session `s` after a tick at `place`, which answers this held connect, if any, if its hold has
-- ended by `moment`.
abbrev pub expired_from : Config → ℕ → ℕ → Session → Option Pending → Session
expired_from config place moment s None = s
expired_from config place moment s (Some p) = if ends_by moment p then released config place Connected s else s

-- The session `s` after a tick at `place`, which answers the held connect if the hold has ended by
-- `moment`.
abbrev pub expired : Config → ℕ → ℕ → Session → Session
expired config place moment s = expired_from config place moment s s.held

-- The stage of a session after it ends: a live session becomes closed, and any other does not
-- change.
abbrev pub stage_after : Stage → Stage
stage_after Unopened = Unopened
stage_after Live = Closed
stage_after Closed = Closed

-- The session `s` after it ends: closed if it was live, and otherwise unchanged.
abbrev pub ended : Session → Session
ended s = record s { stage = stage_after s.stage }

-- The session `s` after a tick closes the sessions with these `numbers`.
abbrev pub closed_by : List ℕ → Session → Session
closed_by numbers s = if list_any (λ n. n == s.number) numbers then ended s else s

-- The session `s` after a disconnect at `place`, which answers the held connect and closes the
-- session.
abbrev pub disconnected : Config → ℕ → Session → Session
disconnected config place s = ended (released config place Disconnected s)

-- The session `s`, in this stage, after a handshake. It becomes live only if it is unopened. `ack`:
-- whether it then acknowledges batches.
abbrev pub begun : Bool → Session → Stage → Session
begun ack s Unopened = record s { stage = Live; ack = ack }
begun ack s Live = s
begun ack s Closed = s

-- ---- Riders

-- How many events a rider gets: those that wait, up to one batch. In an acknowledging session, it
-- gets none.
abbrev pub ride_portion : Config → Session → ℕ
ride_portion config s = if s.ack then 0 else portion config s

-- The answer to the rider at `place`: the waiting events that it gets, and `reply`.
abbrev pub ride_filing : Config → ℕ → Reply → Session → Filed
ride_filing config place reply s = record { connect = place; place = place; publications = take (ride_portion config s) s.queue; reply = reply }

-- The session `s` after the rider at `place` is answered with `reply` and waiting events, which are
-- then dropped.
abbrev pub ridden : Config → ℕ → Reply → Session → Session
ridden config place reply s = record (forgotten (ride_portion config s) s) { answers = s.answers ++ ride_filing config place reply s ∷ [] }

-- Whether the session is live and the rider belongs to it.
abbrev pub is_riding : Rider → Session → Bool
is_riding rider s = (rider.session == s.number) && is_live s.stage

-- The session `s` after the rider at `place`, if any, is answered. Unchanged if `s` is not live or
-- the rider is of another session.
abbrev pub ridden_by : Config → ℕ → Session → Option Rider → Session
ridden_by config place s None = s
ridden_by config place s (Some rider) = if is_riding rider s then ridden config place rider.reply s else s

-- The rider of an entry, if any. Only a subscription, an unsubscription or a publish can be one.
abbrev pub rider_of : EntryKind → Option Rider → Option Rider
rider_of (Subscribe n ps) rides = rides
rider_of (Unsubscribe n ps) rides = rides
rider_of (Publish e) rides = rides
rider_of _ rides = None

-- ---- Entries

-- The session `s` after an entry of this kind at `place`, when the clock is at `moment`. The
-- entry's rider is left out.
abbrev pub step_by : Config → ℕ → ℕ → Session → EntryKind → Session
step_by config place moment s (entries.Opened n ack) = if n == s.number then begun ack s s.stage else s
step_by config place moment s (Connect n client id acked hold) =
    if n == s.number then connected config (record { place = place; client = client; id = id; moment = moment; hold = hold }) acked s else s
step_by config place moment s (Subscribe n ps) = if n == s.number then subscribed config ps s else s
step_by config place moment s (Unsubscribe n ps) = if n == s.number then unsubscribed ps s else s
step_by config place moment s (Publish e) = published config (record { place = place; event = e }) s
step_by config place moment s (Disconnect n) = if n == s.number then disconnected config place s else s
step_by config place moment s Refused = s
step_by config place moment s (Tick numbers) = closed_by numbers (expired config place moment s)

-- The session `s` after entry `e`. If the entry has a rider, the rider is answered last.
abbrev pub step : Config → Session → Entry → Session
step config s e = ridden_by config e.place (step_by config e.place e.moment s e.kind) (rider_of e.kind e.rides)

-- Session `number` after the entries `es`, which are applied in order.
abbrev pub session : Config → ℕ → List Entry → Session
session config number es = fold (step config) (unopened number) es
