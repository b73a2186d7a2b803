-- The registry: which sessions are live, which messages are rejected, and the entry at each place.
use Rattle.std.specs.Prelude.{ℕ, zero, suc, ◌+◌, ◌/◌, ◌%◌, ◌==◌, ◌&&◌, ◌||◌, not, min, max, Bool, true, false, List, [], ◌∷◌, ◌++◌, length, map, filter, find, fold, nat_lt, nat_le, nat_eq, codes, if◌then◌else◌, Option, Some, None, is_some, is_none, unwrap_or, option_map}
use Rattle.std.specs.{List.list_any, List.starts_with, Str.bytes_eq, Char.digit_char}
use Rattle.bx_names.specs.Words.{first_case, name_fault, pattern_fault, Glob, glob_of, segments, is_meta, is_service}
use Rattle.bx_message.specs.declared.{message.Message.Message, message.TextMember.TextMember, message.AckMember.AckMember, message_kind.MessageKind.MessageKind, event.Event.Event, reply.Reply.Reply}
use Rattle.bx_message.specs.declared.message.TextMember.TheVariants.{Absent, NotText, Text}
use Rattle.bx_message.specs.declared.message.AckMember.TheVariants.{NoAck, AckTrue, AckNumber}
use Rattle.bx_message.specs.MessageKinds.{message_kind_of, is_connect, is_handshake}
use Rattle.bx_entry.specs.Listing.{Posted, Listed, Post}
use Rattle.bx_entry.specs.Listing as messages
use Rattle.bx_advice.specs.declared.{error.Error.Error, config.Config.Config, advice.Outcome.TheVariants.Done, advice.Outcome.TheVariants.Failed}
use Rattle.bx_advice.specs.declared.error.Error.TheVariants.{UnknownMetaChannel, SecondHandshake, UnsupportedVersion, NoSupportedConnectionType, TooManySessions, NoClientId, UnknownClient, UnknownConnectionType, InvalidChannel, InvalidPattern, TooManyPatterns, SubscriptionDenied, MissingSubscription, MissingData}
use Rattle.bx_advice.specs.declared.advice.Outcome.TheVariants as advice
use Rattle.bx_message.specs.Replies.{reply_to}
use Rattle.bx_message.specs.declared.reply.AckReply.TheVariants as replies
use Rattle.bx_entry.specs.declared.{entry.Entry.Entry, entry.EntryKind.EntryKind, entry.Rider.Rider, senders.Senders.Senders}
use Rattle.bx_entry.specs.declared.entry.EntryKind.TheVariants.{Opened, Connect, Subscribe, Unsubscribe, Publish, Disconnect, Refused, Tick}
use Rattle.bx_entry.specs.declared.senders.Senders.TheVariants.{NoneYet, Only, Mixed}

-- ---- State

-- A session that was opened, with its client id. `ack`: whether it acknowledges batches. `due`: the
-- moment after which a tick closes it. `live`: whether it is not closed yet.
pub record Registered : Type 0 where
  pub number : ℕ
  pub client : List ℕ
  pub ack : Bool
  pub due : ℕ
  pub live : Bool

-- How an element is answered: at once by a reply, by its session (a connect or a rider), or not at
-- all (a tick).
pub data PlaceSlot : Type 0 where
  Ready : (reply : Reply) → PlaceSlot
  Waiting : (session : ℕ) → PlaceSlot
  NoSlot : PlaceSlot

-- The result of judging one element: its entry and its slot. `sender`: the session of an accepted
-- message, if any. `hold`: how long the message may be held, in milliseconds.
pub record Judged : Type 0 where
  pub entry : Entry
  pub sender : Option ℕ
  pub hold : ℕ
  pub slot : PlaceSlot

-- The greatest moment so far, all sessions ever opened, in order, the senders of the current
-- request so far, and the result at each place.
pub record Registry : Type 0 where
  pub clock : ℕ
  pub sessions : List Registered
  pub senders : Senders
  pub judged : List Judged

-- The registry of an empty list.
abbrev pub empty_registry : Registry
empty_registry = record { clock = 0; sessions = []; senders = NoneYet; judged = [] }

-- What the rules read: the sessions, how many were ever opened, and the senders of the current
-- request so far.
pub record State : Type 0 where
  pub sessions : List Registered
  pub opened : ℕ
  pub senders : Senders

-- The verdict on an element: the state after it, and its result without place and moment. The
-- result has what its entry does (`kind`), its rider, its session, its hold and its slot.
pub record Verdict : Type 0 where
  pub state : State
  pub kind : EntryKind
  pub rides : Option Rider
  pub sender : Option ℕ
  pub hold : ℕ
  pub slot : PlaceSlot

-- ---- Client ids

-- The last `width` hexadecimal digits of `n`, in lower case.
abbrev pub hex_digits : ℕ → ℕ → List ℕ
hex_digits zero n = []
hex_digits (suc width) n = hex_digits width (n / 16) ++ digit_char (n % 16) ∷ []

-- A client id: 32 digits of the nonce, then 16 of the session's number.
abbrev pub client_id : ℕ → ℕ → List ℕ
client_id nonce number = hex_digits 32 nonce ++ hex_digits 16 number

-- ---- Live sessions

-- The live session with this client id, if any.
abbrev pub live_with_id : List Registered → List ℕ → Option Registered
live_with_id sessions client = find (λ r. r.live && bytes_eq r.client client) sessions

-- How many sessions are live.
abbrev pub count_live : List Registered → ℕ
count_live sessions = length (filter (λ r. r.live) sessions)

-- The live session that a message's `clientId` names, if any.
abbrev pub sender_of : List Registered → TextMember → Option Registered
sender_of sessions Absent = None
sender_of sessions NotText = None
sender_of sessions (Text client) = live_with_id sessions client

-- ---- Errors of messages

-- Whether a member of a message is a string.
abbrev pub is_text : TextMember → Bool
is_text Absent = false
is_text NotText = false
is_text (Text text) = true

-- Whether a version is the string `1` or one that begins with `1.`.
abbrev pub is_version : TextMember → Bool
is_version Absent = false
is_version NotText = false
is_version (Text text) = bytes_eq text (codes "1") || starts_with nat_eq text (codes "1.")

-- Whether a connection type is `long-polling` or `callback-polling`.
abbrev pub is_polling : List ℕ → Bool
is_polling text = bytes_eq text (codes "long-polling") || bytes_eq text (codes "callback-polling")

-- Whether a connect's connection type is supported or absent.
abbrev pub is_connection : TextMember → Bool
is_connection Absent = true
is_connection NotText = false
is_connection (Text text) = is_polling text

-- The errors of a handshake in order, each with whether it applies.
abbrev pub handshake_cases : Config → List Registered → Posted → List (Bool × Error)
handshake_cases config sessions p =
    (p.second, SecondHandshake)
    ∷ (not (is_version p.message.version), UnsupportedVersion)
    ∷ (not (list_any is_polling p.message.supported), NoSupportedConnectionType)
    ∷ (nat_le config.limits.sessions (count_live sessions), TooManySessions)
    ∷ []

-- Whether a publish needs a session. It does not if it has no client id and `--anonymous` is set.
abbrev pub needs_session : Config → TextMember → Bool
needs_session config Absent = not config.anonymous
needs_session config NotText = true
needs_session config (Text client) = true

-- The errors of a message's client id in order, each with whether it applies: the id is not a
-- string, or it names no live session. `needed`: whether the message needs a session. If not,
-- neither applies.
abbrev pub client_cases : Bool → List Registered → Message → List (Bool × Error)
client_cases needed sessions m =
    (needed && not (is_text m.client), NoClientId)
    ∷ (needed && is_none (sender_of sessions m.client), UnknownClient)
    ∷ []

-- The error of a connect that has a connection type that is not supported, with whether it applies.
abbrev pub connect_cases : Message → List (Bool × Error)
connect_cases m = (not (is_connection m.connection), UnknownConnectionType) ∷ []

-- The errors of a message's `subscription` in order, each with whether it applies.
abbrev pub subscription_cases : Config → Message → List (Bool × Error)
subscription_cases config m =
    (list_any (λ text. is_some (pattern_fault text)) m.texts, InvalidPattern)
    ∷ (nat_lt config.limits.texts (length m.texts), TooManyPatterns)
    ∷ (list_any is_meta m.texts, SubscriptionDenied)
    ∷ (not m.listed, MissingSubscription)
    ∷ []

-- The errors of a publish's channel and data in order, each with whether it applies.
abbrev pub publish_cases : Message → List (Bool × Error)
publish_cases m =
    (is_some (name_fault m.channel), InvalidChannel)
    ∷ (is_none m.payload, MissingData)
    ∷ []

-- All errors of a message of this kind in the order in which they are tested, each with whether it
-- applies.
abbrev pub cases_of : Config → List Registered → Posted → MessageKind → List (Bool × Error)
cases_of config sessions p MessageKind.Handshake = handshake_cases config sessions p
cases_of config sessions p MessageKind.Connect = client_cases true sessions p.message ++ connect_cases p.message
cases_of config sessions p MessageKind.Subscribe = client_cases true sessions p.message ++ subscription_cases config p.message
cases_of config sessions p MessageKind.Unsubscribe = client_cases true sessions p.message ++ subscription_cases config p.message
cases_of config sessions p MessageKind.Disconnect = client_cases true sessions p.message
cases_of config sessions p MessageKind.Publish = client_cases (needs_session config p.message.client) sessions p.message ++ publish_cases p.message
cases_of config sessions p MessageKind.UnknownMeta = (true, UnknownMetaChannel) ∷ []

-- The error of a message: the first that applies. A message without an error is accepted.
abbrev pub refusal : Config → List Registered → Posted → Option Error
refusal config sessions p = first_case (cases_of config sessions p (message_kind_of p.message.channel))

-- ---- Accepted messages

-- How long a message may be held, in milliseconds. A connect that is alone in its request may be
-- held for the server's timeout or, if smaller, the timeout in its `advice`. Other messages are not
-- held.
abbrev pub hold_of : Config → Posted → ℕ
hold_of config p = if p.sole && is_connect p.message then min config.timeout (unwrap_or p.message.timeout config.timeout) else 0

-- The due moment that an accepted message at `moment` sets, if it may be held for `hold`
-- milliseconds: `config.max_interval` after the end of the hold.
abbrev pub due_of : Config → ℕ → ℕ → ℕ
due_of config moment hold = moment + hold + config.max_interval

-- The sessions after the due moment of session `number` becomes `due`, unless it is already later.
abbrev pub extended : ℕ → ℕ → List Registered → List Registered
extended number due sessions = map (λ (r : Registered). if r.number == number then record r { due = max r.due due } else r) sessions

-- The sessions after session `number` is closed.
abbrev pub closed : ℕ → List Registered → List Registered
closed number sessions = map (λ (r : Registered). if r.number == number then record r { live = false } else r) sessions

-- Whether a tick at `moment` closes a session: the session is live and was due before `moment`.
abbrev pub is_overdue : ℕ → Registered → Bool
is_overdue moment r = r.live && nat_lt r.due moment

-- The sessions after a tick at `moment` closes the overdue ones.
abbrev pub overdue_closed : ℕ → List Registered → List Registered
overdue_closed moment sessions = map (λ (r : Registered). if is_overdue moment r then record r { live = false } else r) sessions

-- The numbers of the sessions that a tick at `moment` closes, in the order of `sessions`.
abbrev pub overdue : ℕ → List Registered → List ℕ
overdue moment sessions = map (λ (r : Registered). r.number) (filter (is_overdue moment) sessions)

-- Whether a handshake with this `ack` opens a session that acknowledges batches: only `true` does.
abbrev pub is_ack : AckMember → Bool
is_ack NoAck = false
is_ack AckTrue = true
is_ack (AckNumber number) = false

-- The number of the batch that a connect with this `ack` acknowledges, if any.
abbrev pub acked_by : AckMember → Option ℕ
acked_by NoAck = None
acked_by AckTrue = None
acked_by (AckNumber number) = Some number

-- The patterns of a subscription or an unsubscription, except those of service channels.
abbrev pub patterns_of : Message → List Glob
patterns_of m = map (λ text. glob_of (segments text)) (filter (λ text. not (is_service text)) m.texts)

-- The event of a publish. It does not have the client id of the publisher.
abbrev pub event_of : Message → Event
event_of m = record { channel = m.channel; payload = unwrap_or m.payload []; id = m.id }

-- ---- Riders

-- The senders after one more accepted message, which comes from session `number`.
abbrev pub joined : Senders → ℕ → Senders
joined NoneYet number = Only number
joined (Only other) number = if other == number then Only other else Mixed
joined Mixed number = Mixed

-- The senders of the current request after message `p`: `senders`, or none yet if `p` is the last
-- message of its request.
abbrev pub senders_after : Posted → Senders → Senders
senders_after p senders = if p.last then NoneYet else senders

-- Whether some messages were judged, all were accepted, and all come from one session.
abbrev pub is_one : Senders → Bool
is_one NoneYet = false
is_one (Only number) = true
is_one Mixed = false

-- Whether a message of this kind may be a rider, with a reply that carries waiting events.
abbrev pub may_ride : MessageKind → Bool
may_ride MessageKind.Subscribe = true
may_ride MessageKind.Unsubscribe = true
may_ride MessageKind.Publish = true
may_ride _ = false

-- Whether an accepted message of session `s` is a rider. `--ride` is set, `s` does not acknowledge,
-- and the message may ride and ends its request. All messages of the request are accepted and come
-- from `s`, and none is a handshake.
abbrev pub is_rider : Config → Senders → MessageKind → Posted → Registered → Bool
is_rider config senders message_kind p s = config.ride && (p.last && (not s.ack && (is_one (joined senders s.number) && may_ride message_kind)))

-- The rider of session `number` with the reply of a `Ready` slot, if the flag is true. There is
-- none for any other slot.
abbrev pub rider_for : Bool → ℕ → PlaceSlot → Option Rider
rider_for true number (Ready reply) = Some (record { session = number; reply = reply })
rider_for true number (Waiting session) = None
rider_for true number NoSlot = None
rider_for false number slot = None

-- The slot of a message: `slot`, unless the message is a rider. A rider waits for the answer of its
-- session.
abbrev pub slot_with : Option Rider → PlaceSlot → PlaceSlot
slot_with None slot = slot
slot_with (Some rider) slot = Waiting rider.session

-- ---- Verdicts

-- The verdict on a rejected message, which changes no session and gets its error at once.
abbrev pub refused : Config → State → Posted → Error → Option Registered → Verdict
refused config state p error sender = record {
  state = record state { senders = senders_after p Mixed };
  kind = Refused;
  rides = None;
  sender = None;
  hold = 0;
  slot = Ready (reply_to config (message_kind_of p.message.channel) p.message (option_map (λ (s : Registered). s.client) sender) (Failed error) replies.NoAck);
}

-- Session `number`, which handshake `p` opens when the clock is at `moment`.
abbrev pub newcomer : Config → ℕ → Posted → ℕ → Registered
newcomer config moment p number =
    record { number = number; client = client_id p.nonce number; ack = is_ack p.message.ack; due = due_of config moment 0; live = true }

-- The verdict on an accepted handshake, which opens session `number` and is answered at once.
abbrev pub opened : Config → State → ℕ → Posted → ℕ → Verdict
opened config state moment p number = record {
  state = record { sessions = state.sessions ++ newcomer config moment p number ∷ []; opened = number; senders = senders_after p Mixed };
  kind = Opened number (is_ack p.message.ack);
  rides = None;
  sender = Some number;
  hold = 0;
  slot = Ready (reply_to config MessageKind.Handshake p.message (Some (client_id p.nonce number)) advice.Opened (if is_ack p.message.ack then replies.AckTrue else replies.NoAck));
}

-- The kind of entry for an accepted message of a live session. No message reaches the cases of
-- handshakes and unknown meta channels.
abbrev pub kind_for : MessageKind → Posted → Registered → ℕ → EntryKind
kind_for MessageKind.Handshake p s hold = Refused
kind_for MessageKind.Connect p s hold = Connect s.number s.client p.message.id (acked_by p.message.ack) hold
kind_for MessageKind.Subscribe p s hold = Subscribe s.number (patterns_of p.message)
kind_for MessageKind.Unsubscribe p s hold = Unsubscribe s.number (patterns_of p.message)
kind_for MessageKind.Disconnect p s hold = Disconnect s.number
kind_for MessageKind.Publish p s hold = Publish (event_of p.message)
kind_for MessageKind.UnknownMeta p s hold = Refused

-- The slot of an accepted message of a live session. A connect waits for its answer. Any other
-- message succeeds at once.
abbrev pub slot_for : Config → MessageKind → Posted → Registered → PlaceSlot
slot_for config MessageKind.Connect p s = Waiting s.number
slot_for config MessageKind.Handshake p s = Ready (reply_to config MessageKind.Handshake p.message (Some s.client) Done replies.NoAck)
slot_for config MessageKind.Subscribe p s = Ready (reply_to config MessageKind.Subscribe p.message (Some s.client) Done replies.NoAck)
slot_for config MessageKind.Unsubscribe p s = Ready (reply_to config MessageKind.Unsubscribe p.message (Some s.client) Done replies.NoAck)
slot_for config MessageKind.Disconnect p s = Ready (reply_to config MessageKind.Disconnect p.message (Some s.client) Done replies.NoAck)
slot_for config MessageKind.Publish p s = Ready (reply_to config MessageKind.Publish p.message (Some s.client) Done replies.NoAck)
slot_for config MessageKind.UnknownMeta p s = Ready (reply_to config MessageKind.UnknownMeta p.message (Some s.client) Done replies.NoAck)

-- The sessions after a message of session `number`. A disconnect closes the session.
abbrev pub left_by : MessageKind → ℕ → List Registered → List Registered
left_by MessageKind.Disconnect number sessions = closed number sessions
left_by _ number sessions = sessions

-- The rider for an accepted message of a live session, if the message is one.
abbrev pub rider_by : Config → Senders → MessageKind → Posted → Registered → Option Rider
rider_by config senders message_kind p s = rider_for (is_rider config senders message_kind p s) s.number (slot_for config message_kind p s)

-- The verdict on an accepted message of live session `s`. The message sets a due moment. A
-- disconnect also closes the session.
abbrev pub served : Config → State → ℕ → Posted → MessageKind → Registered → ℕ → Verdict
served config state moment p message_kind s hold = record {
  state = record {
    sessions = left_by message_kind s.number (extended s.number (due_of config moment hold) state.sessions);
    opened = state.opened;
    senders = senders_after p (joined state.senders s.number);
  };
  kind = kind_for message_kind p s hold;
  rides = rider_by config state.senders message_kind p s;
  sender = Some s.number;
  hold = hold;
  slot = slot_with (rider_by config state.senders message_kind p s) (slot_for config message_kind p s);
}

-- The kind of entry for an accepted message without a session, which is always a publish.
abbrev pub sessionless_kind : MessageKind → Message → EntryKind
sessionless_kind MessageKind.Publish m = Publish (event_of m)
sessionless_kind _ m = Refused

-- The verdict on an accepted publish without a session. It changes no session and succeeds at once.
abbrev pub sessionless : Config → State → Posted → MessageKind → Verdict
sessionless config state p message_kind = record {
  state = record state { senders = senders_after p Mixed };
  kind = sessionless_kind message_kind p.message;
  rides = None;
  sender = None;
  hold = 0;
  slot = Ready (reply_to config message_kind p.message None Done replies.NoAck);
}

-- The verdict on an accepted message that names no session: a handshake, if the flag is true, and
-- otherwise a publish.
abbrev pub unnamed : Config → State → ℕ → Posted → Bool → Verdict
unnamed config state moment p true = opened config state moment p (state.opened + 1)
unnamed config state moment p false = sessionless config state p (message_kind_of p.message.channel)

-- The verdict on an accepted message, by the live session that it names, if any.
abbrev pub accepted : Config → State → ℕ → Posted → Option Registered → Verdict
accepted config state moment p None = unnamed config state moment p (is_handshake p.message)
accepted config state moment p (Some s) = served config state moment p (message_kind_of p.message.channel) s (hold_of config p)

-- The verdict on a message, which is rejected with this error, or accepted if there is none.
-- `sender`: the live session that the message names, if any.
abbrev pub judged_by : Config → State → ℕ → Posted → Option Registered → Option Error → Verdict
judged_by config state moment p sender (Some error) = refused config state p error sender
judged_by config state moment p sender None = accepted config state moment p sender

-- The live session that a message names by its client id, if any. Handshakes and messages to
-- unknown meta channels name none.
abbrev pub named_by : List Registered → MessageKind → Message → Option Registered
named_by sessions MessageKind.Handshake m = None
named_by sessions MessageKind.UnknownMeta m = None
named_by sessions _ m = sender_of sessions m.client

-- The verdict on a message, when the clock is at `moment`.
abbrev pub verdict : Config → State → ℕ → Posted → Verdict
verdict config state moment p =
    judged_by config state moment p (named_by state.sessions (message_kind_of p.message.channel) p.message) (refusal config state.sessions p)

-- The verdict on a tick: it closes the overdue sessions and is not answered.
abbrev pub tick_verdict : State → ℕ → Verdict
tick_verdict state moment = record {
  state = record state { sessions = overdue_closed moment state.sessions };
  kind = Tick (overdue moment state.sessions);
  rides = None;
  sender = None;
  hold = 0;
  slot = NoSlot;
}

-- ---- The whole list

-- The result of an element at `place` with the verdict `v`, when the clock is at `moment`.
abbrev pub found_at : ℕ → ℕ → Verdict → Judged
found_at place moment v = record { entry = record { place = place; moment = moment; kind = v.kind; rides = v.rides }; sender = v.sender; hold = v.hold; slot = v.slot }

-- The registry after one more element, which has the verdict `v` and moves the clock to `moment`.
abbrev pub noted : Registry → ℕ → Verdict → Registry
noted r moment v = record { clock = moment; sessions = v.state.sessions; senders = v.state.senders; judged = r.judged ++ found_at (length r.judged) moment v ∷ [] }

-- All of the registry that the rules read: its sessions, their number, and the senders of the
-- current request so far.
abbrev pub state_of : Registry → State
state_of r = record { sessions = r.sessions; opened = length r.sessions; senders = r.senders }

-- The registry after one more element. It is judged by the sessions before it, at the greatest
-- moment so far, its own included.
abbrev pub judge : Config → Registry → Listed → Registry
judge config r (Post p) = noted r (max r.clock p.moment) (verdict config (state_of r) (max r.clock p.moment) p)
judge config r (messages.Tick moment) = noted r (max r.clock moment) (tick_verdict (state_of r) (max r.clock moment))

-- The registry after the whole list.
abbrev pub registry : Config → List Listed → Registry
registry config list = fold (judge config) empty_registry list

-- The entries of a registry, in order of their places.
abbrev pub entries_of : Registry → List Entry
entries_of r = map (λ (j : Judged). j.entry) r.judged

-- The entries that a list becomes.
abbrev pub entries : Config → List Listed → List Entry
entries config list = entries_of (registry config list)
