-- Messages, replies and inputs of the worked runs.
use Rattle.std.specs.Prelude.{ℕ, replicate, Bool, true, false, List, [], ◌∷◌, ◌++◌, map, codes, Option, Some, None, Ok, Err, Result}
use Rattle.std.proofs.Common.{lit≤}
use Rattle.bx_names.specs.Words.{matches, glob_of, segments}
use Rattle.bx_message.specs.declared.{message.Message.Message, message_kind.MessageKind.MessageKind, reply.Reply.Reply, reply.Item.Item, reply.AckReply.AckReply}
use Rattle.bx_message.specs.declared.{message.TextMember.TheVariants.Absent, message.TextMember.TheVariants.Text, reply.Item.TheVariants.EventItem, reply.Item.TheVariants.ReplyItem}
use Rattle.bx_message.specs.declared.message.AckMember.TheVariants.{NoAck, AckTrue, AckNumber}
use Rattle.bx_advice.specs.declared.{error.Error.Error, config.Config.Config, advice.Outcome.Outcome, error.Error.TheVariants.UnknownClient}
use Rattle.bx_advice.specs.{Advice.advice_of, Limits.standard_limits}
use Rattle.bx_advice.specs.declared.advice.Outcome.TheVariants.{Opened, Connected, Done, Failed}
use Rattle.bx_entry.specs.Words.{client_id, ReadInput, Request, Out, outs}
use Rattle.bx_entry.specs.declared.input.Refusal.{Refusal}
use Rattle.bx_message.specs.Texts.{body_text}
use Rattle.std.specs.List.{join_with_byte}

-- ---- Messages

-- A message with only a channel.
abbrev pub blank : List ℕ → Message
blank channel = record { channel = channel; id = None; client = Absent; version = Absent; supported = []; connection = Absent; subscription = None; texts = []; listed = false; payload = None; ack = NoAck; timeout = None }

-- The client id of session `k`, if its handshake had nonce 0.
abbrev pub id_of : ℕ → List ℕ
id_of k = client_id 0 k

-- A message to `channel` from session `k`, without other members.
abbrev pub of_session : List ℕ → ℕ → Message
of_session channel k = record (blank channel) { client = Text (id_of k) }

-- A handshake with version `version` from a client that supports long-polling.
abbrev pub versioned : List ℕ → Message
versioned version = record (blank (codes "/meta/handshake")) { version = Text version; supported = codes "long-polling" ∷ [] }

abbrev pub handshake : Message
handshake = versioned (codes "1.0")

abbrev pub ack_handshake : Message
ack_handshake = record handshake { ack = AckTrue }

abbrev pub connect : ℕ → Message
connect k = record (of_session (codes "/meta/connect") k) { connection = Text (codes "long-polling") }

-- A connect of session `k` that is answered at once, since it asks for a timeout of 0.
abbrev pub connect_now : ℕ → Message
connect_now k = record (connect k) { timeout = Some 0 }

abbrev pub ack_connect : ℕ → ℕ → Message
ack_connect k n = record (connect k) { ack = AckNumber n }

abbrev pub ack_connect_now : ℕ → ℕ → Message
ack_connect_now k n = record (ack_connect k n) { timeout = Some 0 }

-- A text as a JSON string, if it needs no escape.
abbrev pub in_quotes : List ℕ → List ℕ
in_quotes text = 34 ∷ (text ++ 34 ∷ [])

-- A message to `channel` from session `k` with `pattern` as its only subscription.
abbrev pub on_pattern : List ℕ → ℕ → List ℕ → Message
on_pattern channel k pattern = record (of_session channel k) { subscription = Some (in_quotes pattern); texts = pattern ∷ []; listed = true }

abbrev pub subscribe : ℕ → List ℕ → Message
subscribe = on_pattern (codes "/meta/subscribe")

abbrev pub unsubscribe : ℕ → List ℕ → Message
unsubscribe = on_pattern (codes "/meta/unsubscribe")

abbrev pub disconnect : ℕ → Message
disconnect = of_session (codes "/meta/disconnect")

abbrev pub publish : ℕ → List ℕ → List ℕ → Message
publish k channel payload = record (of_session channel k) { payload = Some payload }

-- A request at `moment` with the messages `ms` and nonce 0.
abbrev pub post : ℕ → List Message → ReadInput
post moment ms = Request moment 0 ms

-- ---- Replies

-- The configuration of most worked runs: two shards, holds of 30 seconds, sessions closed after 10
-- silent seconds, the standard limits, and neither `--ride` nor `--anonymous`.
abbrev pub standard : Config
standard = record { shards = 2; timeout = 30000; interval = 0; max_interval = 10000; limits = standard_limits; ride = false; anonymous = false; some_shard = lit≤ tt; shards_in_range = lit≤ tt }

abbrev pub reply : MessageKind → List ℕ → Option (List ℕ) → Outcome → AckReply → Reply
reply message_kind channel client outcome ack = record { message_kind = message_kind; channel = channel; client = client; id = None; subscription = None; outcome = outcome; advice = advice_of standard outcome; ack = ack }

abbrev pub handshaken : ℕ → Item
handshaken k = ReplyItem (reply MessageKind.Handshake (codes "/meta/handshake") (Some (id_of k)) Opened AckReply.NoAck)

abbrev pub ack_handshaken : ℕ → Item
ack_handshaken k = ReplyItem (reply MessageKind.Handshake (codes "/meta/handshake") (Some (id_of k)) Opened AckReply.AckTrue)

abbrev pub connected_as : ℕ → Outcome → AckReply → Item
connected_as k outcome ack = ReplyItem (reply MessageKind.Connect (codes "/meta/connect") (Some (id_of k)) outcome ack)

abbrev pub connected : ℕ → Item
connected k = connected_as k Connected AckReply.NoAck

abbrev pub ack_connected : ℕ → ℕ → Item
ack_connected k n = connected_as k Connected (AckReply.AckNumber n)

abbrev pub subscribed : ℕ → List ℕ → Item
subscribed k pattern = ReplyItem (record (reply MessageKind.Subscribe (codes "/meta/subscribe") (Some (id_of k)) Done AckReply.NoAck) { subscription = Some (in_quotes pattern) })

abbrev pub unsubscribed : ℕ → List ℕ → Item
unsubscribed k pattern = ReplyItem (record (reply MessageKind.Unsubscribe (codes "/meta/unsubscribe") (Some (id_of k)) Done AckReply.NoAck) { subscription = Some (in_quotes pattern) })

abbrev pub disconnected : ℕ → Item
disconnected k = ReplyItem (reply MessageKind.Disconnect (codes "/meta/disconnect") (Some (id_of k)) Done AckReply.NoAck)

abbrev pub published : List ℕ → Item
published channel = ReplyItem (reply MessageKind.Publish channel None Done AckReply.NoAck)

abbrev pub unknown_client : MessageKind → List ℕ → Item
unknown_client message_kind channel = ReplyItem (reply message_kind channel None (Failed UnknownClient) AckReply.NoAck)

abbrev pub event : List ℕ → List ℕ → Item
event channel payload = EventItem (record { channel = channel; payload = payload; id = None })

abbrev pub out : ℕ → List Item → Out
out input items = record { input = input; result = Ok items }

-- The patterns as a JSON array of strings, if none needs an escape.
abbrev pub listing : List (List ℕ) → List ℕ
listing patterns = 91 ∷ (join_with_byte 44 (map in_quotes patterns) ++ 93 ∷ [])

abbrev pub subscribe_all : ℕ → List (List ℕ) → Message
subscribe_all k patterns = record (of_session (codes "/meta/subscribe") k) { subscription = Some (listing patterns); texts = patterns; listed = true }

abbrev pub subscribed_all : ℕ → List (List ℕ) → Outcome → Item
subscribed_all k patterns outcome = ReplyItem (record (reply MessageKind.Subscribe (codes "/meta/subscribe") (Some (id_of k)) outcome AckReply.NoAck) { subscription = Some (listing patterns) })

-- For each of `names` in order, whether `pattern` matches it.
abbrev pub match_all : List ℕ → List (List ℕ) → List Bool
match_all pattern names = map (λ name. matches (glob_of (segments pattern)) (segments name)) names

-- A run with a handshake, a connect that is held, and a newer connect of the session.
abbrev pub two_connects : List ReadInput
two_connects = post 0 (handshake ∷ []) ∷ post 1 (connect 1 ∷ []) ∷ post 2 (connect 1 ∷ []) ∷ []

-- A run in which an event answers the held connect of an acknowledging session. Two connects
-- follow: the first acknowledges nothing, the second acknowledges the event.
abbrev pub held_with_ack : List ReadInput
held_with_ack =
    post 0 (ack_handshake ∷ []) ∷ post 0 (handshake ∷ []) ∷ post 0 (subscribe 1 (codes "/a/**") ∷ []) ∷ post 1 (ack_connect 1 0 ∷ [])
    ∷ post 2 (publish 2 (codes "/a/b/c") (codes "[1, 2]") ∷ []) ∷ post 3 (ack_connect 1 0 ∷ []) ∷ post 4 (ack_connect 1 1 ∷ []) ∷ []

-- The standard configuration with limits of `events` events and `patterns` patterns for a session.
abbrev pub small : ℕ → ℕ → Config
small events patterns = record standard { limits = record standard_limits { events = events; patterns = patterns } }

abbrev pub failed : MessageKind → List ℕ → Option (List ℕ) → Error → Item
failed message_kind channel client error = ReplyItem (reply message_kind channel client (Failed error) AckReply.NoAck)

-- A request with 256 publishes of session 1 to `/a/b`.
abbrev pub many : ReadInput
many = post 0 (replicate 256 (publish 1 (codes "/a/b") (codes "1")))

-- A run after which session 1 has 1,024 waiting events, which are four full batches.
abbrev pub four_batches : List ReadInput
four_batches = post 0 (handshake ∷ []) ∷ post 0 (subscribe 1 (codes "/a/b") ∷ []) ∷ many ∷ many ∷ many ∷ many ∷ []

-- The response to a connect of session 1 that gets 256 events, a full batch.
abbrev pub full_batch : List Item
full_batch = replicate 256 (event (codes "/a/b") (codes "1")) ++ connected 1 ∷ []

-- ---- Texts

-- The body of a response, or the empty text for a rejected input.
abbrev pub text_by : Result (List Item) Refusal → List ℕ
text_by (Ok items) = body_text items
text_by (Err refusal) = []

-- The text of each response of a run, in the order of the outs.
abbrev pub texts : Config → List ReadInput → List (List ℕ)
texts config inputs = map (λ (o : Out). text_by o.result) (outs config inputs)

-- ---- More messages

-- A run with a handshake and a request of eight messages: seven with one fault each, and one
-- without a fault.
abbrev pub refused_messages : List ReadInput
refused_messages = post 0 (handshake ∷ []) ∷ post 0 (
    blank (codes "/meta/ping") ∷ blank (codes "/meta/connect") ∷ record (blank (codes "/meta/disconnect")) { client = Text (codes "nobody") }
    ∷ subscribe 1 (codes "/meta/*") ∷ subscribe 1 (codes "/service/x") ∷ of_session (codes "/meta/subscribe") 1
    ∷ publish 1 (codes "/a/*") (codes "1") ∷ of_session (codes "/a") 1 ∷ []) ∷ []

-- A subscribe message of session 1. Its `subscription` is an array of `text`, quoted, and of a
-- value that is not a string, such as `["/a",1]`.
abbrev pub mixed : List ℕ → Message
mixed text = record (subscribe 1 text) { listed = false }

-- The reply to `mixed text` that reports `error`.
abbrev pub mixed_failed : List ℕ → Error → Item
mixed_failed text error = ReplyItem (record (reply MessageKind.Subscribe (codes "/meta/subscribe") (Some (id_of 1)) (Failed error) AckReply.NoAck) { subscription = Some (in_quotes text) })

-- The standard configuration with `--anonymous`, which accepts sessionless publishes.
abbrev pub open_to_all : Config
open_to_all = record standard { anonymous = true }

-- A publish to `channel` without a client id.
abbrev pub anonymous : List ℕ → List ℕ → Message
anonymous channel payload = record (blank channel) { payload = Some payload }

-- The standard configuration with `--ride` and `--anonymous`, so with riders and sessionless
-- publishes.
abbrev pub riding : Config
riding = record standard { ride = true; anonymous = true }

-- The standard configuration with room for `room` sessions.
abbrev pub crowded : ℕ → Config
crowded room = record standard { limits = record standard_limits { sessions = room } }

-- A run with publishes of a subscriber, of another session, and without a session. It ends with a
-- connect and a disconnect of the subscriber.
abbrev pub ridden_publishes : List ReadInput
ridden_publishes =
    post 0 (handshake ∷ []) ∷ post 0 (handshake ∷ []) ∷ post 0 (subscribe 1 (codes "/a/*") ∷ []) ∷ post 0 (publish 2 (codes "/a/x") (codes "1") ∷ [])
    ∷ post 0 (publish 1 (codes "/b") (codes "2") ∷ []) ∷ post 0 (publish 1 (codes "/a/y") (codes "3") ∷ publish 1 (codes "/b") (codes "4") ∷ [])
    ∷ post 0 (publish 1 (codes "/a/z") (codes "5") ∷ publish 2 (codes "/b") (codes "6") ∷ []) ∷ post 0 (anonymous (codes "/a/w") (codes "8") ∷ [])
    ∷ post 0 (connect_now 1 ∷ []) ∷ post 0 (disconnect 1 ∷ []) ∷ []

-- A run that ends with a request of two publishes, from a subscriber that has a held connect.
abbrev pub ridden_hold : List ReadInput
ridden_hold =
    post 0 (handshake ∷ []) ∷ post 0 (subscribe 1 (codes "/a/*") ∷ []) ∷ post 0 (connect 1 ∷ [])
    ∷ post 0 (publish 1 (codes "/a/x") (codes "1") ∷ publish 1 (codes "/a/y") (codes "2") ∷ []) ∷ []

-- A run with a request of `ms` and a publish of session 1 to itself, followed by a connect of
-- session 1.
abbrev pub ridden_after : List Message → List ReadInput
ridden_after ms =
    post 0 (handshake ∷ []) ∷ post 0 (handshake ∷ []) ∷ post 0 (subscribe 1 (codes "/a/*") ∷ [])
    ∷ post 0 (ms ++ publish 1 (codes "/a/x") (codes "1") ∷ []) ∷ post 0 (connect_now 1 ∷ []) ∷ []

-- The outs of `ridden_after` if the event of the publish waits for the connect. `items`: the
-- replies to the messages before the publish.
abbrev pub waits_after : List Item → List Out
waits_after items =
    out 0 (handshaken 1 ∷ []) ∷ out 1 (handshaken 2 ∷ []) ∷ out 2 (subscribed 1 (codes "/a/*") ∷ [])
    ∷ out 3 (items ++ published (codes "/a/x") ∷ []) ∷ out 4 (event (codes "/a/x") (codes "1") ∷ connected 1 ∷ []) ∷ []
