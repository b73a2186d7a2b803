-- Worked runs: inputs as messages, and the outs that the definitions give for them.
use Rattle.std.specs.Prelude.{◌≡◌, replicate, flat_map, drop, true, false, [], ◌∷◌, ◌++◌, codes, Some, None, Err, map}
use Rattle.bx_names.specs.Faults.{name_fault, pattern_fault}
use Rattle.bx_names.specs.declared.error.NameError.TheVariants.{NoSlash, EmptySegment, BadByte, Wild, TooLong, TooDeep}
use Rattle.bx_message.specs.declared.{message.TextMember.TheVariants.Text, message.AckMember.TheVariants.NoAck, message_kind.MessageKind.MessageKind, reply.AckReply.AckReply}
use Rattle.bx_advice.specs.declared.error.Error.TheVariants.{UnknownMetaChannel, UnsupportedVersion, SecondHandshake, NoClientId, UnknownClient, InvalidChannel, SubscriptionDenied, MissingSubscription, MissingData, SupersededConnect, QueueOverflow, UnknownConnectionType, InvalidPattern, TooManyPatterns, TooManySessions}
use Rattle.bx_advice.specs.declared.advice.Outcome.TheVariants.{Opened, Disconnected, Done, Failed}
use Rattle.bx_message.specs.declared.reply.Item.TheVariants.{EventItem, ReplyItem}
use Rattle.bx_entry.specs.Inputs.{Request, Tick}
use Rattle.bx_entry.specs.declared.input.Refusal.TheVariants.{BadMoment, NotJson}
use Rattle.bx_entry.specs.Words.{outs, held, Unread}
use Rattle.bx_message.specs.Texts.{callback_text}
use Rattle.bx_laws.specs.Samples.{ack_connect, blank, id_of, versioned, handshake, ack_handshake, connect, connect_now, ack_connect_now, in_quotes, subscribe, unsubscribe, disconnect, publish, post, standard, reply, handshaken, ack_handshaken, connected_as, connected, ack_connected, subscribed, unsubscribed, disconnected, published, unknown_client, event, out, subscribe_all, subscribed_all, match_all, two_connects, held_with_ack, small, failed, four_batches, full_batch, texts, refused_messages, mixed, mixed_failed, crowded, anonymous, open_to_all, ridden_publishes, ridden_hold, ridden_after, waits_after, riding}
use Rattle.bx_script.specs.Replay.{lines_of, line_of, Bad, Recorded, Rejected, Accepted, Resharded, Announced, Noted, Script, inputs_from, printed, with_nonces}

-- ---- Names and patterns

-- The texts `/a/b` and `/meta` are names. Seven other texts are not: they lack the slash at the
-- start, or have an empty segment, a space or a wildcard.
abbrev pub NamesRead : Type 0
NamesRead =
    name_fault (codes "/a/b") ∷ name_fault (codes "/meta") ∷ name_fault [] ∷ name_fault (codes "a") ∷ name_fault (codes "/") ∷ name_fault (codes "/a//b") ∷ name_fault (codes "/a/") ∷ name_fault (codes "/a b") ∷ name_fault (codes "/a/*") ∷ []
    ≡ None ∷ None ∷ Some NoSlash ∷ Some NoSlash ∷ Some EmptySegment ∷ Some EmptySegment ∷ Some EmptySegment ∷ Some BadByte ∷ Some Wild ∷ []

-- A name may have 256 bytes, but not 257. It may have 32 segments, but not 33.
abbrev pub LengthsRead : Type 0
LengthsRead =
    name_fault (47 ∷ replicate 255 97) ∷ name_fault (47 ∷ replicate 256 97) ∷ name_fault (flat_map (λ x. x ∷ 97 ∷ []) (replicate 32 47)) ∷ name_fault (flat_map (λ x. x ∷ 97 ∷ []) (replicate 33 47)) ∷ []
    ≡ None ∷ Some TooLong ∷ None ∷ Some TooDeep ∷ []

-- Only a pattern's last segment may be a wildcard, `*` or `**`.
abbrev pub PatternsRead : Type 0
PatternsRead =
    pattern_fault (codes "/a/b") ∷ pattern_fault (codes "/a/*") ∷ pattern_fault (codes "/a/**") ∷ pattern_fault (codes "/*") ∷ pattern_fault (codes "/**") ∷ pattern_fault (codes "/*/b") ∷ pattern_fault (codes "/a*") ∷ pattern_fault (codes "/***") ∷ []
    ≡ None ∷ None ∷ None ∷ None ∷ None ∷ Some Wild ∷ Some Wild ∷ Some Wild ∷ []

-- A `*` matches exactly one segment.
abbrev pub StarsMatch : Type 0
StarsMatch =
    match_all (codes "/foo/*") (codes "/foo/bar" ∷ codes "/foo" ∷ codes "/foobar" ∷ codes "/foo/bar/boo" ∷ []) ≡ true ∷ false ∷ false ∷ false ∷ []

-- A `**` matches one or more segments.
abbrev pub DoubleStarsMatch : Type 0
DoubleStarsMatch =
    match_all (codes "/foo/**") (codes "/foo/bar" ∷ codes "/foo/bar/boo" ∷ codes "/foo" ∷ codes "/foobar/x" ∷ []) ≡ true ∷ true ∷ false ∷ false ∷ []

-- `/**` matches a name of one segment and a name of two.
abbrev pub AllMatch : Type 0
AllMatch =
    match_all (codes "/**") (codes "/a" ∷ codes "/a/b" ∷ []) ≡ true ∷ true ∷ []

-- The pattern `/a`, which has no wildcard, matches the name `/a` but not `/a/b`.
abbrev pub PlainMatch : Type 0
PlainMatch =
    match_all (codes "/a") (codes "/a" ∷ codes "/a/b" ∷ []) ≡ true ∷ false ∷ []

-- ---- Handshakes

-- The reply to a handshake repeats the `id` of the handshake.
abbrev pub HandshakeWithId : Type 0
HandshakeWithId =
    outs standard (post 0 (record handshake { id = Some (codes "\"1\"") } ∷ []) ∷ [])
    ≡ out 0 (ReplyItem (record (reply MessageKind.Handshake (codes "/meta/handshake") (Some (id_of 1)) Opened AckReply.NoAck) { id = Some (codes "\"1\"") }) ∷ []) ∷ []

-- A handshake that is rejected for its version uses no session number. The next handshake opens
-- session 1.
abbrev pub RefusedHandshake : Type 0
RefusedHandshake =
    outs standard (post 0 (versioned (codes "2.0") ∷ []) ∷ post 0 (handshake ∷ []) ∷ [])
    ≡ out 0 (ReplyItem (reply MessageKind.Handshake (codes "/meta/handshake") None (Failed UnsupportedVersion) AckReply.NoAck) ∷ [])
    ∷ out 1 (handshaken 1 ∷ []) ∷ []

-- The second handshake of a request is rejected and uses no session number. The handshake of the
-- next request opens session 2.
abbrev pub TwoHandshakes : Type 0
TwoHandshakes =
    outs standard (post 0 (handshake ∷ handshake ∷ []) ∷ post 0 (handshake ∷ []) ∷ [])
    ≡ out 0 (handshaken 1 ∷ ReplyItem (reply MessageKind.Handshake (codes "/meta/handshake") None (Failed SecondHandshake) AckReply.NoAck) ∷ [])
    ∷ out 1 (handshaken 2 ∷ []) ∷ []

-- A request without messages is answered with an empty response.
abbrev pub NothingPosted : Type 0
NothingPosted =
    outs standard (post 0 [] ∷ []) ≡ out 0 [] ∷ []

-- A request with an unreadable body is rejected and changes nothing. The next handshake opens
-- session 1.
abbrev pub Unreadable : Type 0
Unreadable =
    outs standard (Unread NotJson ∷ post 0 (handshake ∷ []) ∷ [])
    ≡ record { input = 0; result = Err NotJson } ∷ out 1 (handshaken 1 ∷ []) ∷ []

-- ---- Events

-- A publish answers the held connect of a subscriber with its event.
abbrev pub HeldThenGiven : Type 0
HeldThenGiven =
    outs standard (
    post 0 (handshake ∷ []) ∷ post 0 (handshake ∷ []) ∷ post 0 (subscribe 1 (codes "/a/*") ∷ [])
    ∷ post 10 (connect 1 ∷ []) ∷ post 20 (publish 2 (codes "/a/b") (codes "7") ∷ []) ∷ [])
    ≡ out 0 (handshaken 1 ∷ []) ∷ out 1 (handshaken 2 ∷ []) ∷ out 2 (subscribed 1 (codes "/a/*") ∷ [])
    ∷ out 3 (event (codes "/a/b") (codes "7") ∷ connected 1 ∷ []) ∷ out 4 (published (codes "/a/b") ∷ []) ∷ []

-- Under `--anonymous`, a sessionless publish answers the held connect of a subscriber.
abbrev pub SessionlessPublish : Type 0
SessionlessPublish =
    outs open_to_all (post 0 (handshake ∷ []) ∷ post 0 (subscribe 1 (codes "/a/*") ∷ []) ∷ post 10 (connect 1 ∷ []) ∷ post 20 (anonymous (codes "/a/b") (codes "7") ∷ []) ∷ [])
    ≡ out 0 (handshaken 1 ∷ []) ∷ out 1 (subscribed 1 (codes "/a/*") ∷ []) ∷ out 2 (event (codes "/a/b") (codes "7") ∷ connected 1 ∷ []) ∷ out 3 (published (codes "/a/b") ∷ []) ∷ []

-- Without `--anonymous`, a sessionless publish is rejected.
abbrev pub SessionlessRefused : Type 0
SessionlessRefused =
    outs standard (post 0 (anonymous (codes "/a/b") (codes "7") ∷ []) ∷ []) ≡ out 0 (failed MessageKind.Publish (codes "/a/b") None NoClientId ∷ []) ∷ []

-- An event that two patterns of a session match is sent to the session once. `/a/**` does not match
-- `/a`.
abbrev pub MatchedTwice : Type 0
MatchedTwice =
    outs standard (
    post 0 (handshake ∷ [])
    ∷ post 0 (subscribe 1 (codes "/a/*") ∷ subscribe 1 (codes "/a/**") ∷ publish 1 (codes "/a/b") (codes "1") ∷ publish 1 (codes "/a") (codes "2") ∷ [])
    ∷ post 0 (connect_now 1 ∷ []) ∷ [])
    ≡ out 0 (handshaken 1 ∷ [])
    ∷ out 1 (subscribed 1 (codes "/a/*") ∷ subscribed 1 (codes "/a/**") ∷ published (codes "/a/b") ∷ published (codes "/a") ∷ [])
    ∷ out 2 (event (codes "/a/b") (codes "1") ∷ connected 1 ∷ []) ∷ []

-- A publish to a service channel succeeds but reaches no session, even if a pattern matches.
abbrev pub ServicePublish : Type 0
ServicePublish =
    outs standard (post 0 (handshake ∷ []) ∷ post 0 (subscribe 1 (codes "/**") ∷ publish 1 (codes "/service/x") (codes "1") ∷ []) ∷ post 0 (connect_now 1 ∷ []) ∷ [])
    ≡ out 0 (handshaken 1 ∷ []) ∷ out 1 (subscribed 1 (codes "/**") ∷ published (codes "/service/x") ∷ []) ∷ out 2 (connected 1 ∷ []) ∷ []

-- An event repeats the data and the id of its publish byte for byte. The reply to the publish
-- repeats the id.
abbrev pub SenderBytes : Type 0
SenderBytes =
    outs standard (post 0 (handshake ∷ []) ∷ post 0 (subscribe 1 (codes "/a/b") ∷ []) ∷ post 0 (record (publish 1 (codes "/a/b") (codes "{\"a\" : 1.50}")) { id = Some (codes "\"q\"") } ∷ []) ∷ post 0 (connect_now 1 ∷ []) ∷ [])
    ≡ out 0 (handshaken 1 ∷ []) ∷ out 1 (subscribed 1 (codes "/a/b") ∷ [])
    ∷ out 2 (ReplyItem (record (reply MessageKind.Publish (codes "/a/b") None Done AckReply.NoAck) { id = Some (codes "\"q\"") }) ∷ [])
    ∷ out 3 (EventItem (record { channel = codes "/a/b"; payload = codes "{\"a\" : 1.50}"; id = Some (codes "\"q\"") }) ∷ connected 1 ∷ []) ∷ []

-- ---- Riders

-- Under `--ride`, a session's waiting events are sent before the last reply of a request if all
-- messages of the request come from the session. Otherwise the events still wait.
abbrev pub EventsRide : Type 0
EventsRide =
    outs riding ridden_publishes
    ≡ out 0 (handshaken 1 ∷ []) ∷ out 1 (handshaken 2 ∷ []) ∷ out 2 (subscribed 1 (codes "/a/*") ∷ []) ∷ out 3 (published (codes "/a/x") ∷ [])
    ∷ out 4 (event (codes "/a/x") (codes "1") ∷ published (codes "/b") ∷ [])
    ∷ out 5 (published (codes "/a/y") ∷ event (codes "/a/y") (codes "3") ∷ published (codes "/b") ∷ [])
    ∷ out 6 (published (codes "/a/z") ∷ published (codes "/b") ∷ [])
    ∷ out 7 (published (codes "/a/w") ∷ [])
    ∷ out 8 (event (codes "/a/z") (codes "5") ∷ event (codes "/a/w") (codes "8") ∷ connected 1 ∷ [])
    ∷ out 9 (disconnected 1 ∷ []) ∷ []

-- A session with a held connect publishes two events to itself in one request. The first event
-- answers the held connect. The second is sent before the last reply of the request.
abbrev pub RideAfterHold : Type 0
RideAfterHold =
    outs riding ridden_hold
    ≡ out 0 (handshaken 1 ∷ []) ∷ out 1 (subscribed 1 (codes "/a/*") ∷ [])
    ∷ out 2 (event (codes "/a/x") (codes "1") ∷ connected 1 ∷ [])
    ∷ out 3 (published (codes "/a/x") ∷ event (codes "/a/y") (codes "2") ∷ published (codes "/a/y") ∷ []) ∷ []

-- Without `--ride`, events wait for a connect.
abbrev pub NothingRides : Type 0
NothingRides =
    outs open_to_all ridden_publishes
    ≡ out 0 (handshaken 1 ∷ []) ∷ out 1 (handshaken 2 ∷ []) ∷ out 2 (subscribed 1 (codes "/a/*") ∷ []) ∷ out 3 (published (codes "/a/x") ∷ [])
    ∷ out 4 (published (codes "/b") ∷ [])
    ∷ out 5 (published (codes "/a/y") ∷ published (codes "/b") ∷ [])
    ∷ out 6 (published (codes "/a/z") ∷ published (codes "/b") ∷ [])
    ∷ out 7 (published (codes "/a/w") ∷ [])
    ∷ out 8 (event (codes "/a/x") (codes "1") ∷ event (codes "/a/y") (codes "3") ∷ event (codes "/a/z") (codes "5") ∷ event (codes "/a/w") (codes "8") ∷ connected 1 ∷ [])
    ∷ out 9 (disconnected 1 ∷ []) ∷ []

-- Under `--ride`, a request with a rejected message has no rider, so the event waits for a connect.
abbrev pub NothingRidesAfterRefused : Type 0
NothingRidesAfterRefused =
    outs riding (ridden_after (publish 1 (codes "/a/*") (codes "0") ∷ [])) ≡ waits_after (failed MessageKind.Publish (codes "/a/*") None InvalidChannel ∷ [])

-- Under `--ride`, a request with a sessionless publish has no rider, so the event waits for a
-- connect.
abbrev pub NothingRidesAfterSessionless : Type 0
NothingRidesAfterSessionless =
    outs riding (ridden_after (anonymous (codes "/b") (codes "0") ∷ [])) ≡ waits_after (published (codes "/b") ∷ [])

-- Under `--ride`, a request with a handshake has no rider, so the event waits for a connect.
abbrev pub NothingRidesAfterHandshake : Type 0
NothingRidesAfterHandshake =
    outs riding (ridden_after (handshake ∷ [])) ≡ waits_after (handshaken 3 ∷ [])

-- Under `--ride`, a request has no rider if another session's message is between two of one
-- session. The event then waits for a connect.
abbrev pub NothingRidesAfterTwo : Type 0
NothingRidesAfterTwo =
    outs riding (ridden_after (publish 1 (codes "/b") (codes "0") ∷ publish 2 (codes "/b") (codes "0") ∷ [])) ≡ waits_after (published (codes "/b") ∷ published (codes "/b") ∷ [])

-- ---- Batches

-- In an acknowledging session, a connect without a batch number is accepted and acknowledges
-- nothing.
abbrev pub NoNumber : Type 0
NoNumber =
    outs standard (post 0 (ack_handshake ∷ []) ∷ post 0 (record (connect_now 1) { ack = NoAck } ∷ []) ∷ [])
    ≡ out 0 (ack_handshaken 1 ∷ []) ∷ out 1 (ack_connected 1 0 ∷ []) ∷ []

-- A batch is sent again, without later events, until it is acknowledged.
abbrev pub BatchesRepeat : Type 0
BatchesRepeat =
    outs standard (
    post 0 (ack_handshake ∷ [])
    ∷ post 0 (subscribe 1 (codes "/a/*") ∷ publish 1 (codes "/a/x") (codes "1") ∷ [])
    ∷ post 1 (ack_connect_now 1 0 ∷ [])
    ∷ post 2 (publish 1 (codes "/a/y") (codes "2") ∷ publish 1 (codes "/a/z") (codes "3") ∷ [])
    ∷ post 3 (ack_connect_now 1 0 ∷ [])
    ∷ post 4 (unsubscribe 1 (codes "/a/*") ∷ [])
    ∷ post 5 (ack_connect_now 1 0 ∷ [])
    ∷ post 6 (ack_connect_now 1 1 ∷ [])
    ∷ post 7 (ack_connect_now 1 2 ∷ []) ∷ [])
    ≡ out 0 (ack_handshaken 1 ∷ [])
    ∷ out 1 (subscribed 1 (codes "/a/*") ∷ published (codes "/a/x") ∷ [])
    ∷ out 2 (event (codes "/a/x") (codes "1") ∷ ack_connected 1 1 ∷ [])
    ∷ out 3 (published (codes "/a/y") ∷ published (codes "/a/z") ∷ [])
    ∷ out 4 (event (codes "/a/x") (codes "1") ∷ ack_connected 1 1 ∷ [])
    ∷ out 5 (unsubscribed 1 (codes "/a/*") ∷ [])
    ∷ out 6 (event (codes "/a/x") (codes "1") ∷ ack_connected 1 1 ∷ [])
    ∷ out 7 (event (codes "/a/y") (codes "2") ∷ event (codes "/a/z") (codes "3") ∷ ack_connected 1 2 ∷ [])
    ∷ out 8 (ack_connected 1 2 ∷ []) ∷ []

-- A connect with a number above that of the last batch acknowledges all events sent so far, each
-- time that the number is used.
abbrev pub GreatNumber : Type 0
GreatNumber =
    outs standard (
    post 0 (ack_handshake ∷ [])
    ∷ post 0 (subscribe 1 (codes "/a/*") ∷ publish 1 (codes "/a/x") (codes "1") ∷ [])
    ∷ post 1 (ack_connect_now 1 0 ∷ [])
    ∷ post 2 (publish 1 (codes "/a/y") (codes "2") ∷ [])
    ∷ post 3 (ack_connect_now 1 18446744073709551615 ∷ [])
    ∷ post 4 (ack_connect_now 1 18446744073709551615 ∷ []) ∷ [])
    ≡ out 0 (ack_handshaken 1 ∷ [])
    ∷ out 1 (subscribed 1 (codes "/a/*") ∷ published (codes "/a/x") ∷ [])
    ∷ out 2 (event (codes "/a/x") (codes "1") ∷ ack_connected 1 1 ∷ [])
    ∷ out 3 (published (codes "/a/y") ∷ [])
    ∷ out 4 (event (codes "/a/y") (codes "2") ∷ ack_connected 1 2 ∷ [])
    ∷ out 5 (ack_connected 1 2 ∷ []) ∷ []

-- The event that answers an acknowledging session's held connect is a batch, which is sent again
-- until it is acknowledged.
abbrev pub EventIsBatch : Type 0
EventIsBatch =
    outs standard held_with_ack
    ≡ out 0 (ack_handshaken 1 ∷ []) ∷ out 1 (handshaken 2 ∷ []) ∷ out 2 (subscribed 1 (codes "/a/**") ∷ [])
    ∷ out 3 (event (codes "/a/b/c") (codes "[1, 2]") ∷ ack_connected 1 1 ∷ []) ∷ out 4 (published (codes "/a/b/c") ∷ [])
    ∷ out 5 (event (codes "/a/b/c") (codes "[1, 2]") ∷ ack_connected 1 1 ∷ []) ∷ []

-- A connect that acknowledges the last batch of its session is held, since no event waits.
abbrev pub EventIsBatchHeld : Type 0
EventIsBatchHeld =
    held standard held_with_ack ≡ 6 ∷ []

-- ---- Held connects

-- A tick at the deadline answers a held connect. An earlier tick does not.
abbrev pub HoldRunsOut : Type 0
HoldRunsOut =
    outs standard (post 0 (handshake ∷ []) ∷ post 0 (connect 1 ∷ []) ∷ Tick 29999 ∷ Tick 30000 ∷ [])
    ≡ out 0 (handshaken 1 ∷ []) ∷ out 2 [] ∷ out 1 (connected 1 ∷ []) ∷ out 3 [] ∷ []

-- A connect is not held if its request has another message.
abbrev pub NotSole : Type 0
NotSole =
    outs standard (post 0 (handshake ∷ []) ∷ post 1 (connect 1 ∷ connect 1 ∷ []) ∷ [])
    ≡ out 0 (handshaken 1 ∷ []) ∷ out 1 (connected 1 ∷ connected 1 ∷ []) ∷ []

-- A newer connect of the session answers a held connect with the error of a superseded connect.
abbrev pub Superseded : Type 0
Superseded =
    outs standard two_connects
    ≡ out 0 (handshaken 1 ∷ []) ∷ out 1 (connected_as 1 (Failed SupersededConnect) AckReply.NoAck ∷ []) ∷ []

-- A connect that supersedes a held connect is held itself.
abbrev pub SupersededHeld : Type 0
SupersededHeld =
    held standard two_connects ≡ 2 ∷ []

-- A disconnect answers a held connect with success and the advice not to reconnect.
abbrev pub HoldEndsWithSession : Type 0
HoldEndsWithSession =
    outs standard (post 0 (handshake ∷ []) ∷ post 1 (connect 1 ∷ []) ∷ post 2 (disconnect 1 ∷ []) ∷ [])
    ≡ out 0 (handshaken 1 ∷ []) ∷ out 1 (connected_as 1 Disconnected AckReply.NoAck ∷ []) ∷ out 2 (disconnected 1 ∷ []) ∷ []

-- A held connect puts off the due moment of its session by the full hold, even if an event answers
-- it early.
abbrev pub HoldExtends : Type 0
HoldExtends =
    outs standard (
    post 0 (handshake ∷ []) ∷ post 0 (subscribe 1 (codes "/a/b") ∷ []) ∷ post 0 (connect 1 ∷ []) ∷ post 100 (publish 1 (codes "/a/b") (codes "1") ∷ []) ∷ Tick 40000
    ∷ post 40000 (publish 1 (codes "/a/b") (codes "2") ∷ []) ∷ Tick 50000 ∷ Tick 50001 ∷ post 50001 (connect_now 1 ∷ []) ∷ [])
    ≡ out 0 (handshaken 1 ∷ []) ∷ out 1 (subscribed 1 (codes "/a/b") ∷ []) ∷ out 2 (event (codes "/a/b") (codes "1") ∷ connected 1 ∷ []) ∷ out 3 (published (codes "/a/b") ∷ []) ∷ out 4 []
    ∷ out 5 (published (codes "/a/b") ∷ []) ∷ out 6 [] ∷ out 7 [] ∷ out 8 (unknown_client MessageKind.Connect (codes "/meta/connect") ∷ []) ∷ []

-- A moment below an earlier one counts as the earlier one. A moment above the limit is rejected.
abbrev pub MomentsRise : Type 0
MomentsRise =
    outs standard (
    post 9 (handshake ∷ []) ∷ post 5 (connect 1 ∷ []) ∷ Tick 30005 ∷ Tick 30009 ∷ Tick 4611686018427387905 ∷ post 30009 (disconnect 1 ∷ []) ∷ [])
    ≡ out 0 (handshaken 1 ∷ []) ∷ out 2 [] ∷ out 1 (connected 1 ∷ []) ∷ out 3 [] ∷ record { input = 4; result = Err BadMoment } ∷ out 5 (disconnected 1 ∷ []) ∷ []

-- ---- Sessions that end

-- A tick after a session's due moment closes it. A tick at that moment does not.
abbrev pub SessionExpires : Type 0
SessionExpires =
    outs standard (
    post 0 (handshake ∷ []) ∷ post 5 (handshake ∷ []) ∷ post 5 (subscribe 2 (codes "/a/*") ∷ []) ∷ Tick 10000 ∷ Tick 10001
    ∷ post 10001 (publish 1 (codes "/a/b") (codes "1") ∷ []) ∷ post 10001 (connect_now 2 ∷ []) ∷ [])
    ≡ out 0 (handshaken 1 ∷ []) ∷ out 1 (handshaken 2 ∷ []) ∷ out 2 (subscribed 2 (codes "/a/*") ∷ []) ∷ out 3 [] ∷ out 4 []
    ∷ out 5 (unknown_client MessageKind.Publish (codes "/a/b") ∷ []) ∷ out 6 (connected 2 ∷ []) ∷ []

-- A message after the disconnect of its session, in one request, is rejected.
abbrev pub GoneWithinARequest : Type 0
GoneWithinARequest =
    outs standard (post 0 (handshake ∷ []) ∷ post 1 (disconnect 1 ∷ publish 1 (codes "/a/b") (codes "1") ∷ []) ∷ [])
    ≡ out 0 (handshaken 1 ∷ []) ∷ out 1 (disconnected 1 ∷ unknown_client MessageKind.Publish (codes "/a/b") ∷ []) ∷ []

-- ---- Rejected messages

-- Seven messages with different faults are rejected, each with the error of its fault. A
-- subscription to a service channel is accepted.
abbrev pub EachRefusal : Type 0
EachRefusal =
    outs standard refused_messages
    ≡ out 0 (handshaken 1 ∷ [])
    ∷ out 1 (failed MessageKind.UnknownMeta (codes "/meta/ping") None UnknownMetaChannel
    ∷ failed MessageKind.Connect (codes "/meta/connect") None NoClientId
    ∷ failed MessageKind.Disconnect (codes "/meta/disconnect") None UnknownClient
    ∷ ReplyItem (record (reply MessageKind.Subscribe (codes "/meta/subscribe") (Some (id_of 1)) (Failed SubscriptionDenied) AckReply.NoAck) { subscription = Some (in_quotes (codes "/meta/*")) })
    ∷ subscribed 1 (codes "/service/x")
    ∷ failed MessageKind.Subscribe (codes "/meta/subscribe") (Some (id_of 1)) MissingSubscription
    ∷ failed MessageKind.Publish (codes "/a/*") None InvalidChannel
    ∷ failed MessageKind.Publish (codes "/a") None MissingData ∷ []) ∷ []

-- A connect with an unsupported connection type is rejected.
abbrev pub UnknownType : Type 0
UnknownType =
    drop 1 (outs standard (post 0 (handshake ∷ []) ∷ post 1 (record (connect 1) { connection = Text (codes "websocket") } ∷ []) ∷ []))
    ≡ out 1 (failed MessageKind.Connect (codes "/meta/connect") (Some (id_of 1)) UnknownConnectionType ∷ []) ∷ []

-- A subscription to 64 patterns is accepted, one to 65 is rejected. Of several faults, an invalid
-- pattern is reported first and a meta channel last.
abbrev pub ManyPatterns : Type 0
ManyPatterns =
    drop 1 (outs standard (post 0 (handshake ∷ []) ∷ post 0 (
    subscribe_all 1 (replicate 64 (codes "/a/b")) ∷ subscribe_all 1 (codes "/meta/*" ∷ replicate 64 (codes "/a/b")) ∷ subscribe_all 1 (replicate 64 (codes "/a/b") ++ codes "a" ∷ []) ∷ []) ∷ []))
    ≡ out 1 (subscribed_all 1 (replicate 64 (codes "/a/b")) Done ∷ subscribed_all 1 (codes "/meta/*" ∷ replicate 64 (codes "/a/b")) (Failed TooManyPatterns)
    ∷ subscribed_all 1 (replicate 64 (codes "/a/b") ++ codes "a" ∷ []) (Failed InvalidPattern) ∷ []) ∷ []

-- ---- Limits of queues and patterns

-- A third event overflows a session with room for two. Its events are dropped and its connects
-- fail. Publishes to it still succeed.
abbrev pub FullQueue : Type 0
FullQueue =
    outs (small 2 8) (
    post 0 (handshake ∷ []) ∷ post 0 (subscribe 1 (codes "/a/b") ∷ publish 1 (codes "/a/b") (codes "1") ∷ publish 1 (codes "/a/b") (codes "2") ∷ [])
    ∷ post 0 (publish 1 (codes "/a/b") (codes "3") ∷ []) ∷ post 0 (connect_now 1 ∷ []) ∷ post 0 (publish 1 (codes "/a/b") (codes "4") ∷ []) ∷ [])
    ≡ out 0 (handshaken 1 ∷ []) ∷ out 1 (subscribed 1 (codes "/a/b") ∷ published (codes "/a/b") ∷ published (codes "/a/b") ∷ []) ∷ out 2 (published (codes "/a/b") ∷ [])
    ∷ out 3 (connected_as 1 (Failed QueueOverflow) AckReply.NoAck ∷ []) ∷ out 4 (published (codes "/a/b") ∷ []) ∷ []

-- Two events do not overflow a session with room for two. The next connect gets both.
abbrev pub QueueWithRoom : Type 0
QueueWithRoom =
    outs (small 2 8) (
    post 0 (handshake ∷ []) ∷ post 0 (subscribe 1 (codes "/a/b") ∷ publish 1 (codes "/a/b") (codes "1") ∷ publish 1 (codes "/a/b") (codes "2") ∷ [])
    ∷ post 0 (connect_now 1 ∷ []) ∷ [])
    ≡ out 0 (handshaken 1 ∷ []) ∷ out 1 (subscribed 1 (codes "/a/b") ∷ published (codes "/a/b") ∷ published (codes "/a/b") ∷ [])
    ∷ out 2 (event (codes "/a/b") (codes "1") ∷ event (codes "/a/b") (codes "2") ∷ connected 1 ∷ []) ∷ []

-- The outstanding batch counts toward the limit of a session's events. After the overflow, a
-- connect that acknowledges the batch fails.
abbrev pub FullWithBatch : Type 0
FullWithBatch =
    outs (small 2 8) (
    post 0 (ack_handshake ∷ []) ∷ post 0 (subscribe 1 (codes "/a/b") ∷ publish 1 (codes "/a/b") (codes "1") ∷ []) ∷ post 0 (ack_connect_now 1 0 ∷ [])
    ∷ post 0 (publish 1 (codes "/a/b") (codes "2") ∷ publish 1 (codes "/a/b") (codes "3") ∷ []) ∷ post 0 (ack_connect_now 1 1 ∷ []) ∷ [])
    ≡ out 0 (ack_handshaken 1 ∷ []) ∷ out 1 (subscribed 1 (codes "/a/b") ∷ published (codes "/a/b") ∷ [])
    ∷ out 2 (event (codes "/a/b") (codes "1") ∷ ack_connected 1 1 ∷ []) ∷ out 3 (published (codes "/a/b") ∷ published (codes "/a/b") ∷ [])
    ∷ out 4 (connected_as 1 (Failed QueueOverflow) AckReply.NoAck ∷ []) ∷ []

-- A held connect stays held if too many patterns overflow its session. A tick at the deadline
-- answers the held connect, and the next connect fails.
abbrev pub HeldThroughOverflow : Type 0
HeldThroughOverflow =
    outs (small 8 1) (
    post 0 (handshake ∷ []) ∷ post 0 (subscribe 1 (codes "/a/b") ∷ []) ∷ post 0 (connect 1 ∷ []) ∷ post 0 (subscribe 1 (codes "/a/c") ∷ [])
    ∷ post 0 (publish 1 (codes "/a/b") (codes "1") ∷ []) ∷ Tick 30000 ∷ post 30000 (connect 1 ∷ []) ∷ [])
    ≡ out 0 (handshaken 1 ∷ []) ∷ out 1 (subscribed 1 (codes "/a/b") ∷ []) ∷ out 3 (subscribed 1 (codes "/a/c") ∷ []) ∷ out 4 (published (codes "/a/b") ∷ [])
    ∷ out 2 (connected 1 ∷ []) ∷ out 5 [] ∷ out 6 (connected_as 1 (Failed QueueOverflow) AckReply.NoAck ∷ []) ∷ []

-- With the standard limits, the 1,025th waiting event overflows a session, and its next connect
-- fails.
abbrev pub OverflowAt1025 : Type 0
OverflowAt1025 =
    drop 6 (outs standard (four_batches ++ post 0 (publish 1 (codes "/a/b") (codes "1") ∷ []) ∷ post 0 (connect_now 1 ∷ []) ∷ post 0 (publish 1 (codes "/a/b") (codes "1") ∷ []) ∷ []))
    ≡ out 6 (published (codes "/a/b") ∷ []) ∷ out 7 (connected_as 1 (Failed QueueOverflow) AckReply.NoAck ∷ []) ∷ out 8 (published (codes "/a/b") ∷ []) ∷ []

-- If 1,024 events wait, four connects get 256 events each, and a fifth gets none.
abbrev pub FourFullBatches : Type 0
FourFullBatches =
    drop 6 (outs standard (four_batches ++ post 0 (connect_now 1 ∷ []) ∷ post 0 (connect_now 1 ∷ []) ∷ post 0 (connect_now 1 ∷ []) ∷ post 0 (connect_now 1 ∷ []) ∷ post 0 (connect_now 1 ∷ []) ∷ []))
    ≡ out 6 full_batch ∷ out 7 full_batch ∷ out 8 full_batch ∷ out 9 full_batch ∷ out 10 (connected 1 ∷ []) ∷ []

-- ---- Texts of responses

-- The response to a handshake with the id `"1"` is the text below.
abbrev pub HandshakeText : Type 0
HandshakeText =
    texts standard (post 0 (record handshake { id = Some (codes "\"1\"") } ∷ []) ∷ [])
    ≡ codes "[{\"advice\":{\"interval\":0,\"reconnect\":\"retry\",\"timeout\":30000},\"channel\":\"/meta/handshake\",\"clientId\":\"000000000000000000000000000000000000000000000001\",\"id\":\"1\",\"successful\":true,\"supportedConnectionTypes\":[\"long-polling\",\"callback-polling\"],\"version\":\"1.0\"}]" ∷ []

-- The response to a handshake with version 2.0 is the text below.
abbrev pub RefusedText : Type 0
RefusedText =
    texts standard (post 0 (versioned (codes "2.0") ∷ []) ∷ [])
    ≡ codes "[{\"advice\":{\"interval\":0,\"reconnect\":\"none\"},\"channel\":\"/meta/handshake\",\"error\":\"400::Unsupported version\",\"successful\":false,\"supportedConnectionTypes\":[\"long-polling\",\"callback-polling\"],\"version\":\"1.0\"}]" ∷ []

-- In an acknowledging session, the responses to the handshake, to a subscription with a publish,
-- and to the first connect are the three texts below. The last one has the first batch.
abbrev pub BatchText : Type 0
BatchText =
    texts standard (
    post 0 (ack_handshake ∷ []) ∷ post 0 (subscribe 1 (codes "/a/*") ∷ publish 1 (codes "/a/x") (codes "[1, 2]") ∷ []) ∷ post 1 (ack_connect_now 1 0 ∷ []) ∷ [])
    ≡ codes "[{\"advice\":{\"interval\":0,\"reconnect\":\"retry\",\"timeout\":30000},\"channel\":\"/meta/handshake\",\"clientId\":\"000000000000000000000000000000000000000000000001\",\"ext\":{\"ack\":true},\"successful\":true,\"supportedConnectionTypes\":[\"long-polling\",\"callback-polling\"],\"version\":\"1.0\"}]"
    ∷ codes "[{\"channel\":\"/meta/subscribe\",\"clientId\":\"000000000000000000000000000000000000000000000001\",\"subscription\":\"/a/*\",\"successful\":true},{\"channel\":\"/a/x\",\"successful\":true}]"
    ∷ codes "[{\"channel\":\"/a/x\",\"data\":[1, 2]},{\"advice\":{\"interval\":0,\"reconnect\":\"retry\",\"timeout\":30000},\"channel\":\"/meta/connect\",\"clientId\":\"000000000000000000000000000000000000000000000001\",\"ext\":{\"ack\":1},\"successful\":true}]"
    ∷ []

-- The responses to a held connect, and to the publish that answers it, are the two texts below. The
-- event comes before the reply to the connect.
abbrev pub DeliveryText : Type 0
DeliveryText =
    drop 3 (texts standard (
    post 0 (handshake ∷ []) ∷ post 0 (handshake ∷ []) ∷ post 0 (subscribe 1 (codes "/a/*") ∷ []) ∷ post 10 (connect 1 ∷ []) ∷ post 20 (publish 2 (codes "/a/b") (codes "7") ∷ []) ∷ []))
    ≡ codes "[{\"channel\":\"/a/b\",\"data\":7},{\"advice\":{\"interval\":0,\"reconnect\":\"retry\",\"timeout\":30000},\"channel\":\"/meta/connect\",\"clientId\":\"000000000000000000000000000000000000000000000001\",\"successful\":true}]"
    ∷ codes "[{\"channel\":\"/a/b\",\"successful\":true}]" ∷ []

-- The body of a callback-polling response escapes a line separator (U+2028) in an event's data.
abbrev pub CallbackExample : Type 0
CallbackExample =
    callback_text (codes "cb.x") (EventItem (record { channel = codes "/a/b"; payload = codes "\"x" ++ (226 ∷ 128 ∷ 168 ∷ codes "y\""); id = Some (codes "7") }) ∷ [])
    ≡ codes "cb.x([{\"channel\":\"/a/b\",\"data\":\"x\\u2028y\",\"id\":7}])"

-- The body of a callback-polling response without items passes an empty array to the callback.
abbrev pub EmptyCallback : Type 0
EmptyCallback =
    callback_text (codes "jsonpcallback") [] ≡ codes "jsonpcallback([])"

-- ---- Cases that are easily mistaken

-- The response to a request with a disconnect and then a publish of one session is the text below.
-- The publish is rejected with error 402.
abbrev pub GoneText : Type 0
GoneText =
    drop 1 (texts standard (post 0 (handshake ∷ []) ∷ post 1 (disconnect 1 ∷ publish 1 (codes "/a/b") (codes "1") ∷ []) ∷ []))
    ≡ codes "[{\"channel\":\"/meta/disconnect\",\"clientId\":\"000000000000000000000000000000000000000000000001\",\"successful\":true},{\"advice\":{\"interval\":0,\"reconnect\":\"handshake\"},\"channel\":\"/a/b\",\"error\":\"402::Unknown client\",\"successful\":false}]" ∷ []

-- The response to a superseded connect is the text below, with error 408.
abbrev pub SupersededText : Type 0
SupersededText =
    drop 1 (texts standard two_connects)
    ≡ codes "[{\"channel\":\"/meta/connect\",\"clientId\":\"000000000000000000000000000000000000000000000001\",\"error\":\"408::Superseded connect\",\"successful\":false}]" ∷ []

-- The response to a connect of a session that has overflowed is the text below, with error 413.
abbrev pub OverflowText : Type 0
OverflowText =
    drop 3 (texts (small 2 8) (post 0 (handshake ∷ []) ∷ post 0 (subscribe 1 (codes "/a/b") ∷ []) ∷ post 0 (replicate 3 (publish 1 (codes "/a/b") (codes "1"))) ∷ post 0 (connect_now 1 ∷ []) ∷ []))
    ≡ codes "[{\"advice\":{\"interval\":0,\"reconnect\":\"handshake\"},\"channel\":\"/meta/connect\",\"clientId\":\"000000000000000000000000000000000000000000000001\",\"error\":\"413::Queue overflow\",\"successful\":false}]" ∷ []

-- The response to a request with two handshakes is the text below. The second handshake is rejected
-- with error 400.
abbrev pub SecondText : Type 0
SecondText =
    texts standard (post 0 (handshake ∷ handshake ∷ []) ∷ [])
    ≡ codes "[{\"advice\":{\"interval\":0,\"reconnect\":\"retry\",\"timeout\":30000},\"channel\":\"/meta/handshake\",\"clientId\":\"000000000000000000000000000000000000000000000001\",\"successful\":true,\"supportedConnectionTypes\":[\"long-polling\",\"callback-polling\"],\"version\":\"1.0\"},{\"channel\":\"/meta/handshake\",\"error\":\"400::Second handshake\",\"successful\":false,\"supportedConnectionTypes\":[\"long-polling\",\"callback-polling\"],\"version\":\"1.0\"}]" ∷ []

-- The responses to a held connect that a disconnect answers, and to the disconnect, are the two
-- texts below.
abbrev pub EndedText : Type 0
EndedText =
    drop 1 (texts standard (post 0 (handshake ∷ []) ∷ post 1 (connect 1 ∷ []) ∷ post 2 (disconnect 1 ∷ []) ∷ []))
    ≡ codes "[{\"advice\":{\"interval\":0,\"reconnect\":\"none\"},\"channel\":\"/meta/connect\",\"clientId\":\"000000000000000000000000000000000000000000000001\",\"successful\":true}]" ∷ codes "[{\"channel\":\"/meta/disconnect\",\"clientId\":\"000000000000000000000000000000000000000000000001\",\"successful\":true}]" ∷ []

-- The response to a request with seven faulty messages and one without a fault is the text below.
abbrev pub RefusalsText : Type 0
RefusalsText =
    drop 1 (texts standard refused_messages)
    ≡ codes "[{\"channel\":\"/meta/ping\",\"error\":\"404::Unknown meta channel\",\"successful\":false},{\"advice\":{\"interval\":0,\"reconnect\":\"handshake\"},\"channel\":\"/meta/connect\",\"error\":\"401::No client id\",\"successful\":false},{\"advice\":{\"interval\":0,\"reconnect\":\"handshake\"},\"channel\":\"/meta/disconnect\",\"error\":\"402::Unknown client\",\"successful\":false},{\"channel\":\"/meta/subscribe\",\"clientId\":\"000000000000000000000000000000000000000000000001\",\"error\":\"403::Subscription denied\",\"subscription\":\"/meta/*\",\"successful\":false},{\"channel\":\"/meta/subscribe\",\"clientId\":\"000000000000000000000000000000000000000000000001\",\"subscription\":\"/service/x\",\"successful\":true},{\"channel\":\"/meta/subscribe\",\"clientId\":\"000000000000000000000000000000000000000000000001\",\"error\":\"400::Missing subscription\",\"successful\":false},{\"channel\":\"/a/*\",\"error\":\"400::Invalid channel\",\"successful\":false},{\"channel\":\"/a\",\"error\":\"400::Missing data\",\"successful\":false}]" ∷ []

-- A rejected message advances the clock to its moment, so that the next tick closes a session that
-- is due by then.
abbrev pub RefusedMovesClock : Type 0
RefusedMovesClock =
    drop 2 (outs standard (post 0 (handshake ∷ []) ∷ post 20000 (blank (codes "/meta/ping") ∷ []) ∷ Tick 5 ∷ post 5 (connect_now 1 ∷ []) ∷ []))
    ≡ out 2 [] ∷ out 3 (unknown_client MessageKind.Connect (codes "/meta/connect") ∷ []) ∷ []

-- A request that is empty or unreadable does not advance the clock, so that the next tick does not
-- close the session.
abbrev pub EmptyKeepsClock : Type 0
EmptyKeepsClock =
    drop 1 (outs standard (post 0 (handshake ∷ []) ∷ post 20000 [] ∷ Unread NotJson ∷ Tick 5 ∷ post 5 (connect_now 1 ∷ []) ∷ []))
    ≡ out 1 [] ∷ record { input = 2; result = Err NotJson } ∷ out 3 [] ∷ out 4 (connected 1 ∷ []) ∷ []

-- A rejected message does not put off the due moment of its session.
abbrev pub RefusedKeepsDue : Type 0
RefusedKeepsDue =
    drop 2 (outs standard (post 0 (handshake ∷ []) ∷ post 9000 (record (connect 1) { connection = Text (codes "websocket") } ∷ []) ∷ Tick 10001 ∷ post 10001 (connect_now 1 ∷ []) ∷ []))
    ≡ out 2 [] ∷ out 3 (unknown_client MessageKind.Connect (codes "/meta/connect") ∷ []) ∷ []

-- A tick after both the deadline and the due moment answers the held connect, and then closes the
-- session.
abbrev pub HoldBeforeEnd : Type 0
HoldBeforeEnd =
    drop 1 (outs standard (post 0 (handshake ∷ []) ∷ post 1 (connect 1 ∷ []) ∷ Tick 50000 ∷ post 50000 (connect_now 1 ∷ []) ∷ []))
    ≡ out 1 (connected 1 ∷ []) ∷ out 2 [] ∷ out 3 (unknown_client MessageKind.Connect (codes "/meta/connect") ∷ []) ∷ []

-- In an acknowledging session, the reply to a held connect that a disconnect answers has the last
-- batch's number.
abbrev pub EndedWithNumber : Type 0
EndedWithNumber =
    drop 1 (outs standard (post 0 (ack_handshake ∷ []) ∷ post 1 (ack_connect 1 0 ∷ []) ∷ post 2 (disconnect 1 ∷ []) ∷ []))
    ≡ out 1 (connected_as 1 Disconnected (AckReply.AckNumber 0) ∷ []) ∷ out 2 (disconnected 1 ∷ []) ∷ []

-- In an acknowledging session, the reply to a superseded connect has no batch number.
abbrev pub SupersededWithoutNumber : Type 0
SupersededWithoutNumber =
    drop 1 (outs standard (post 0 (ack_handshake ∷ []) ∷ post 1 (ack_connect 1 0 ∷ []) ∷ post 2 (ack_connect_now 1 0 ∷ []) ∷ []))
    ≡ out 1 (connected_as 1 (Failed SupersededConnect) AckReply.NoAck ∷ []) ∷ out 2 (ack_connected 1 0 ∷ []) ∷ []

-- If the array `subscription` has a value that is not a string, faults of its strings are reported
-- first.
abbrev pub MixedArrays : Type 0
MixedArrays =
    drop 1 (outs standard (post 0 (handshake ∷ []) ∷ post 0 (mixed (codes "a") ∷ mixed (codes "/meta/x") ∷ mixed (codes "/x") ∷ []) ∷ []))
    ≡ out 1 (mixed_failed (codes "a") InvalidPattern ∷ mixed_failed (codes "/meta/x") SubscriptionDenied ∷ mixed_failed (codes "/x") MissingSubscription ∷ []) ∷ []

-- A server with as many sessions as its limit rejects a handshake. A disconnect before the
-- handshake, in one request, makes room.
abbrev pub FullServer : Type 0
FullServer =
    outs (crowded 1) (post 0 (handshake ∷ []) ∷ post 0 (handshake ∷ []) ∷ post 0 (disconnect 1 ∷ handshake ∷ []) ∷ [])
    ≡ out 0 (handshaken 1 ∷ []) ∷ out 1 (failed MessageKind.Handshake (codes "/meta/handshake") None TooManySessions ∷ []) ∷ out 2 (disconnected 1 ∷ handshaken 2 ∷ []) ∷ []

-- A session that overflows by a pattern too many does not recover by unsubscribing. Its next
-- connect fails.
abbrev pub OverflowOutlivesPatterns : Type 0
OverflowOutlivesPatterns =
    drop 3 (outs (small 8 1) (post 0 (handshake ∷ []) ∷ post 0 (subscribe 1 (codes "/a/b") ∷ subscribe 1 (codes "/c") ∷ []) ∷ post 0 (unsubscribe 1 (codes "/a/b") ∷ unsubscribe 1 (codes "/c") ∷ []) ∷ post 0 (connect_now 1 ∷ []) ∷ []))
    ≡ out 3 (connected_as 1 (Failed QueueOverflow) AckReply.NoAck ∷ []) ∷ []

-- Patterns of service channels do not count toward the limit of a session's patterns.
abbrev pub ServicePatternsAside : Type 0
ServicePatternsAside =
    drop 2 (outs (small 8 1) (post 0 (handshake ∷ []) ∷ post 0 (subscribe 1 (codes "/a/b") ∷ subscribe 1 (codes "/service/x") ∷ []) ∷ post 0 (connect_now 1 ∷ []) ∷ []))
    ≡ out 2 (connected 1 ∷ []) ∷ []

-- ---- Scripts

-- The lines of a script end at line feeds. The last line may lack its line feed.
abbrev pub ScriptLines : Type 0
ScriptLines =
    lines_of (codes "a" ++ 10 ∷ 10 ∷ codes "b") ∷ lines_of (codes "a" ++ 10 ∷ []) ∷ lines_of [] ∷ []
    ≡ (codes "a" ∷ [] ∷ codes "b" ∷ []) ∷ (codes "a" ∷ []) ∷ [] ∷ []

-- In a script, `007 T` is a tick at moment 7, and `0 S 64` changes the number of shards to 64. Nine
-- other lines are bad, among them three that only a record may have.
abbrev pub LineForms : Type 0
LineForms =
    map (line_of Script) (codes "7 F message=%5B%5D" ∷ codes "7 N 000000000000000000000000000000ff" ∷ codes "A 7 4f53cda18c2baa0c0354bb5f9a3ecbe5ed12ab4d8e11ba873c2f11161202b945" ∷ codes "007 T" ∷ codes "7 T " ∷ codes "x" ∷ codes "0 P" ∷ codes "18446744073709551616 T" ∷ codes "0 S 64" ∷ codes "0 S 65" ∷ [] ∷ [])
    ≡ Bad ∷ Bad ∷ Bad ∷ Accepted None (Tick 7) ∷ Bad ∷ Bad ∷ Bad ∷ Bad ∷ Resharded 64 ∷ Bad ∷ Bad ∷ []

-- In a record, a line of a moment, `N` and 32 hexadecimal digits announces a nonce. Six lines of
-- almost this form are bad.
abbrev pub NonceForms : Type 0
NonceForms =
    map (line_of Recorded) (codes "7 N 000000000000000000000000000000fF" ∷ codes "7 N 00000000000000000000000000000ff" ∷ codes "7 N 0000000000000000000000000000000ff" ∷ codes "7 N +00000000000000000000000000000ff" ∷ codes "7 N 000000000000000000000000000000fg" ∷ codes "7 N" ∷ codes "N 000000000000000000000000000000ff" ∷ [])
    ≡ Announced 255 ∷ Bad ∷ Bad ∷ Bad ∷ Bad ∷ Bad ∷ Bad ∷ []

-- In a record, a line of `A`, a number and 64 hexadecimal digits is the line of an answer. Eleven
-- lines of almost this form are bad.
abbrev pub NoteForms : Type 0
NoteForms =
    map (line_of Recorded) (codes "A 7 4f53cda18c2baa0c0354bb5f9a3ecbe5ed12ab4d8e11ba873c2f11161202b945" ∷ codes "A 18446744073709551615 4F53CDA18C2BAA0C0354BB5F9A3ECBE5ED12AB4D8E11BA873C2F11161202B945" ∷ codes "A 007 4f53cda18c2baa0c0354bb5f9a3ecbe5ed12ab4d8e11ba873c2f11161202b945" ∷ codes "A 18446744073709551616 4f53cda18c2baa0c0354bb5f9a3ecbe5ed12ab4d8e11ba873c2f11161202b945" ∷ codes "A 7 4f53cda18c2baa0c0354bb5f9a3ecbe5ed12ab4d8e11ba873c2f11161202b94" ∷ codes "A 7 4f53cda18c2baa0c0354bb5f9a3ecbe5ed12ab4d8e11ba873c2f11161202b9450" ∷ codes "A 7 4f53cda18c2baa0c0354bb5f9a3ecbe5ed12ab4d8e11ba873c2f11161202b94g" ∷ codes "A 7" ∷ codes "A  4f53cda18c2baa0c0354bb5f9a3ecbe5ed12ab4d8e11ba873c2f11161202b945" ∷ codes "A 4f53cda18c2baa0c0354bb5f9a3ecbe5ed12ab4d8e11ba873c2f11161202b945" ∷ codes "A 7  4f53cda18c2baa0c0354bb5f9a3ecbe5ed12ab4d8e11ba873c2f11161202b945" ∷ codes "A -7 4f53cda18c2baa0c0354bb5f9a3ecbe5ed12ab4d8e11ba873c2f11161202b945" ∷ codes "7 A 7 4f53cda18c2baa0c0354bb5f9a3ecbe5ed12ab4d8e11ba873c2f11161202b945" ∷ codes "a 7 4f53cda18c2baa0c0354bb5f9a3ecbe5ed12ab4d8e11ba873c2f11161202b945" ∷ [])
    ≡ Noted ∷ Noted ∷ Noted ∷ Bad ∷ Bad ∷ Bad ∷ Bad ∷ Bad ∷ Bad ∷ Bad ∷ Bad ∷ Bad ∷ Bad ∷ Bad ∷ []

-- An announced nonce is that of the next request, unless another one is announced before it. An
-- unreadable request uses up the nonce, too.
abbrev pub NoncesWait : Type 0
NoncesWait =
    with_nonces 0 (Accepted None (post 0 []) ∷ Announced 5 ∷ Announced 6 ∷ Accepted None (Tick 0) ∷ Bad ∷ Rejected 400 ∷ Resharded 2 ∷ Accepted None (post 7 []) ∷ Accepted None (post 8 []) ∷ Announced 9 ∷ Accepted None (Unread NotJson) ∷ Accepted None (post 10 []) ∷ [])
    ≡ Accepted None (post 0 []) ∷ Announced 5 ∷ Announced 6 ∷ Accepted None (Tick 0) ∷ Bad ∷ Rejected 400 ∷ Resharded 2 ∷ Accepted None (Request 7 6 []) ∷ Accepted None (post 8 []) ∷ Announced 9 ∷ Accepted None (Unread NotJson) ∷ Accepted None (post 10 []) ∷ []

-- A replay prints an answer at the line that gives it. It prints the lines of held connects last.
abbrev pub ScriptPrinted : Type 0
ScriptPrinted =
    (let ls = Accepted None (post 0 (handshake ∷ [])) ∷ Bad ∷ Accepted None (post 0 (connect 1 ∷ [])) ∷ Rejected 413 ∷ Accepted None (Tick 30000) ∷ Accepted None (post 30000 (connect 1 ∷ [])) ∷ [] in
    printed standard (inputs_from 1 ls) ls)
    ≡ (codes "1 200 [{\"advice\":{\"interval\":0,\"reconnect\":\"retry\",\"timeout\":30000},\"channel\":\"/meta/handshake\",\"clientId\":\"000000000000000000000000000000000000000000000001\",\"successful\":true,\"supportedConnectionTypes\":[\"long-polling\",\"callback-polling\"],\"version\":\"1.0\"}]" ++ 10 ∷ []) ++ (codes "2 bad" ++ 10 ∷ []) ++ (codes "4 413" ++ 10 ∷ []) ++ (codes "3 200 [{\"advice\":{\"interval\":0,\"reconnect\":\"retry\",\"timeout\":30000},\"channel\":\"/meta/connect\",\"clientId\":\"000000000000000000000000000000000000000000000001\",\"successful\":true}]" ++ 10 ∷ []) ++ (codes "6 held" ++ 10 ∷ [])

-- In the printed reply to a handshake, the client id begins with the nonce of the handshake's
-- request.
abbrev pub NoncePrinted : Type 0
NoncePrinted =
    (let ls = with_nonces 0 (Announced 255 ∷ Accepted None (post 0 (handshake ∷ [])) ∷ []) in
    printed standard (inputs_from 1 ls) ls)
    ≡ codes "2 200 [{\"advice\":{\"interval\":0,\"reconnect\":\"retry\",\"timeout\":30000},\"channel\":\"/meta/handshake\",\"clientId\":\"000000000000000000000000000000ff0000000000000001\",\"successful\":true,\"supportedConnectionTypes\":[\"long-polling\",\"callback-polling\"],\"version\":\"1.0\"}]" ++ 10 ∷ []

-- The line of an answer, between a nonce and its request, prints nothing and leaves the nonce for
-- the request.
abbrev pub NotePrinted : Type 0
NotePrinted =
    (let ls = with_nonces 0 (Announced 255 ∷ Noted ∷ Accepted None (post 0 (handshake ∷ [])) ∷ Noted ∷ Bad ∷ []) in
    printed standard (inputs_from 1 ls) ls)
    ≡ (codes "3 200 [{\"advice\":{\"interval\":0,\"reconnect\":\"retry\",\"timeout\":30000},\"channel\":\"/meta/handshake\",\"clientId\":\"000000000000000000000000000000ff0000000000000001\",\"successful\":true,\"supportedConnectionTypes\":[\"long-polling\",\"callback-polling\"],\"version\":\"1.0\"}]" ++ 10 ∷ []) ++ (codes "5 bad" ++ 10 ∷ [])
