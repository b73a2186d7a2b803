-- The JSON of replies, responses and callbacks, with members in byte order of their names.
use Rattle.std.specs.Prelude.{ℕ, List, [], ◌∷◌, ◌++◌, map, drop, nat_eq, codes, decimal, if◌then◌else◌, Option, Some, None}
use Rattle.std.specs.List.{starts_with}
use Rattle.json.specs.Print.{quoted}
pub use Rattle.bx_message.specs.Events.{member, object, array, raw_member, text_member, event_members, event_text, event_size}
use Rattle.bx_advice.specs.Errors.{error_text}
use Rattle.bx_advice.specs.declared.advice.{Advice.Advice, Reconnect.Reconnect, Outcome.Outcome}
use Rattle.bx_advice.specs.declared.advice.Reconnect.TheVariants.{Retry, Handshake, Never}
use Rattle.bx_advice.specs.declared.advice.Outcome.TheVariants.{Failed}
use Rattle.bx_message.specs.declared.{message_kind.MessageKind.MessageKind, reply.Reply.Reply, reply.Item.Item, reply.AckReply.AckReply}
use Rattle.bx_message.specs.declared.reply.Item.TheVariants.{EventItem, ReplyItem}
use Rattle.bx_message.specs.declared.reply.AckReply.TheVariants.{NoAck, AckTrue, AckNumber}

-- The member `name` with a number as its value, or no member if there is no number.
abbrev pub number_member : List ℕ → Option ℕ → List (List ℕ)
number_member name None = []
number_member name (Some n) = member name (decimal n) ∷ []

-- The value of the advice's field `reconnect`, without quotation marks.
abbrev pub reconnect_text : Reconnect → List ℕ
reconnect_text Retry = codes "retry"
reconnect_text Handshake = codes "handshake"
reconnect_text Never = codes "none"

-- The texts of an advice's members, in order: `interval`, `reconnect` and, if any, `timeout`.
abbrev pub advice_members : Advice → List (List ℕ)
advice_members a =
    member (codes "interval") (decimal a.interval)
    ∷ member (codes "reconnect") (quoted (reconnect_text a.reconnect))
    ∷ number_member (codes "timeout") a.timeout

-- The JSON text of an advice.
abbrev pub advice_text : Advice → List ℕ
advice_text a = object (advice_members a)

-- The member `advice` with this advice as its value, or no member if there is no advice.
abbrev pub advice_member : Option Advice → List (List ℕ)
advice_member None = []
advice_member (Some a) = member (codes "advice") (advice_text a) ∷ []

-- The member `ext`, an object with the one member `ack`: `true` or a number. There is no member for
-- `NoAck`. CometD's acknowledgement extension.
abbrev pub ack_member : AckReply → List (List ℕ)
ack_member NoAck = []
ack_member AckTrue = member (codes "ext") (object (member (codes "ack") (codes "true") ∷ [])) ∷ []
ack_member (AckNumber n) = member (codes "ext") (object (member (codes "ack") (decimal n) ∷ [])) ∷ []

-- The member `error` with the text of a failed outcome's error, or no member for other outcomes.
abbrev pub error_member : Outcome → List (List ℕ)
error_member (Failed error) = member (codes "error") (quoted (error_text error)) ∷ []
error_member _ = []

-- The value of `successful`: `false` if there is an error, otherwise `true`.
abbrev pub success_text : Outcome → List ℕ
success_text (Failed error) = codes "false"
success_text _ = codes "true"

-- The member `supportedConnectionTypes`, which only replies to handshakes have.
abbrev pub types_member : MessageKind → List (List ℕ)
types_member MessageKind.Handshake = member (codes "supportedConnectionTypes") (array (quoted (codes "long-polling") ∷ quoted (codes "callback-polling") ∷ [])) ∷ []
types_member _ = []

-- The member `version`, the protocol's version, which only replies to handshakes have.
abbrev pub version_member : MessageKind → List (List ℕ)
version_member MessageKind.Handshake = member (codes "version") (quoted (codes "1.0")) ∷ []
version_member _ = []

-- The members that only replies to handshakes have: the supported connection types and the version.
abbrev pub handshake_members : MessageKind → List (List ℕ)
handshake_members message_kind = types_member message_kind ++ version_member message_kind

-- The texts of a reply's members, in byte order of their names. Members without a value are left
-- out.
abbrev pub reply_members : Reply → List (List ℕ)
reply_members r =
    advice_member r.advice
    ++ text_member (codes "channel") (Some r.channel)
    ++ text_member (codes "clientId") r.client
    ++ error_member r.outcome
    ++ ack_member r.ack
    ++ raw_member (codes "id") r.id
    ++ raw_member (codes "subscription") r.subscription
    ++ raw_member (codes "successful") (Some (success_text r.outcome))
    ++ handshake_members r.message_kind

-- The JSON text of a reply.
abbrev pub reply_text : Reply → List ℕ
reply_text r = object (reply_members r)

-- The JSON text of an event or a reply.
abbrev pub item_text : Item → List ℕ
item_text (EventItem e) = event_text e
item_text (ReplyItem r) = reply_text r

-- The JSON text of a response: the array of its items.
abbrev pub body_text : List Item → List ℕ
body_text items = array (map item_text items)

-- U+2028 in UTF-8.
abbrev pub line_separator : List ℕ
line_separator = 226 ∷ 128 ∷ 168 ∷ []

-- U+2029 in UTF-8.
abbrev pub paragraph_separator : List ℕ
paragraph_separator = 226 ∷ 128 ∷ 169 ∷ []

-- The text with a line or paragraph separator at its start escaped, if it begins with one.
abbrev pub guarded : List ℕ → List ℕ
guarded xs =
    if starts_with nat_eq xs line_separator then codes "\\u2028" ++ drop 3 xs
    else (if starts_with nat_eq xs paragraph_separator then codes "\\u2029" ++ drop 3 xs else xs)

-- The text with all line and paragraph separators escaped, so that a script may contain it.
abbrev pub script_safe : List ℕ → List ℕ
script_safe [] = []
script_safe (x ∷ xs) = guarded (x ∷ script_safe xs)

-- The response to callback-polling: the function's `name`, then the array of `items` in
-- parentheses. Line and paragraph separators in the array are escaped.
abbrev pub callback_text : List ℕ → List Item → List ℕ
callback_text name items = name ++ (40 ∷ (script_safe (body_text items) ++ 41 ∷ []))
