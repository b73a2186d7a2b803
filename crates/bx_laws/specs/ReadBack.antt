-- The JSON values of the texts of replies, events and responses, by the grammar of `serde_json`.
use Rattle.std.specs.Prelude.{◌≡◌, ℕ, suc, ◌^◌, ◌<◌, ◌≤◌, List, [], ◌∷◌, ◌++◌, map, codes, Bool, true, false, Option, Some, None, option_map, option_and_then, IfSome, ⊤}
use Rattle.std.specs.{List.list_all, Ordering.nat_cmp, Ordering.match_ordering, Cmp.Lexicographic.slice_cmp}
use Rattle.json.specs.Json as json
use Rattle.json.specs.{Lex.tokens, Tree.json_tokens}
use Rattle.serde_json.specs.Data.{Data, unsigned, boolean, number, string, array, object, Items, no_items, item, Members, no_members, member}
use Rattle.serde_json.specs.Read.{of_json}
use Rattle.bx_advice.specs.Errors.{error_text}
use Rattle.bx_advice.specs.declared.{advice.Advice.Advice, advice.Outcome.Outcome, advice.Outcome.TheVariants.Failed}
use Rattle.bx_message.specs.declared.{message_kind.MessageKind.MessageKind, event.Event.Event, reply.Reply.Reply, reply.Item.Item, reply.AckReply.AckReply}
use Rattle.bx_message.specs.declared.reply.AckReply.TheVariants.{NoAck, AckTrue, AckNumber}
use Rattle.bx_message.specs.Texts.{reconnect_text, reply_text, event_text, item_text, body_text}

-- ---- Reading

-- The value of a JSON text with arrays and objects nested at most `levels` deep, or `None` for any
-- other text. The function `read` of `serde_json` has a fixed number of levels.
abbrev pub read_within : ℕ → List ℕ → Option Data
read_within levels text = option_and_then of_json (option_and_then (λ p. json.if_last p.0 p.1) (json.value levels (tokens text)))

-- The text is a JSON text with this value, by `read_within`, or both are missing.
abbrev pub ReadsAs : ℕ → Option (List ℕ) → Option Data → Type 0
ReadsAs levels None None = ⊤
ReadsAs levels None (Some d) = ⊥
ReadsAs levels (Some text) None = ⊥
ReadsAs levels (Some text) (Some d) = read_within levels text ≡ Some d

-- Each text is a JSON text, by `read_within`, and its value is the item at its position. There is
-- an item for each text, and a text for each item.
abbrev pub AllReadAs : ℕ → List (List ℕ) → Items → Type 0
AllReadAs levels [] no_items = ⊤
AllReadAs levels [] (item d ds) = ⊥
AllReadAs levels (text ∷ texts) no_items = ⊥
AllReadAs levels (text ∷ texts) (item d ds) = (read_within levels text ≡ Some d) × AllReadAs levels texts ds

-- ---- Objects

-- A member's name, and its value if the member is present.
abbrev pub Row : Type 0
Row = List ℕ × Option Data

-- The members of `rows` that are present, in order.
abbrev pub members_in : List Row → Members
members_in [] = no_members
members_in ((name, None) ∷ rows) = members_in rows
members_in ((name, Some d) ∷ rows) = member name d (members_in rows)

-- The names of the members of `rows` that are present, in order.
abbrev pub names_in : List Row → List (List ℕ)
names_in [] = []
names_in ((name, None) ∷ rows) = names_in rows
names_in ((name, Some d) ∷ rows) = name ∷ names_in rows

-- The unescaped names of an object's members, in the order of its text, with repetitions.
abbrev pub keys : json.Members → List (List ℕ)
keys json.no_members = []
keys (json.member k j ms) = k ∷ keys ms

-- Whether the name `n` comes after the name `m` in byte order.
abbrev pub stands_behind : List ℕ → List ℕ → Bool
stands_behind n m = match_ordering (slice_cmp nat_cmp n m) false false true

-- Each name in the second list comes after all names in `before`, and after those that precede it
-- in its own list, in byte order.
abbrev pub Ascend : List (List ℕ) → List (List ℕ) → Type 0
Ascend before [] = ⊤
Ascend before (n ∷ ns) = (list_all (stands_behind n) before ≡ true) × Ascend (before ++ n ∷ []) ns

-- `text` is a JSON object of the members of `rows` that are present, in the order of `rows`. The
-- names in `rows` ascend. Arrays and objects are nested at most `levels` deep.
pub record IsObjectOf (levels : ℕ) (text : List ℕ) (rows : List Row) : Type 0 where
  pub reads : read_within levels text ≡ Some (object (members_in rows))
  pub order : (ms : json.Members) × (tokens text ≡ json_tokens (json.object ms)) × (keys ms ≡ names_in rows)
  pub ascend : Ascend [] (map (λ (row : Row). row.0) rows)

-- ---- Replies

-- The JSON number `n`.
abbrev pub count : ℕ → Data
count n = number (unsigned n)

-- The members of the object that is a reply's `advice`.
abbrev pub advice_rows : Advice → List Row
advice_rows a = (codes "interval", Some (count a.interval)) ∷ (codes "reconnect", Some (string (reconnect_text a.reconnect))) ∷ (codes "timeout", option_map count a.timeout) ∷ []

-- A JSON object with the only member `ack`, which has the value `d`.
abbrev pub ack_object : Data → Data
ack_object d = object (members_in ((codes "ack", Some d) ∷ []))

-- The value of a reply's member `ext`, or `None` if the reply has no such member.
abbrev pub ext_data : AckReply → Option Data
ext_data NoAck = None
ext_data AckTrue = Some (ack_object (boolean true))
ext_data (AckNumber n) = Some (ack_object (count n))

-- The value of a reply's member `error`, or `None` if the outcome is no error.
abbrev pub error_data : Outcome → Option Data
error_data (Failed error) = Some (string (error_text error))
error_data _ = None

-- Whether the outcome is no error.
abbrev pub succeeds : Outcome → Bool
succeeds (Failed error) = false
succeeds _ = true

-- The value `d` in the reply to a handshake, and `None` in any other reply.
abbrev pub for_handshake : MessageKind → Data → Option Data
for_handshake MessageKind.Handshake d = Some d
for_handshake _ d = None

-- The JSON array of the two connection types that the server supports.
abbrev pub connection_types : Data
connection_types = array (item (string (codes "long-polling")) (item (string (codes "callback-polling")) no_items))

-- The members of the reply `r`. `id` and `subscription`: the values of the reply's id and
-- subscription, which are JSON texts. Bayeux 1.0, the responses of the meta messages and of
-- publish; CometD's acknowledgement extension.
abbrev pub reply_rows : Reply → Option Data → Option Data → List Row
reply_rows r id subscription =
    (codes "advice", option_map (λ a. object (members_in (advice_rows a))) r.advice)
    ∷ (codes "channel", Some (string r.channel))
    ∷ (codes "clientId", option_map string r.client)
    ∷ (codes "error", error_data r.outcome)
    ∷ (codes "ext", ext_data r.ack)
    ∷ (codes "id", id)
    ∷ (codes "subscription", subscription)
    ∷ (codes "successful", Some (boolean (succeeds r.outcome)))
    ∷ (codes "supportedConnectionTypes", for_handshake r.message_kind connection_types)
    ∷ (codes "version", for_handshake r.message_kind (string (codes "1.0")))
    ∷ []

-- The numbers in `advice` fit in 64 bits.
abbrev pub AdviceFits : Advice → Type 0
AdviceFits a = (a.interval < 2 ^ 64) × IfSome a.timeout (λ t. t < 2 ^ 64)

-- The batch number in a reply, if any, fits in 64 bits.
abbrev pub AckFits : AckReply → Type 0
AckFits NoAck = ⊤
AckFits AckTrue = ⊤
AckFits (AckNumber n) = n < 2 ^ 64

-- The id and the subscription of `r`, if present, are JSON texts with the values `id` and
-- `subscription`. If one of them is missing, its value is `None`. The numbers in `r` fit in 64
-- bits.
pub record ReplyParts (levels : ℕ) (r : Reply) (id subscription : Option Data) : Type 0 where
  pub id_reads : ReadsAs levels r.id id
  pub subscription_reads : ReadsAs levels r.subscription subscription
  pub advice_fits : IfSome r.advice AdviceFits
  pub ack_fits : AckFits r.ack

-- The text of a reply is a JSON object with exactly the members that `reply_rows` has. The id and
-- the subscription in the reply must be JSON texts, and its numbers must fit in 64 bits.
abbrev pub RepliesReadBack : Type 0
RepliesReadBack = (levels : ℕ) (r : Reply) (id subscription : Option Data) → 1 ≤ levels → ReplyParts levels r id subscription → IsObjectOf (suc levels) (reply_text r) (reply_rows r id subscription)

-- ---- Events and responses

-- The members of the event `e`. `payload` and `id`: the values of the event's data and id, which
-- are JSON texts. Bayeux 1.0, event messages.
abbrev pub event_rows : Event → Data → Option Data → List Row
event_rows e payload id = (codes "channel", Some (string e.channel)) ∷ (codes "data", Some payload) ∷ (codes "id", id) ∷ []

-- The text of an event is a JSON object with its channel, its data and, if it has one, its id. The
-- data and the id must be JSON texts.
abbrev pub EventsReadBack : Type 0
EventsReadBack = (levels : ℕ) (e : Event) (payload : Data) (id : Option Data) → read_within levels e.payload ≡ Some payload → ReadsAs levels e.id id → IsObjectOf (suc levels) (event_text e) (event_rows e payload id)

-- The text of a response is a JSON array of the values of its items, if the texts of the items are
-- JSON texts.
abbrev pub BodiesReadBack : Type 0
BodiesReadBack = (levels : ℕ) (items : List Item) (ds : Items) → AllReadAs levels (map item_text items) ds → read_within (suc levels) (body_text items) ≡ Some (array ds)
