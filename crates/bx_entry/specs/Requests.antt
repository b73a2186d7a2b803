-- The messages of a request, or the fault of its documents.
use Rattle.std.specs.Prelude.{ℕ, ⊤, ◌≡◌, ◌||◌, ◌&&◌, not, if◌then◌else◌, Bool, true, false, List, [], ◌∷◌, length, map, flat_map, nat_lt, Option, Some, None, is_some, option_map, option_and_then, Result, Ok, Err}
use Rattle.std.specs.List.{list_all, list_any}
use Rattle.bx_names.specs.{Faults.first_case, Faults.name_fault, Globs.Glob, Globs.any_matches, Kinds.is_broadcast, Segments.segments}
use Rattle.bx_cut.specs.declared.{error.CutError.CutError, document.TheConstants.MAX_MESSAGES}
use Rattle.bx_cut.specs.declared.error.CutError.TheVariants as cuts
use Rattle.bx_cut.specs.Words.{fault, Object, pieces, texts_of}
use Rattle.bx_message.specs.declared.message.Message.{Message}
use Rattle.bx_message.specs.Fields.{message_in}
use Rattle.bx_entry.specs.Inputs.{ReadInput, Request, Unread}
use Rattle.bx_entry.specs.declared.{access.Access.Access, input.AdmitFault.AdmitFault, input.Arrival.Arrival, input.Input.Input, input.Refusal.Refusal}
use Rattle.bx_entry.specs.declared.{access.Access.TheVariants.ReadOnly, access.Access.TheVariants.ReadWrite, input.AdmitFault.TheVariants.Memory, input.AdmitFault.TheVariants.Refused}
use Rattle.bx_entry.specs.declared.input.Input.TheVariants.{Post}
use Rattle.bx_entry.specs.declared.input.Refusal.TheVariants.{NotJson, NotObject, TooMany, NoChannel, Forbidden}

-- ---- Documents

-- A document that is split into the objects of its messages, or its fault.
abbrev pub Cut : Type 0
Cut = Result (List Object) CutError

-- The fault of a document, if any, and otherwise its objects.
abbrev pub cut_by : Option CutError → List Object → Cut
cut_by None objects = Ok objects
cut_by (Some e) objects = Err e

-- The objects of a document's text, or its fault.
abbrev pub cut_of : List ℕ → Cut
cut_of document = cut_by (fault document) (pieces document)

-- Whether a document is not JSON.
abbrev pub is_not_json : Cut → Bool
is_not_json (Err cuts.NotJson) = true
is_not_json _ = false

-- Whether a JSON document is neither an object nor an array of objects.
abbrev pub is_not_object : Cut → Bool
is_not_object (Err cuts.NotObject) = true
is_not_object _ = false

-- Whether one document alone has too many messages.
abbrev pub is_too_many : Cut → Bool
is_too_many (Err cuts.TooMany) = true
is_too_many _ = false

-- The objects of a document, or none if it has a fault.
abbrev pub objects_in : Cut → List Object
objects_in (Ok objects) = objects
objects_in (Err e) = []

-- The objects of all documents, in order.
abbrev pub objects_of : List Cut → List Object
objects_of cs = flat_map objects_in cs

-- ---- Requests

-- The first fault that applies to any document: `NotJson`, `NotObject` or `TooMany`. Messages are
-- counted over all documents.
abbrev pub cut_fault : List Cut → Option Refusal
cut_fault cs = first_case (
    (list_any is_not_json cs, NotJson)
    ∷ (list_any is_not_object cs, NotObject)
    ∷ (list_any is_too_many cs || nat_lt MAX_MESSAGES (length (objects_of cs)), TooMany)
    ∷ [])

-- The messages in these objects, if each object has a channel.
abbrev pub all_messages : List Object → Option (List Message)
all_messages [] = Some []
all_messages (o ∷ os) = option_and_then (λ m. option_map (λ ms. m ∷ ms) (all_messages os)) (message_in o.1)

-- The messages, or the fault that one has no channel.
abbrev pub with_channels : Option (List Message) → Result (List Message) Refusal
with_channels None = Err NoChannel
with_channels (Some ms) = Ok ms

-- The messages of split documents, unless they have this fault. Without it, the result is still
-- `NoChannel` if a message has no channel.
abbrev pub messages_by : List Cut → Option Refusal → Result (List Message) Refusal
messages_by cs None = with_channels (all_messages (objects_of cs))
messages_by cs (Some f) = Err f

-- The messages of split documents, or the first of the faults `NotJson`, `NotObject`, `TooMany` and
-- `NoChannel` that applies.
abbrev pub messages_of : List Cut → Result (List Message) Refusal
messages_of cs = messages_by cs (cut_fault cs)

-- The messages of all documents in order, or the first fault that applies, whatever the listener
-- allows.
abbrev pub request_messages : List (List ℕ) → Result (List Message) Refusal
request_messages documents = messages_of (map cut_of documents)

-- ---- Listeners

-- Whether the read-only listener with the patterns `ps` allows messages to this channel. A
-- broadcast channel must be a valid name that one of the patterns matches.
abbrev pub allows : List Glob → List ℕ → Bool
allows ps channel = not (is_broadcast channel) || (not (is_some (name_fault channel)) && any_matches ps (segments channel))

-- Whether the read-only listener with the patterns `ps` allows each of the messages.
abbrev pub allows_all : List Glob → List Message → Bool
allows_all ps ms = list_all (λ m. allows ps m.channel) ms

-- The messages that the listener allows. The read-only listener rejects a request with a message
-- that it does not allow.
abbrev pub let_in : Access → Result (List Message) Refusal → Result (List Message) Refusal
let_in ReadWrite messages = messages
let_in (ReadOnly ps) (Ok ms) = if allows_all ps ms then Ok ms else Err Forbidden
let_in (ReadOnly ps) (Err f) = Err f

-- The messages of a request as it arrived, or the first fault.
abbrev pub arrival_messages : Arrival → Result (List Message) Refusal
arrival_messages a = let_in a.access (request_messages (texts_of a.bodies))

-- A program may report this fault instead of `messages`: the fault of their documents, or at any
-- time that memory ran out.
abbrev pub IsUnread : Result (List Message) Refusal → AdmitFault → Type 0
IsUnread messages (Refused refusal) = messages ≡ Err refusal
IsUnread messages Memory = ⊤

-- ---- Inputs

-- A request with these messages, or with this fault of its documents.
abbrev pub read_by : ℕ → ℕ → Result (List Message) Refusal → ReadInput
read_by moment nonce (Ok ms) = Request moment nonce ms
read_by moment nonce (Err f) = Unread f

-- An input after its documents are read.
abbrev pub read_input : Input → ReadInput
read_input (Post a) = read_by a.moment a.nonce (arrival_messages a)
read_input (Input.Tick moment) = ReadInput.Tick moment
