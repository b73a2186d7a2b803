-- The text of a record: the lines of a server's requests and ticks.
use Rattle.std.specs.Prelude.{ℕ, Bool, false, List, [], ◌∷◌, ◌++◌, length, map, flat_map, nat_le, codes, if◌then◌else◌, Option, Some, None}
use Rattle.std.specs.List.{list_any, join_with_byte}
use Rattle.form_urlencoded.specs.Form.{byte_serialize}
use Rattle.bx_advice.specs.declared.limit.TheConstants.{BODY_LIMIT}
use Rattle.bx_cut.specs.Bodies.{texts_of}
use Rattle.bx_message.specs.MessageKinds.{is_handshake}
use Rattle.bx_entry.specs.declared.{input.Input.Input, input.Input.TheVariants.Post}
use Rattle.bx_entry.specs.declared.input.Input.TheVariants as inputs
use Rattle.bx_entry.specs.Words.{ReadInput, Request, read_input}
use Rattle.bx_entry.specs.Registry.{hex_digits}
use Rattle.bx_script.specs.Words.{is_newline, line_text, with_nonce}

-- ---- Documents

-- The document that a line can contain unchanged, if any: the only one of its request, without a
-- newline.
abbrev pub plain_document : List (List ℕ) → Option (List ℕ)
plain_document (d ∷ []) = if list_any is_newline d then None else Some d
plain_document documents = None

-- The form parameter `message` that carries a document.
abbrev pub parameter_of : List ℕ → List ℕ
parameter_of document = codes "message=" ++ byte_serialize document

-- The form that carries documents in order.
unfoldable pub form_of : List (List ℕ) → List ℕ
form_of documents = join_with_byte 38 (map parameter_of documents)

-- The body that carries documents: the one that a line can contain unchanged, if given, and
-- otherwise a form of all of them.
abbrev pub carrier_by : Option (List ℕ) → List (List ℕ) → List ℕ
carrier_by (Some d) documents = d
carrier_by None documents = form_of documents

-- The part of a request's line after the moment: `P` and the document that a line can contain
-- unchanged, if given, and otherwise `F` and a form of all documents.
abbrev pub command_by : Option (List ℕ) → List (List ℕ) → List ℕ
command_by (Some d) documents = codes "P " ++ d
command_by None documents = codes "F " ++ form_of documents

abbrev pub command_of : List (List ℕ) → List ℕ
command_of documents = command_by (plain_document documents) documents

-- Whether a line can express the documents: at least one, in a body of at most `BODY_LIMIT` bytes.
abbrev pub can_say : List (List ℕ) → Bool
can_say [] = false
can_say documents = nat_le (length (carrier_by (plain_document documents) documents)) BODY_LIMIT

-- ---- Inputs

-- Whether an input has a handshake, which makes a client id from the nonce.
abbrev pub asks_for_session : ReadInput → Bool
asks_for_session (Request moment nonce ms) = list_any is_handshake ms
asks_for_session input = false

-- The 32 hexadecimal digits of a nonce.
unfoldable pub nonce_digits : ℕ → List ℕ
nonce_digits nonce = hex_digits 32 nonce

-- The line that gives the next request its nonce, or no text if the request does not use it.
abbrev pub nonce_text : Bool → ℕ → ℕ → List ℕ
nonce_text used moment nonce = if used then line_text moment (codes "N " ++ nonce_digits nonce) else []

-- The lines of an input in a record: one for the nonce, if the input uses it, and one for the
-- request or tick.
abbrev pub input_text : Input → List ℕ
input_text (Post a) = nonce_text (asks_for_session (read_input (Post a))) a.moment a.nonce ++ line_text a.moment (command_of (texts_of a.bodies))
input_text (inputs.Tick moment) = line_text moment (codes "T")

-- The text of the record of the inputs, in order.
abbrev pub record_of : List Input → List ℕ
record_of inputs = flat_map input_text inputs

-- An input as it is read from its record. If the input does not use its nonce, the nonce is 0.
abbrev pub as_recorded : ReadInput → ReadInput
as_recorded input = if asks_for_session input then input else with_nonce 0 input
