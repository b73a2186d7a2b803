-- What a replay prints for the bytes of a script.
use Rattle.std.specs.Prelude.{ℕ, ◌+◌, ◌==◌, ◌&&◌, Bool, List, [], ◌∷◌, ◌++◌, length, map, flat_map, fold, drop, nat_lt, nat_eq, nat_le, codes, decimal, if◌then◌else◌, Option, Some, None, is_some, slice_get, Result, Ok, Err}
use Rattle.std.specs.{Char.is_ascii_hexdigit, List.starts_with, List.slice_split, List.before_first, List.after_first, List.list_all, Str.bytes_eq, Str.Parse.digits_value}
use Rattle.bx_advice.specs.declared.{config.Config.Config, limit.TheConstants.BODY_LIMIT}
use Rattle.bx_message.specs.declared.reply.Item.{Item}
use Rattle.bx_message.specs.{Fields.number_of, Statuses.code_of, Texts.body_text, Texts.callback_text}
use Rattle.bx_entry.specs.declared.input.Refusal.{Refusal}
use Rattle.bx_entry.specs.Inputs.{ReadInput, Request, Unread, Tick}
use Rattle.bx_entry.specs.Words.{request_messages, read_by, refusal_status, Out, Whole, wholes, whole_at, held}
use Rattle.bx_transport.specs.declared.error.TransportError.{TransportError}
use Rattle.bx_transport.specs.{Statuses.transport_status, Transports.get_taken, Transports.post_taken}

-- ---- Lines

abbrev pub is_newline : ℕ → Bool
is_newline byte = byte == 10

abbrev pub is_space : ℕ → Bool
is_space byte = byte == 32

-- The parts between newlines, without the last one if it is empty.
abbrev pub without_empty_end : List (List ℕ) → List (List ℕ)
without_empty_end [] = []
without_empty_end ([] ∷ []) = []
without_empty_end ((x ∷ xs) ∷ []) = (x ∷ xs) ∷ []
without_empty_end (part ∷ next ∷ parts) = part ∷ without_empty_end (next ∷ parts)

abbrev pub lines_of : List ℕ → List (List ℕ)
lines_of script = without_empty_end (slice_split is_newline script)

-- ---- What a line means

-- A script, or a record of what a server admitted, which has three more kinds of lines.
pub data Dialect : Type 0 where
  Script : Dialect
  Recorded : Dialect

-- What a body or a query is read as: an error with its status, or documents. The documents of a
-- query come with the name of its callback.
pub data Taken : Type 0 where
  Refused : (status : ℕ) → Taken
  Documents : (callback : Option (List ℕ)) → (documents : List (List ℕ)) → Taken

-- A body or query that is rejected for a transport error, with the status of the error.
abbrev pub not_taken : TransportError → Taken
not_taken error = Refused (code_of (transport_status error))

-- What a body is read as: its documents, without a callback, or an error.
abbrev pub body_by : Result (List (List ℕ)) TransportError → Taken
body_by (Ok documents) = Documents None documents
body_by (Err error) = not_taken error

-- What the body of a POST without a content type is read as.
abbrev pub body_taken : List ℕ → Taken
body_taken body = body_by (post_taken None body)

-- What a form is read as: the body of a POST with the media type of forms.
abbrev pub form_taken : List ℕ → Taken
form_taken form = body_by (post_taken (Some (codes "application/x-www-form-urlencoded")) form)

-- What a query is read as: its documents with the name of its callback, or an error.
abbrev pub query_by : Result (List ℕ × List (List ℕ)) TransportError → Taken
query_by (Ok query) = Documents (Some query.0) query.1
query_by (Err error) = not_taken error

-- What the query of a GET is read as.
abbrev pub query_taken : List ℕ → Taken
query_taken query = query_by (get_taken query)

-- The meaning of a line: malformed, a body or query that is rejected, an input, a number of shards,
-- a nonce, or a note. An input comes with the name of its callback, if it is a GET. A nonce is that
-- of the next request. A note is that of an answer.
pub data Line : Type 0 where
  Bad : Line
  Rejected : (status : ℕ) → Line
  Accepted : (callback : Option (List ℕ)) → (input : ReadInput) → Line
  Resharded : (shards : ℕ) → Line
  Announced : (nonce : ℕ) → Line
  Noted : Line

-- The line of a request at `moment`, or a rejected line. The nonce of the request is 0 until
-- `with_nonces` sets it.
abbrev pub handed_by : ℕ → Taken → Line
handed_by moment (Refused status) = Rejected status
handed_by moment (Documents callback documents) = Accepted callback (read_by moment 0 (request_messages documents))

-- A line that changes the number of shards. It is bad unless the number is from 1 to 64.
abbrev pub reshards : Option ℕ → Line
reshards None = Bad
reshards (Some shards) = if nat_lt 0 shards && nat_le shards 64 then Resharded shards else Bad

-- A line that changes the number of shards to that in `digits`. It is bad if `digits` has more than
-- `BODY_LIMIT` bytes, or its number is not from 1 to 64.
abbrev pub resharded_by : List ℕ → Line
resharded_by digits = if nat_lt BODY_LIMIT (length digits) then Bad else reshards (number_of digits)

-- The value of 32 hexadecimal digits of either case. Other texts have none.
abbrev pub nonce_of : List ℕ → Option ℕ
nonce_of digits = if length digits == 32 && list_all is_ascii_hexdigit digits then Some (digits_value 16 digits) else None

-- A line that announces the nonce of the next request. It is bad if there is no nonce.
abbrev pub announces : Option ℕ → Line
announces None = Bad
announces (Some nonce) = Announced nonce

-- A line that announces the nonce with these digits. It is bad unless they are 32 hexadecimal
-- digits.
abbrev pub announced_by : List ℕ → Line
announced_by digits = announces (nonce_of digits)

-- What a line means with the command `rest` after its moment, if only a record can have the
-- command: a form or a nonce. Any other line, and every line of a script, is bad.
abbrev pub recorded_command : Dialect → ℕ → List ℕ → Line
recorded_command Script moment rest = Bad
recorded_command Recorded moment rest =
    if starts_with nat_eq rest (codes "F ") then handed_by moment (form_taken (drop 2 rest))
    else (if starts_with nat_eq rest (codes "N ") then announced_by (drop 2 rest) else Bad)

-- What a line means with the command `rest` after its moment. The command is a tick, a body, a
-- query or a number of shards. In a record, it can also be a form or a nonce. Any other line is
-- bad.
abbrev pub command : Dialect → ℕ → List ℕ → Line
command dialect moment rest =
    if bytes_eq rest (codes "T") then Accepted None (Tick moment)
    else (if starts_with nat_eq rest (codes "P ") then handed_by moment (body_taken (drop 2 rest))
    else (if starts_with nat_eq rest (codes "G ") then handed_by moment (query_taken (drop 2 rest))
    else (if starts_with nat_eq rest (codes "S ") then resharded_by (drop 2 rest)
    else recorded_command dialect moment rest)))

-- What a line means with a moment and, after it, the command `rest`. The line is bad if no moment
-- could be parsed.
abbrev pub line_by : Dialect → Option ℕ → List ℕ → Line
line_by dialect None rest = Bad
line_by dialect (Some moment) rest = command dialect moment rest

-- What a text means: a moment that fits in 64 bits, a space and a command. Any other text is bad.
abbrev pub timed_line : Dialect → List ℕ → Line
timed_line dialect text = line_by dialect (number_of (before_first is_space text)) (after_first is_space text)

-- Whether these are 64 hexadecimal digits of either case.
abbrev pub is_digest : List ℕ → Bool
is_digest digits = length digits == 64 && list_all is_ascii_hexdigit digits

-- What the text after `A` and a space means. The text is the note of an answer if it is a place
-- that fits in 64 bits, a space and a digest. Any other text, and one of more than `BODY_LIMIT`
-- bytes, is bad.
abbrev pub noted_by : List ℕ → Line
noted_by note =
    if nat_lt BODY_LIMIT (length note) then Bad
    else (if is_some (number_of (before_first is_space note)) && is_digest (after_first is_space note) then Noted else Bad)

-- The meaning of a line: one with a moment or, in a record, the note of an answer.
abbrev pub line_of : Dialect → List ℕ → Line
line_of Script text = timed_line Script text
line_of Recorded text = if starts_with nat_eq text (codes "A ") then noted_by (drop 2 text) else timed_line Recorded text

-- The meanings of the lines of a text.
abbrev pub lines_in : Dialect → List ℕ → List Line
lines_in dialect text = map (line_of dialect) (lines_of text)

-- ---- Nonces

-- The input with `nonce`, if it is a request that can be read. Any other input is unchanged.
abbrev pub with_nonce : ℕ → ReadInput → ReadInput
with_nonce nonce (Request moment other messages) = Request moment nonce messages
with_nonce nonce (Unread fault) = Unread fault
with_nonce nonce (Tick moment) = Tick moment

-- The line with `nonce` in its request. A line without a request is unchanged.
abbrev pub line_with : ℕ → Line → Line
line_with nonce (Accepted callback input) = Accepted callback (with_nonce nonce input)
line_with nonce line = line

-- The nonce for the next request, after an input. After a request, even one that is rejected for
-- its documents, the nonce is 0. After a tick, it is `nonce` as before.
abbrev pub nonce_left : ℕ → ReadInput → ℕ
nonce_left nonce (Request moment other messages) = 0
nonce_left nonce (Unread fault) = 0
nonce_left nonce (Tick moment) = nonce

-- The nonce that the next request gets, after one more line is read. `nonce`: what the next request
-- would get before that line. A line that announces a nonce replaces `nonce`. A line with an input
-- results in `nonce_left`. Any other line changes nothing.
abbrev pub nonce_after : ℕ → Line → ℕ
nonce_after nonce (Announced other) = other
nonce_after nonce (Accepted callback input) = nonce_left nonce input
nonce_after nonce line = nonce

-- The nonce for the next request, after these lines. It is 0 at first.
abbrev pub nonce_at : List Line → ℕ
nonce_at ls = fold nonce_after 0 ls

-- The lines, with the nonces set in the requests. `nonce`: the one for the first request, unless a
-- line announces another.
abbrev pub with_nonces : ℕ → List Line → List Line
with_nonces nonce [] = []
with_nonces nonce (line ∷ ls) = line_with nonce line ∷ with_nonces (nonce_after nonce line) ls

-- ---- Inputs

-- An input with the number of its line and the name of its callback.
pub record Numbered : Type 0 where
  pub line : ℕ
  pub callback : Option (List ℕ)
  pub input : ReadInput

-- The inputs among lines, which are numbered from `number` on.
abbrev pub inputs_from : ℕ → List Line → List Numbered
inputs_from number [] = []
inputs_from number (Accepted callback input ∷ ls) = record { line = number; callback = callback; input = input } ∷ inputs_from (number + 1) ls
inputs_from number (_ ∷ ls) = inputs_from (number + 1) ls

-- ---- What is printed

abbrev pub line_text : ℕ → List ℕ → List ℕ
line_text number text = decimal number ++ (32 ∷ (text ++ 10 ∷ []))

-- The body of a response: the array, or the call of the callback with it.
abbrev pub response_text : Option (List ℕ) → List Item → List ℕ
response_text None items = body_text items
response_text (Some name) items = callback_text name items

-- What is printed for an input once all its messages are answered. If the input is rejected, it is
-- the status. Otherwise it is nothing for a tick, and 200 and the response for a request.
abbrev pub result_text : Numbered → ReadInput → Result (List Item) Refusal → List ℕ
result_text n input (Err refusal) = line_text n.line (decimal (code_of (refusal_status refusal)))
result_text n (Tick moment) (Ok items) = []
result_text n _ (Ok items) = line_text n.line (codes "200 " ++ response_text n.callback items)

-- What is printed for the out `o` of the input `n`, or nothing if there is no such input.
abbrev pub out_by : Out → Option Numbered → List ℕ
out_by o None = []
out_by o (Some n) = result_text n n.input o.result

-- What is printed when the input number `index` is applied: the results of all inputs that it
-- completes. An input is complete once all its messages are answered.
abbrev pub outs_at : List Whole → List Numbered → ℕ → List ℕ
outs_at ws numbered index = flat_map (λ (o : Out). out_by o (slice_get numbered o.input)) (whole_at index ws)

-- What the lines print in order: `bad`, a status, or the results of the inputs that an input
-- completes. Other lines print no text. `number`: the number of the first line. `index`: how many
-- inputs come before that line.
abbrev pub printed_from : List Whole → List Numbered → ℕ → ℕ → List Line → List ℕ
printed_from ws numbered number index [] = []
printed_from ws numbered number index (Bad ∷ ls) = line_text number (codes "bad") ++ printed_from ws numbered (number + 1) index ls
printed_from ws numbered number index (Rejected status ∷ ls) = line_text number (decimal status) ++ printed_from ws numbered (number + 1) index ls
printed_from ws numbered number index (Accepted callback input ∷ ls) = outs_at ws numbered index ++ printed_from ws numbered (number + 1) (index + 1) ls
printed_from ws numbered number index (Resharded shards ∷ ls) = printed_from ws numbered (number + 1) index ls
printed_from ws numbered number index (Announced nonce ∷ ls) = printed_from ws numbered (number + 1) index ls
printed_from ws numbered number index (Noted ∷ ls) = printed_from ws numbered (number + 1) index ls

-- What is printed for an input that is held at the end, or nothing if there is no such input.
abbrev pub held_text : Option Numbered → List ℕ
held_text None = []
held_text (Some n) = line_text n.line (codes "held")

abbrev pub printed : Config → List Numbered → List Line → List ℕ
printed config numbered ls =
    let inputs = map (λ (n : Numbered). n.input) numbered in
    printed_from (wholes config inputs) numbered 1 0 ls ++ flat_map (λ index. held_text (slice_get numbered index)) (held config inputs)

-- What a replay prints for a text: what its lines print in order, and then the held lines.
abbrev pub replay_text : Dialect → Config → List ℕ → List ℕ
replay_text dialect config text =
    let ls = with_nonces 0 (lines_in dialect text) in printed config (inputs_from 1 ls) ls
