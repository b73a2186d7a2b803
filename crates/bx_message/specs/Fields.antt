-- The fields of a message, from its members. If several have the same name, the last counts.
use Rattle.std.specs.Prelude.{ℕ, ◌^◌, ◌==◌, ◌&&◌, ◌||◌, nat_lt, Bool, false, if◌then◌else◌, List, [], ◌∷◌, length, codes, Option, Some, None, option_map, option_and_then, is_some, slice_get}
use Rattle.std.specs.{Option.option_map_or, List.filter_map, List.list_all, Char.is_ascii_digit, Str.bytes_eq, Str.all_ascii_digits, Str.Parse.digits_value}
use Rattle.bx_cut.specs.Words.{Member, last_member, member_text, elements, spelled}
use Rattle.bx_message.specs.declared.message.{Message.Message, TextMember.TextMember, AckMember.AckMember}
use Rattle.bx_message.specs.declared.message.TextMember.TheVariants.{Absent, NotText, Text}
use Rattle.bx_message.specs.declared.message.AckMember.TheVariants.{NoAck, AckTrue, AckNumber}

-- ---- Values

-- A member that should be a text: `Absent` without a value, the decoded text if the value is one,
-- and otherwise `NotText`.
abbrev pub text_field : Option (List ℕ) → TextMember
text_field None = Absent
text_field (Some json) = option_map_or Text (spelled json) NotText

-- Whether the first byte of a value passes `test`.
abbrev pub begins : (ℕ → Bool) → List ℕ → Bool
begins test json = option_map_or test (slice_get json 0) false

-- Whether a byte begins a text or a number: a quotation mark, a minus sign or a digit.
abbrev pub begins_text_or_number : ℕ → Bool
begins_text_or_number byte = (byte == 34) || ((byte == 45) || is_ascii_digit byte)

-- The bytes of a value, if it is a text or a number.
abbrev pub id_field : Option (List ℕ) → Option (List ℕ)
id_field None = None
id_field (Some json) = if begins begins_text_or_number json then Some json else None

-- Whether a value is one or more digits.
abbrev pub is_digits : List ℕ → Bool
is_digits json = nat_lt 0 (length json) && all_ascii_digits json

-- The number in a value of digits only, if it is at most 2^64 - 1.
abbrev pub number_of : List ℕ → Option ℕ
number_of json = if is_digits json && nat_lt (digits_value 10 json) (2 ^ 64) then Some (digits_value 10 json) else None

-- The acknowledgement in a value, which is `true` or a number. Any other value has none.
abbrev pub ack_field : Option (List ℕ) → AckMember
ack_field None = NoAck
ack_field (Some json) = if bytes_eq json (codes "true") then AckTrue else option_map_or AckNumber (number_of json) NoAck

-- ---- Lists of texts

abbrev pub is_text : List ℕ → Bool
is_text json = is_some (spelled json)

-- The decoded texts among the JSON `values`, in order.
abbrev pub texts_among : List (List ℕ) → List (List ℕ)
texts_among values = filter_map spelled values

-- The texts among an array's elements. Any other value has none.
abbrev pub listed_texts : Option (List ℕ) → List (List ℕ)
listed_texts None = []
listed_texts (Some json) = texts_among (elements json)

-- The text, if a value is one, or the texts among its elements, if it is an array. Any other value
-- has none.
abbrev pub subscribed_texts : Option (List ℕ) → List (List ℕ)
subscribed_texts None = []
subscribed_texts (Some json) = option_map_or (λ text. text ∷ []) (spelled json) (texts_among (elements json))

-- Whether a value is an array.
abbrev pub is_array : List ℕ → Bool
is_array json = begins (λ byte. byte == 91) json

-- Whether a value is a text, or an array of texts only.
abbrev pub is_listed : Option (List ℕ) → Bool
is_listed None = false
is_listed (Some json) = is_text json || (is_array json && list_all is_text (elements json))

-- ---- Messages

-- The value of member `inner` in the object that is the value of member `outer`, if any.
abbrev pub nested_in : List ℕ → List ℕ → List Member → Option (List ℕ)
nested_in outer inner members = option_and_then (member_text inner) (last_member outer members)

-- The message with these members and `channel`.
abbrev pub fields_of : List Member → List ℕ → Message
fields_of members channel = record {
  channel = channel;
  id = id_field (last_member (codes "id") members);
  client = text_field (last_member (codes "clientId") members);
  version = text_field (last_member (codes "version") members);
  supported = listed_texts (last_member (codes "supportedConnectionTypes") members);
  connection = text_field (last_member (codes "connectionType") members);
  subscription = last_member (codes "subscription") members;
  texts = subscribed_texts (last_member (codes "subscription") members);
  listed = is_listed (last_member (codes "subscription") members);
  payload = last_member (codes "data") members;
  ack = ack_field (nested_in (codes "ext") (codes "ack") members);
  timeout = option_and_then number_of (nested_in (codes "advice") (codes "timeout") members);
}

-- The decoded value of member `channel`, if it exists and is a text.
abbrev pub channel_in : List Member → Option (List ℕ)
channel_in members = option_and_then spelled (last_member (codes "channel") members)

-- The message with these members, or `None` if they have no `channel` that is a text.
abbrev pub message_in : List Member → Option Message
message_in members = option_map (fields_of members) (channel_in members)
