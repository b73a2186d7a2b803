-- The JSON of events, and how objects and their members are written.
use Rattle.std.specs.Prelude.{ℕ, List, [], ◌∷◌, ◌++◌, length, codes, Option, Some, None}
use Rattle.std.specs.List.{join_with_byte}
use Rattle.json.specs.Print.{quoted}
use Rattle.bx_message.specs.declared.event.Event.{Event}

-- The JSON text of a member: its quoted name, a colon and `value`.
abbrev pub member : List ℕ → List ℕ → List ℕ
member name value = quoted name ++ (58 ∷ value)

-- The JSON text of an object with these members, each given as text.
abbrev pub object : List (List ℕ) → List ℕ
object members = 123 ∷ (join_with_byte 44 members ++ 125 ∷ [])

-- The JSON text of an array of these values, each given as text.
abbrev pub array : List (List ℕ) → List ℕ
array values = 91 ∷ (join_with_byte 44 values ++ 93 ∷ [])

-- The member `name` with the sender's bytes as its value, or no member if there are no bytes.
abbrev pub raw_member : List ℕ → Option (List ℕ) → List (List ℕ)
raw_member name None = []
raw_member name (Some value) = member name value ∷ []

-- The member `name` with a text as its value, or no member if there is no text.
abbrev pub text_member : List ℕ → Option (List ℕ) → List (List ℕ)
text_member name None = []
text_member name (Some text) = member name (quoted text) ∷ []

-- The texts of an event's members, in order: `channel`, `data` and, if the event has one, `id`.
abbrev pub event_members : Event → List (List ℕ)
event_members e =
    text_member (codes "channel") (Some e.channel)
    ++ raw_member (codes "data") (Some e.payload)
    ++ raw_member (codes "id") e.id

-- The JSON text of an event.
abbrev pub event_text : Event → List ℕ
event_text e = object (event_members e)

-- The size of an event's JSON text, in bytes.
unfoldable pub event_size : Event → ℕ
event_size e = length (event_text e)
