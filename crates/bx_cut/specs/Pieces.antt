-- The messages of a document, and the members of a message.
use Rattle.std.specs.Prelude.{ℕ, ◌-◌, List, [], ◌∷◌, length, take, Bool, false, cond, Option, Some, None, option_map, option_and_then}
use Rattle.std.specs.Str.{bytes_eq}
use Rattle.json.specs.Ascii as ascii
use Rattle.bx_cut.specs.Cut.{past_blank, after_first, past_byte, split_value, Member, split_member, listed}
use Rattle.bx_cut.specs.Strings.{spelled}

-- ---- Arrays

abbrev pub elements_inside : Option (List ℕ) → List (List ℕ)
elements_inside None = []
elements_inside (Some inside) = (listed split_value inside).0

-- The texts of an array's elements, or none if the value is not an array.
abbrev pub elements : List ℕ → List (List ℕ)
elements array = elements_inside (past_byte ascii.open_bracket array)

-- ---- Objects

abbrev pub members_inside : Option (List ℕ) → List Member
members_inside None = []
members_inside (Some inside) = (listed split_member inside).0

-- An object's quoted keys and the texts of their values, or none if the value is not an object.
abbrev pub members : List ℕ → List Member
members object = members_inside (past_byte ascii.open_brace object)

abbrev pub is_name : List ℕ → Option (List ℕ) → Bool
is_name name None = false
is_name name (Some key) = bytes_eq key name

abbrev pub later_or : Option (List ℕ) → Option (List ℕ) → Option (List ℕ)
later_or None earlier = earlier
later_or (Some value) earlier = Some value

-- The text of the value of the last member that has `name` as its unescaped key, if any.
abbrev pub last_member : List ℕ → List Member → Option (List ℕ)
last_member name [] = None
last_member name (m ∷ ms) = later_or (last_member name ms) (cond (is_name name (spelled m.0)) (Some m.1) None)

abbrev pub member_text : List ℕ → List ℕ → Option (List ℕ)
member_text name object = last_member name (members object)

-- ---- Messages

-- A message: the text of a JSON object, and its members.
abbrev pub Object : Type 0
Object = List ℕ × List Member

abbrev pub closed : List ℕ → List Member × List ℕ → Option (Object × List ℕ)
closed t ms = option_map (λ rest. ((take (length t - length rest) t, ms.0), rest)) (past_byte ascii.close_brace ms.1)

-- The first object of a text, which may follow whitespace, and the rest. `None` if the text does
-- not begin with an object.
unfoldable pub split_object : List ℕ → Option (Object × List ℕ)
split_object t = option_and_then (λ inside. closed (past_blank t) (listed split_member inside)) (after_first ascii.open_brace (past_blank t))

abbrev pub only : Option (Object × List ℕ) → List Object
only None = []
only (Some p) = p.0 ∷ []

abbrev pub pieces_of : List ℕ → Option (List ℕ) → List Object
pieces_of text None = only (split_object text)
pieces_of text (Some inside) = (listed split_object inside).0

-- The messages of a document, in order: its one object, or the objects of its array.
abbrev pub pieces : List ℕ → List Object
pieces text = pieces_of text (past_byte ascii.open_bracket text)
