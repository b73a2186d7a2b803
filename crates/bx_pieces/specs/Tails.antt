-- The parts of a response's text.
use Rattle.std.specs.Prelude.{ℕ, List, [], ◌∷◌, ◌++◌, Bool, true, false, Option, Some, None, map}
use Rattle.bx_message.specs.Events.{array}
use Rattle.bx_message.specs.Texts.{body_text, callback_text, script_safe}
use Rattle.bx_message.specs.declared.reply.Item.{Item}
use Rattle.bx_pieces.specs.Elements.{element_text}
use Rattle.bx_pieces.specs.declared.element.Element.{Element}

-- The text of a response: the array of the items, or a call of the callback with the array.
abbrev pub answer_text : Option (List ℕ) → List Item → List ℕ
answer_text None items = body_text items
answer_text (Some callback) items = callback_text callback items

-- The text of a response with these elements: their array, or a call of the callback with it.
abbrev pub whole_text : Option (List ℕ) → List Element → List ℕ
whole_text None elements = array (map element_text elements)
whole_text (Some callback) elements = callback ++ (40 ∷ (script_safe (array (map element_text elements)) ++ 41 ∷ []))

-- The elements of an array, each after a comma.
abbrev pub led_text : List Element → List ℕ
led_text [] = []
led_text (element ∷ elements) = 44 ∷ (element_text element ++ led_text elements)

-- The remaining elements of an array, each after a comma, and the closing bracket.
abbrev pub tail_text : List Element → List ℕ
tail_text elements = led_text elements ++ 93 ∷ []

-- A part of the array as it is sent: with escapes for a script (`true`), and otherwise unchanged.
abbrev pub sent_as : Bool → List ℕ → List ℕ
sent_as false text = text
sent_as true text = script_safe text

-- The text after the array: a closing parenthesis for a script (`true`), and otherwise nothing.
abbrev pub end_text : Bool → List ℕ
end_text false = []
end_text true = 41 ∷ []

-- The remaining elements of a response as they are sent, and the end of the response.
abbrev pub rest_text : Bool → List Element → List ℕ
rest_text is_script elements = sent_as is_script (tail_text elements) ++ end_text is_script

-- The text of a response that is not written yet. It is empty if everything is written (the first
-- argument is `true`). Otherwise, it is the remaining elements and the end of the response.
abbrev pub left_text : Bool → Bool → List Element → List ℕ
left_text true is_script elements = []
left_text false is_script elements = rest_text is_script elements

-- The beginning of a response, through its first element.
abbrev pub beginning_text : Option (List ℕ) → Element → List ℕ
beginning_text None element = 91 ∷ element_text element
beginning_text (Some callback) element = callback ++ (40 ∷ script_safe (91 ∷ element_text element))

-- Whether a response is a script, because it has a callback.
abbrev pub is_call : Option (List ℕ) → Bool
is_call None = false
is_call (Some callback) = true

-- Further elements as they are sent, each after a comma. The end of the response follows if they
-- are the last (the first argument is `true`).
abbrev pub part_text : Bool → Bool → List Element → List ℕ
part_text false is_script elements = sent_as is_script (led_text elements)
part_text true is_script elements = rest_text is_script elements
