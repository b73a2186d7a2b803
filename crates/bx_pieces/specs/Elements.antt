-- The texts of the elements of a response's array.
use Rattle.std.specs.Prelude.{ℕ, List}
use Rattle.bx_message.specs.Events.{event_text}
use Rattle.bx_pieces.specs.declared.element.Element.{Element}
use Rattle.bx_pieces.specs.declared.element.Element.TheVariants.{Shared, Written}

-- The text of an element, as JSON.
abbrev pub element_text : Element → List ℕ
element_text (Shared event) = event_text event
element_text (Written text) = text.items
