-- The documents of a request.
use Rattle.std.specs.Prelude.{ℕ, List, [], ◌∷◌, map, string_bytes}
use Rattle.bx_cut.specs.declared.{bodies.Bodies.Bodies, bodies.Bodies.TheVariants.Whole, bodies.Bodies.TheVariants.Decoded}

-- The bytes of each document, in order.
abbrev pub texts_of : Bodies → List (List ℕ)
texts_of (Whole body) = body.items ∷ []
texts_of (Decoded texts) = map string_bytes texts.items
