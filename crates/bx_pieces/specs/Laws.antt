-- The text to which the pieces join.
use Rattle.std.specs.Prelude.{◌≡◌, ℕ, List, map, None, Ok}
use Rattle.std.specs.declared.alloc.AllocError.{AllocError}
use Rattle.http_body.specs.declared.frame.Frame.{Frame}
use Rattle.http_body.specs.Frame.{joined_data}
use Rattle.bx_pieces.specs.Givings.{InPieces}

-- If a text is sent to its end without errors, the data of the frames join to it.
abbrev pub PiecesJoin : Type 0
PiecesJoin = (text : List ℕ) (frames : List (Frame (List ℕ))) → InPieces {E = AllocError} (λ piece it. it ≡ piece) text (map Ok frames) None → joined_data frames ≡ text
