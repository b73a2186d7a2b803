-- How a text is sent in pieces.
use Rattle.std.specs.Prelude.{◌≡◌, ◌<◌, ℕ, List, [], ◌∷◌, ◌++◌, length, Some, None, Result, Ok, Err}
use Rattle.futures.specs.Runs.{Runs}
use Rattle.http_body.specs.declared.frame.Frame.{Frame}
use Rattle.http_body.specs.Frame.{data_frame}

-- The data of `frame` are made from the first piece of `text`. This piece is not empty, and `rest`
-- holds for the text after it.
abbrev pub Leads : {D : Type 0} → (List ℕ → D → Type 0) → List ℕ → Frame D → (List ℕ → Type 0) → Type 0
Leads {D} made text frame rest =
    (piece : List ℕ) × ((left : List ℕ) × ((it : D) × ((0 < length piece) × (frame ≡ data_frame it) × made piece it × (text ≡ piece ++ left) × rest left)))

-- The frames are the pieces of a text, in order, and the end comes after the last piece. An error
-- comes only while text remains. After an error comes the end, without further frames.
abbrev pub InPieces : {D E : Type 0} → (List ℕ → D → Type 0) → List ℕ → Runs (Result (Frame D) E)
InPieces made text [] None = text ≡ []
InPieces made text [] (Some (Ok frame)) = Leads made text frame (λ left. Unit {0})
InPieces made text [] (Some (Err fault)) = 0 < length text
InPieces made text (Ok frame ∷ given) last = Leads made text frame (λ left. InPieces made left given last)
InPieces made text (Err fault ∷ given) last = (0 < length text) × InPieces made [] given last
