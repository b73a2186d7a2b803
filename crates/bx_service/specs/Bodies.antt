-- How a body is collected, up to a limit.
use Rattle.std.specs.Prelude.{Vec, ◌≡◌, ◌≤◌, ◌<◌, ℕ, ⊤, List, [], ◌++◌, length, map, flat_map, Option, Some, None, Result, Ok, Err}
use Rattle.std.specs.Global.{Global}
use Rattle.futures.specs.Runs.{Runs}
use Rattle.http_body.specs.declared.frame.Frame.{Frame}
use Rattle.http_body.specs.Frame.{data_of}
use Rattle.bx_service.specs.declared.collect.CollectError.{CollectError}
use Rattle.bx_service.specs.declared.collect.CollectError.TheVariants.{TooLarge, Failed, Memory}

-- The error can be why `bytes` are not collected. `TooLarge`: they exceed `limit`. `Memory`: in
-- every case. `Failed`: never.
abbrev pub Refuses : ℕ → List ℕ → CollectError → Type 0
Refuses limit bytes TooLarge = limit < length bytes
Refuses limit bytes Failed = ⊥
Refuses limit bytes Memory = ⊤

module _ {D : Type 0} (unread : D → List ℕ) where
  -- The bytes of a piece, or no bytes if there is no piece.
  abbrev pub piece_bytes : Option D → List ℕ
  piece_bytes None = []
  piece_bytes (Some piece) = unread piece

  -- The bytes of a frame's data. A frame of trailers has no bytes.
  abbrev pub data_bytes : Frame D → List ℕ
  data_bytes frame = piece_bytes (data_of frame)

  -- The bytes of all frames' data, in order.
  abbrev pub joined_bytes : List (Frame D) → List ℕ
  joined_bytes frames = flat_map data_bytes frames

  module _ {E : Type 0} (source : Runs (Result (Frame D) E)) (limit : ℕ) (held : List ℕ) where
    -- `bytes` are those collected so far, `held`, followed by the data of the rest of the body.
    -- They are at most `limit` in number.
    abbrev pub IsWhole : List ℕ → Type 0
    IsWhole bytes = (frames : List (Frame D)) × source (map Ok frames) None × (bytes ≡ held ++ joined_bytes frames) × (length bytes ≤ limit)

    -- The bytes collected so far, `held`, together with the data of one or more next frames of the
    -- body, are more than `limit`.
    abbrev pub Passes : Type 0
    Passes = (frames : List (Frame D)) × ((frame : Frame D) × source (map Ok frames) (Some (Ok frame)) × (limit < length (held ++ joined_bytes frames ++ data_bytes frame)))

    -- The rest of the body may yield an error after some frames. Together, their data and `held`
    -- have at most `limit` bytes.
    abbrev pub Fails : Type 0
    Fails = (frames : List (Frame D)) × ((e : E) × source (map Ok frames) (Some (Err e)) × (length (held ++ joined_bytes frames) ≤ limit))

    -- Collecting the body may end with the error. `TooLarge`: the data exceeds `limit`. `Failed`:
    -- the body yields an error before that. `Memory`: in every case.
    abbrev pub Faults : CollectError → Type 0
    Faults TooLarge = Passes
    Faults Failed = Fails
    Faults Memory = ⊤

    -- Collecting the body may return the result: all bytes, within `limit`, or an error. The bytes
    -- are those collected so far, `held`, and the data of the rest of the body.
    abbrev pub Gives : Result (Vec ℕ Global) CollectError → Type 0
    Gives (Ok all) = IsWhole all.items
    Gives (Err fault) = Faults fault
