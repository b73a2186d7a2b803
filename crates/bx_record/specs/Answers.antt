-- The line of an answer, and records with such lines between their inputs.
use Rattle.std.specs.Prelude.{ℕ, ◌<◌, ◌≡◌, List, [], ◌∷◌, ◌++◌, length, flat_map, codes, decimal}
use Rattle.std.specs.List.{AllByRecursion}
use Rattle.hex.specs.Hex.{encode_lower}
use Rattle.bx_entry.specs.declared.input.Input.{Input}
use Rattle.bx_record.specs.Record.{input_text}

-- The line of an answer: `A`, `place`, and `digest` in hexadecimal digits. `place` is the place of
-- the request's first message. `digest` is the SHA-256 of the replies and events in the response.
abbrev pub answer_text : ℕ → List ℕ → List ℕ
answer_text place digest = codes "A " ++ (decimal place ++ 32 ∷ (encode_lower digest ++ 10 ∷ []))

-- `digest` has 32 bytes, like a SHA-256.
pub record IsSha256 (digest : List ℕ) : Type 0 where
  pub count : length digest ≡ 32
  pub bytes : AllByRecursion (λ (byte : ℕ). byte < 256) digest

-- A part of a record: an input, or the line of an answer.
pub data Part : Type 0 where
  Taken : (input : Input) → Part
  Given : (place : ℕ) → (digest : List ℕ) → Part

abbrev pub part_text : Part → List ℕ
part_text (Taken input) = input_text input
part_text (Given place digest) = answer_text place digest

-- The text of a record, given its parts in order.
abbrev pub record_with : List Part → List ℕ
record_with parts = flat_map part_text parts

-- The inputs among a record's parts, in order.
abbrev pub taken_inputs : List Part → List Input
taken_inputs [] = []
taken_inputs (Taken input ∷ parts) = input ∷ taken_inputs parts
taken_inputs (Given place digest ∷ parts) = taken_inputs parts
