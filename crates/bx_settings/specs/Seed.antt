-- The seed that hexadecimal digits give.
use Rattle.std.specs.Prelude.{ℕ, List, Option}
use Rattle.std.specs.Result.{result_ok}
use Rattle.hex.specs.Hex.{decode_sized}

-- The 32 bytes that 64 hexadecimal digits give, two digits for each byte, the more significant one
-- first. The result is `None` for any other text.
abbrev pub seed_in : List ℕ → Option (List ℕ)
seed_in digits = result_ok (decode_sized digits 32)
