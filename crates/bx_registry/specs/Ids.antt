-- The number at the end of a client id.
use Rattle.std.specs.Prelude.{ℕ, ◌+◌, ◌-◌, ◌*◌, ◌%◌, ◌^◌, List, drop, fold, nat_lt, if◌then◌else◌}

-- The value of a lower-case hexadecimal digit. For other bytes, the result has no meaning.
abbrev pub digit_value : ℕ → ℕ
digit_value byte = if nat_lt byte 58 then byte - 48 else byte - 87

-- The `number` with the hexadecimal digit `byte` appended, modulo 2^64.
abbrev pub with_digit : ℕ → ℕ → ℕ
with_digit number byte = (number * 16 % 2 ^ 64 + digit_value byte) % 2 ^ 64

-- The value of the hexadecimal `digits`, modulo 2^64.
abbrev pub hex_value : List ℕ → ℕ
hex_value digits = fold with_digit 0 digits

-- The session's number in a client id: the value of the digits after the first 32, modulo 2^64.
abbrev pub number_in : List ℕ → ℕ
number_in client = hex_value (drop 32 client)
