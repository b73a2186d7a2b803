-- Numbers that digits give, and the values of limits.
use Rattle.std.specs.Prelude.{ℕ, ◌^◌, ◌&&◌, nat_le, nat_lt, if◌then◌else◌, List, codes, Option, Some, None, option_and_then}
use Rattle.std.specs.Str.{bytes_eq}
use Rattle.bx_advice.specs.declared.limit.Limit.{Limit}
use Rattle.bx_advice.specs.Limits.{greatest, standard}
use Rattle.bx_message.specs.Fields.{number_of}

infixl 10 ◌>>=◌
abbrev pub ◌>>=◌ : {A B : Type 0} → Option A → (A → Option B) → Option B
o >>= f = option_and_then f o

-- The number that digits give, if it is from 1 to a greatest one.
abbrev pub count_in : ℕ → List ℕ → Option ℕ
count_in most digits = number_of digits >>= (λ n. if nat_le 1 n && nat_le n most then Some n else None)

-- The number that digits give, if it has at most 32 bits.
abbrev pub time_in : List ℕ → Option ℕ
time_in digits = number_of digits >>= (λ n. if nat_lt n (2 ^ 32) then Some n else None)

-- The value of a limit that a word gives: a number from 1 to the greatest value or, if the default
-- is beyond that, `-` for the default.
abbrev pub limit_in : Limit → List ℕ → Option ℕ
limit_in limit word = if nat_lt (greatest limit) (standard limit) && bytes_eq word (codes "-") then Some (standard limit) else count_in (greatest limit) word
