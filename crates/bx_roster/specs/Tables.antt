-- Lists of sessions in ascending order of number.
use Rattle.std.specs.Prelude.{ℕ, ◌≡◌, ◌≢◌, ◌<◌, ◌≤◌, ◌==◌, Bool, true, List, [], ◌∷◌, drop, if◌then◌else◌, Option, Some, None}
use Rattle.bx_entry.specs.Registry.{Registered, hex_digits}

-- A client id ends in the hexadecimal digits of its session's number.
abbrev pub IsNamed : Registered → Type 0
IsNamed r = drop 32 r.client ≡ hex_digits 16 r.number

-- The sessions are in ascending order of number, with numbers above `low` and at most `high`. Each
-- client id ends in the digits of its session's number.
abbrev pub IsTable : ℕ → ℕ → List Registered → Type 0
IsTable low high [] = low ≤ high
IsTable low high (r ∷ rs) = (low < r.number) × IsNamed r × IsTable r.number high rs

-- No session of the list has this number.
abbrev pub IsAbsent : ℕ → List Registered → Type 0
IsAbsent number [] = Unit {0}
IsAbsent number (r ∷ rs) = (r.number ≢ number) × IsAbsent number rs

-- Each session of the list is live.
abbrev pub AllLive : List Registered → Type 0
AllLive [] = Unit {0}
AllLive (r ∷ rs) = (r.live ≡ true) × AllLive rs

-- The client id of a session, and whether it acknowledges.
abbrev pub known_of : Registered → List ℕ × Bool
known_of r = (r.client, r.ack)

-- The client id of the first session with this number, if any, and whether it acknowledges.
abbrev pub client_and_ack_of : ℕ → List Registered → Option (List ℕ × Bool)
client_and_ack_of number [] = None
client_and_ack_of number (r ∷ rs) = if r.number == number then Some (known_of r) else client_and_ack_of number rs

-- The due moment of the first session with this number, if any.
abbrev pub due_at : ℕ → List Registered → Option ℕ
due_at number [] = None
due_at number (r ∷ rs) = if r.number == number then Some r.due else due_at number rs
