-- What is printed for an input, and how it is written.
use Rattle.std.specs.Prelude.{ℕ, ◌≡◌, ◌++◌, Bool, true, false, List, Option, Result, MatchResult}
use Rattle.std.specs.Io.KnownBytes.{Appends}
use Rattle.bx_entry.specs.Inputs.{ReadInput, Request, Unread, Tick}
use Rattle.bx_script.specs.Replay.{Numbered}

-- Whether an input is a tick.
abbrev pub is_tick : ReadInput → Bool
is_tick (Request moment nonce ms) = false
is_tick (Unread fault) = false
is_tick (Tick moment) = true

-- An input with the number of its line and the name of its callback.
abbrev pub numbered : ℕ → Option (List ℕ) → ReadInput → Numbered
numbered number name read = record { line = number; callback = name; input = read }

-- The known bytes grew from `old` to `new` by a prefix of `text`.
pub record AppendsFront (old new : Option (List ℕ)) (text : List ℕ) : Type 0 where
  pub written : List ℕ
  pub unwritten : List ℕ
  pub whole : text ≡ written ++ unwritten
  pub appends : Appends old new written

-- The known bytes grew from `old` to `new` by `text` or, if the result `r` is an error, by a prefix
-- of it.
abbrev pub Writes : {A E : Type 0} → Option (List ℕ) → Option (List ℕ) → Result A E → List ℕ → Type 0
Writes old new r text = MatchResult r (λ _. Appends old new text) (λ _. AppendsFront old new text)
