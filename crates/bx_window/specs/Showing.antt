-- What readers are shown of a log, compared with the whole log.
use Rattle.std.specs.Prelude.{◌≡◌, List, Option}
use Rattle.std.specs.Option.{MatchOption}
use Rattle.bx_window.specs.declared.{law.LogStep.LogStep, showing.Late.Late}

module _ {O : Type 0} where
  -- If no change is late, what is shown is the whole log. If a change is late, applying it to what
  -- is shown gives the whole log.
  abbrev pub IsShown : (List LogStep → O → List LogStep) → List LogStep → Option (Late O) → List LogStep → Type 0
  IsShown applied log late shown = MatchOption late (shown ≡ log) (λ l. applied shown l.change ≡ log)
