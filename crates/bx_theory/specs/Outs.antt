-- The outs of a longer run.
use Rattle.std.specs.Prelude.{◌≡◌, ◌<◌, List, ◌++◌}
use Rattle.bx_advice.specs.declared.config.Config.{Config}
use Rattle.bx_entry.specs.Words.{ReadInput, Out, outs}

-- The outs of more inputs begin with the outs of the first inputs.
abbrev pub OutsGrow : Type 0
OutsGrow = (config : Config) (inputs more : List ReadInput) → 0 < config.limits.batch → (rest : List Out) × (outs config (inputs ++ more) ≡ outs config inputs ++ rest)
