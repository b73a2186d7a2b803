-- An input with an unanswered message is a request of one message, a held connect.
use Rattle.std.specs.Prelude.{ℕ, ◌<◌, ◌≡◌, List, [], ◌∷◌, map, slice_get, option_map, None, Some}
use Rattle.std.specs.{List.AllByRecursion, List.Sorted.IsStrictlyIncreasing}
use Rattle.bx_advice.specs.declared.config.Config.{Config}
use Rattle.bx_entry.specs.Words.{ReadInput, Listed, Judged, Waiting, registry, places_of, taken_in}
use Rattle.bx_theory.specs.Opens.{Numbered, open_after}

-- The input is an admitted request of one message. The message waits for its session and is no
-- rider, so it is an accepted connect.
pub record IsConnect (config : Config) (list : List Listed) (o : Numbered) : Type 0 where
  pub session : ℕ
  pub accepted : o.intake.refusal ≡ None
  pub sole : places_of o.intake o.intake.input ≡ o.intake.first ∷ []
  pub waits : option_map (λ (j : Judged). j.slot) (slice_get (registry config list).judged o.intake.first) ≡ Some (Waiting session)
  pub unridden : option_map (λ (j : Judged). j.entry.rides) (slice_get (registry config list).judged o.intake.first) ≡ Some None

-- Every input with an unanswered message is a request of one message, an accepted connect. Riders
-- are answered at once, and so are connects with other messages in their requests.
abbrev pub OpenAreSole : Type 0
OpenAreSole = (config : Config) (inputs : List ReadInput) → 0 < config.limits.batch → AllByRecursion (IsConnect config (taken_in inputs).list) (open_after config inputs)

-- The numbers of the inputs with an unanswered message ascend, and so do the places of their
-- connects.
abbrev pub OpensAscend : Type 0
OpensAscend = (config : Config) (inputs : List ReadInput) → 0 < config.limits.batch →
    IsStrictlyIncreasing (map (λ (o : Numbered). o.number) (open_after config inputs)) × IsStrictlyIncreasing (map (λ (o : Numbered). o.intake.first) (open_after config inputs))
