-- A registry and its roll, the part of it that the program stores, judge elements alike.
use Rattle.std.specs.Prelude.{◌≡◌, List, [], ◌∷◌, ◌++◌, fold}
use Rattle.bx_advice.specs.declared.config.Config.{Config}
use Rattle.bx_entry.specs.Words.{Listed, Registry, judge}
use Rattle.bx_registry.specs.Rolls.{roll_of, after, found}

-- The elements of `list` turn the registry `r` into `s`, and the roll of `r` into that of `s`.
-- Registry and roll, the part of it that the program stores, judge the elements alike.
pub record GoesOn (config : Config) (r s : Registry) (list : List Listed) : Type 0 where
  pub roll : after (roll_of config r) list ≡ roll_of config s
  pub judged : s.judged ≡ r.judged ++ found (roll_of config r) list

-- A registry and its roll, the part of it that the program stores, judge one element alike.
abbrev pub StepsAgree : Type 0
StepsAgree = (config : Config) (r : Registry) (element : Listed) → GoesOn config r (judge config r element) (element ∷ [])

-- A registry and its roll, the part of it that the program stores, judge any list of elements
-- alike, for example a whole request.
abbrev pub RunsAgree : Type 0
RunsAgree = (config : Config) (r : Registry) (list : List Listed) → GoesOn config r (fold (judge config) r list) list
