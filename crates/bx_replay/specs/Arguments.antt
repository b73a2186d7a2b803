-- The arguments of a replay, and what they give.
use Rattle.std.specs.Prelude.{ℕ, ◌&&◌, Bool, if◌then◌else◌, List, [], ◌∷◌, drop, codes, nat_eq, Option, Some, None, Result, Ok, Err}
use Rattle.std.specs.List.{starts_with}
use Rattle.std.specs.Str.{bytes_eq}
use Rattle.bx_advice.specs.declared.{config.Config.Config, limit.Limit.Limit}
use Rattle.bx_advice.specs.declared.limit.Limit.TheVariants.{Events}
use Rattle.bx_advice.specs.declared.limit.TheConstants.{MAX_SHARDS, MAX_WORKERS}
use Rattle.bx_advice.specs.Configs.{new_config, with_maximum, with_options}
use Rattle.bx_advice.specs.Limits.{limit_name}
use Rattle.bx_advice.specs.Options.{options_in}
use Rattle.bx_message.specs.Numbers.{◌>>=◌, count_in, limit_in, time_in}
use Rattle.bx_replay.specs.declared.argument_error.ArgumentError.{ArgumentError}
use Rattle.bx_replay.specs.declared.arguments.Arguments.{Arguments}
use Rattle.bx_replay.specs.declared.arguments.TheConstants.{NAMED}

-- ---- Positional arguments

-- The configuration with the value of a limit that a word gives, if the word is valid.
abbrev pub with_word : Limit → List ℕ → Config → Option Config
with_word limit word c = limit_in limit word >>= (λ n. with_maximum limit n c)

-- The configuration and the number of workers that seven positional arguments give, if all of them
-- are valid.
abbrev pub seven_in : List ℕ → List ℕ → List ℕ → List ℕ → List ℕ → List ℕ → List ℕ → Option (Config × ℕ)
seven_in shards workers timeout interval max_interval options limit = do
  s ← count_in MAX_SHARDS shards
  w ← count_in MAX_WORKERS workers
  t ← time_in timeout
  i ← time_in interval
  m ← time_in max_interval
  o ← options_in options
  made ← new_config s t i m
  c ← with_word Events limit (with_options o made)
  Some (c, w)

-- The options and the limit of waiting events among the optional arguments. The options default to
-- `-`, and the limit to 1024. The result is `None` if there are more than two arguments.
abbrev pub optional_in : List (List ℕ) → Option (List ℕ × List ℕ)
optional_in [] = Some (codes "-", codes "1024")
optional_in (options ∷ []) = Some (options, codes "1024")
optional_in (options ∷ limit ∷ []) = Some (options, limit)
optional_in args = None

-- The configuration and the number of workers that five to seven positional arguments give, if all
-- of them are valid.
abbrev pub positional_in : List (List ℕ) → Option (Config × ℕ)
positional_in (shards ∷ workers ∷ timeout ∷ interval ∷ max_interval ∷ more) = optional_in more >>= (λ o. seven_in shards workers timeout interval max_interval o.0 o.1)
positional_in args = None

-- ---- Named arguments

-- Whether an argument is `--` and the name of a limit.
abbrev pub is_named : Limit → List ℕ → Bool
is_named limit arg = starts_with nat_eq arg (codes "--") && bytes_eq (drop 2 arg) (limit_name limit)

-- The value after the leading name of a limit, if it is there, and the other arguments.
abbrev pub named_in : Limit → List (List ℕ) → Option (List ℕ) × List (List ℕ)
named_in limit [] = (None, [])
named_in limit (arg ∷ []) = (None, arg ∷ [])
named_in limit (arg ∷ word ∷ args) = if is_named limit arg then (Some word, args) else (None, arg ∷ word ∷ args)

-- The arguments after those that name limits.
abbrev pub after_named : List Limit → List (List ℕ) → List (List ℕ)
after_named [] args = args
after_named (limit ∷ limits) args = after_named limits (named_in limit args).1

-- The configuration with the value of a limit that a word gives. Without a word it is unchanged.
abbrev pub with_optional : Limit → Option (List ℕ) → Config → Option Config
with_optional limit None c = Some c
with_optional limit (Some word) c = with_word limit word c

-- The configuration with the values of limits that arguments name, if all of them are valid.
abbrev pub with_named : List Limit → List (List ℕ) → Config → Option Config
with_named [] args c = Some c
with_named (limit ∷ limits) args c = with_optional limit (named_in limit args).0 c >>= with_named limits (named_in limit args).1

-- The configuration and the number of workers that arguments give, if all of them are valid. The
-- arguments are the limits of `NAMED` by name, in this order and each optional, and then five to
-- seven positional ones.
abbrev pub arguments_in : List (List ℕ) → Option (Config × ℕ)
arguments_in args = do
  given ← positional_in (after_named NAMED args)
  c ← with_named NAMED args given.0
  Some (c, given.1)

-- ---- Results

-- The configuration and the number of workers of parsed arguments, if they are valid.
abbrev pub given : Result Arguments ArgumentError → Option (Config × ℕ)
given (Ok arguments) = Some (arguments.config, arguments.workers)
given (Err wrong) = None

-- The configuration in a result, if there is one.
abbrev pub given_config : Result Config ArgumentError → Option Config
given_config (Ok config) = Some config
given_config (Err wrong) = None
