-- The first line of a record, which has the configuration of its server.
use Rattle.std.specs.Prelude.{ℕ, Bool, true, false, List, [], ◌∷◌, ◌++◌, length, drop, map, nat_eq, nat_le, codes, decimal, if◌then◌else◌, Option, Some, None}
use Rattle.std.specs.List.{join_with_byte, slice_split, starts_with}
use Rattle.bx_advice.specs.declared.{config.Config.Config, limit.Limit.Limit, limit.Limits.Limits, options.Options.Options, limit.TheConstants.Limit.ALL}
use Rattle.bx_advice.specs.Configs.{new_config, with_maximum, with_options}
use Rattle.bx_advice.specs.Limits.{greatest, limit_name, limit_of}
use Rattle.bx_advice.specs.Options.{options_in}
use Rattle.bx_message.specs.Fields.{number_of}
use Rattle.bx_message.specs.Numbers.{◌>>=◌, limit_in, time_in}
use Rattle.bx_script.specs.Words.{first_of, is_space}

-- ---- Writing

-- The word `name=value`.
abbrev pub setting : List ℕ → List ℕ → List ℕ
setting name value = name ++ 61 ∷ value

-- The value for the options `ride` and `anonymous`: `r`, `a`, `ra` for both, or `-` for neither.
abbrev pub options_word : Bool → Bool → List ℕ
options_word false false = codes "-"
options_word true false = codes "r"
options_word false true = codes "a"
options_word true true = codes "ra"

-- The word for the value of a limit: its digits, or `-` if it is beyond the greatest value.
abbrev pub limit_word : Limit → ℕ → List ℕ
limit_word limit n = if nat_le n (greatest limit) then decimal n else codes "-"

-- The word for a limit.
abbrev pub limit_setting : Limits → Limit → List ℕ
limit_setting limits limit = setting (limit_name limit) (limit_word limit (limit_of limit limits))

-- The words for a configuration without its limits.
abbrev pub first_words : Config → List (List ℕ)
first_words c =
    setting (codes "shards") (decimal c.shards) ∷ setting (codes "timeout") (decimal c.timeout) ∷ setting (codes "interval") (decimal c.interval)
    ∷ setting (codes "max_interval") (decimal c.max_interval) ∷ setting (codes "options") (options_word c.ride c.anonymous) ∷ []

-- The words for a configuration: those of its limits come last.
abbrev pub config_words : Config → List (List ℕ)
config_words c = first_words c ++ map (limit_setting c.limits) ALL

-- The line of a configuration: its words, separated by single spaces.
abbrev pub config_text : Config → List ℕ
config_text c = join_with_byte 32 (config_words c) ++ 10 ∷ []

-- ---- Reading

-- The rest of a word that begins with `front`.
abbrev pub after_front : List ℕ → List ℕ → Option (List ℕ)
after_front front word = if starts_with nat_eq word front then Some (drop (length front) word) else None

-- The value in a word `name=value`.
abbrev pub value_in : List ℕ → List ℕ → Option (List ℕ)
value_in name word = after_front name word >>= after_front (codes "=")

-- The number of shards, a time and the options that a word gives.
abbrev pub shards_in : List ℕ → Option ℕ
shards_in word = value_in (codes "shards") word >>= number_of

abbrev pub time_at : List ℕ → List ℕ → Option ℕ
time_at name word = value_in name word >>= time_in

abbrev pub options_at : List ℕ → Option Options
options_at word = value_in (codes "options") word >>= options_in

-- The configuration that the words before those of the limits give.
abbrev pub first_in : List ℕ → List ℕ → List ℕ → List ℕ → List ℕ → Option Config
first_in shards timeout interval max_interval options = do
  s ← shards_in shards
  t ← time_at (codes "timeout") timeout
  i ← time_at (codes "interval") interval
  m ← time_at (codes "max_interval") max_interval
  o ← options_at options
  c ← new_config s t i m
  Some (with_options o c)

-- The configuration with the limits that the words give, one word for each limit.
abbrev pub limits_in : List Limit → List (List ℕ) → Config → Option Config
limits_in [] [] c = Some c
limits_in (limit ∷ limits) (word ∷ words) c = do
  value ← value_in (limit_name limit) word
  n ← limit_in limit value
  changed ← with_maximum limit n c
  limits_in limits words changed
limits_in limits words c = None

-- The configuration that the words of a record's first line give, if all of them are valid.
abbrev pub config_in : List (List ℕ) → Option Config
config_in (shards ∷ timeout ∷ interval ∷ max_interval ∷ options ∷ limits) = first_in shards timeout interval max_interval options >>= limits_in ALL limits
config_in words = None

-- The configuration that the first line of a record gives, if it is valid.
abbrev pub recorded_config : List ℕ → Option Config
recorded_config text = config_in (slice_split is_space (first_of text))
