-- Configurations, and how their settings are changed.
use Rattle.std.specs.Prelude.{ℕ, ◌≡◌, Bool, true, false, nat_le, if◌then◌else◌, Option, Some, None}
use Rattle.std.proofs.Common.{leb-true, refl}
use Rattle.bx_advice.specs.declared.{config.Config.Config, limit.Limit.Limit, options.Options.Options}
use Rattle.bx_advice.specs.declared.limit.TheConstants.{MAX_SHARDS}
use Rattle.bx_advice.specs.Limits.{accepts, standard_limits, with_limit}

-- The configuration that `new_config` describes, given whether the number of shards is at least 1
-- and whether it is at most `MAX_SHARDS`.
abbrev pub config_by : (shards timeout interval max_interval : ℕ) (some few : Bool) → nat_le 1 shards ≡ some → nat_le shards MAX_SHARDS ≡ few → Option Config
config_by shards timeout interval max_interval true true some few = Some (record {
  shards = shards;
  timeout = timeout;
  interval = interval;
  max_interval = max_interval;
  limits = standard_limits;
  ride = false;
  anonymous = false;
  some_shard = leb-true 1 shards some;
  shards_in_range = leb-true shards MAX_SHARDS few;
})
config_by shards timeout interval max_interval is_some is_few some few = None

-- The configuration with these shards and times, the default limits and no options. The result is
-- `None` if the number of shards is not from 1 to `MAX_SHARDS`.
abbrev pub new_config : ℕ → ℕ → ℕ → ℕ → Option Config
new_config shards timeout interval max_interval = config_by shards timeout interval max_interval (nat_le 1 shards) (nat_le shards MAX_SHARDS) refl refl

-- The configuration with other options.
abbrev pub with_options : Options → Config → Config
with_options options c = record c { ride = options.ride; anonymous = options.anonymous }

-- The configuration with another value of a limit, if that value can be configured.
abbrev pub with_maximum : Limit → ℕ → Config → Option Config
with_maximum limit n c = if accepts limit n then Some (record c { limits = with_limit limit n c.limits }) else None
