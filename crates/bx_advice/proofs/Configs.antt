-- Proves which numbers of shards give a configuration.
use Rattle.std.proofs.Common.{◌≡◌, ℕ, ◌≤◌, Bool, true, false, refl, ap, ◌∙◌, sym, leb-true, le-leb, leb, true≢false}
use Rattle.std.specs.Prelude.{Some}
use Rattle.std.proofs.Math.Bridge.{le_prop}
use Rattle.bx_advice.specs.declared.{config.Config.Config, limit.Limit.Limit, limit.Limits.Limits}
use Rattle.bx_advice.specs.declared.limit.TheConstants.{MAX_SHARDS}
use Rattle.bx_advice.specs.Configs.{config_by, new_config, with_maximum}
use Rattle.bx_advice.specs.Limits.{accepts, standard_limits, with_limit}

some_by : (shards timeout interval max_interval : ℕ) (a : 1 ≤ shards) (b : shards ≤ MAX_SHARDS) (some few : Bool) (e : leb 1 shards ≡ some) (f : leb shards MAX_SHARDS ≡ few) → some ≡ true → few ≡ true
    → config_by shards timeout interval max_interval some few e f ≡ Some (record { shards = shards; timeout = timeout; interval = interval; max_interval = max_interval; limits = standard_limits; ride = false; anonymous = false; some_shard = a; shards_in_range = b })
some_by shards timeout interval max_interval a b true true e f _ _ = λ k. Some (record { shards = shards; timeout = timeout; interval = interval; max_interval = max_interval; limits = standard_limits; ride = false; anonymous = false; some_shard = le_prop (leb-true 1 shards e) a k; shards_in_range = le_prop (leb-true shards MAX_SHARDS f) b k })
some_by shards timeout interval max_interval a b true false e f _ h = absurd (true≢false (sym h))
some_by shards timeout interval max_interval a b false few e f h _ = absurd (true≢false (sym h))

-- A valid number of shards gives a configuration.
pub new_some : (given shards timeout interval max_interval : ℕ) (batch : 1 ≤ 256) (a : 1 ≤ given) (b : given ≤ MAX_SHARDS) → given ≡ shards
    → Some (record { shards = given; timeout = timeout; interval = interval; max_interval = max_interval; limits = record standard_limits { some_batch = batch }; ride = false; anonymous = false; some_shard = a; shards_in_range = b })
    ≡ new_config shards timeout interval max_interval
new_some given shards timeout interval max_interval batch a b e =
    let standard : record standard_limits { some_batch = batch } ≡ standard_limits = λ k. record standard_limits { some_batch = le_prop batch standard_limits.some_batch k } in
    ap (λ l. Some (record { shards = given; timeout = timeout; interval = interval; max_interval = max_interval; limits = l; ride = false; anonymous = false; some_shard = a; shards_in_range = b })) standard
    ∙ sym (some_by given timeout interval max_interval a b (leb 1 given) (leb given MAX_SHARDS) refl refl (le-leb 1 given a) (le-leb given MAX_SHARDS b))
    ∙ ap (λ (n : ℕ). new_config n timeout interval max_interval) e

-- A value that can be configured is set.
pub maximum_set : (limit : Limit) (n : ℕ) (c : Config) (limits : Limits) (a : 1 ≤ c.shards) (b : c.shards ≤ MAX_SHARDS) → accepts limit n ≡ true → limits ≡ with_limit limit n c.limits
    → Some (record c { limits = limits; some_shard = a; shards_in_range = b }) ≡ with_maximum limit n c
maximum_set limit n c limits a b e f =
    let same : Some (record c { limits = limits; some_shard = a; shards_in_range = b }) ≡ Some (record c { limits = with_limit limit n c.limits }) = λ k. Some (record c { limits = f k; some_shard = le_prop a c.some_shard k; shards_in_range = le_prop b c.shards_in_range k }) in
    same ∙ sym (rw e refl)
