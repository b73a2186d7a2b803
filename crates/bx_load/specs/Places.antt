-- The latencies that are counted at each place: each index of the counts.
use Rattle.std.specs.Prelude.{◌≡◌, ℕ, ◌+◌, ◌*◌, ◌-◌, ◌<◌, ◌≤◌, List, sum_by, take, if◌then◌else◌, nat_lt}

-- The greatest latency in microseconds that is counted at `place`, except at the last place.
abbrev pub greatest_of : ℕ → ℕ
greatest_of place = if nat_lt place 65536 then place else (place - 65536) * 1024 + 1023

-- The number of latencies that are counted at the first `places` places.
abbrev pub reached : List ℕ → ℕ → ℕ
reached counts places = sum_by (λ n. n) (take places counts)

-- The greatest latency of the first place at which the counts reach `percent` percent of `total`.
pub record IsReachedAt (counts : List ℕ) (total percent latency : ℕ) : Type 0 where
  pub place : ℕ
  pub greatest : latency ≡ greatest_of place
  pub enough : percent * total ≤ 100 * reached counts (place + 1)
  pub before : 100 * reached counts place < percent * total
