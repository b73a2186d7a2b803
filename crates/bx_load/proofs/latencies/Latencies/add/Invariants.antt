use Rattle.std.proofs.Common.{◌≡◌, ◌+◌, ◌^◌, ◌<◌, sum_by, take}
use Rattle.bx_load.proofs.latencies.Latencies.add.Given as goal

abbrev pub invariant-loop-place : goal.invariant-loop-place
invariant-loop-place l = l.fn.self.total + l.other.total < 2 ^ 64 → l.self.total ≡ l.fn.self.total + sum_by (λ n. n) (take l.place l.other.counts.items)
