use Rattle.std.proofs.Common.{◌≡◌, ◌*◌, ◌<◌, sum_by, take}
use Rattle.bx_load.proofs.latencies.Latencies.at.Given as goal

abbrev pub invariant-loop-place : goal.invariant-loop-place
invariant-loop-place l = (l.reached ≡ sum_by (λ n. n) (take l.place l.self.counts.items)) × (100 * l.reached < l.percent * l.self.total)
