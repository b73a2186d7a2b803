use Rattle.std.proofs.Common.{◌≡◌, map}
use Rattle.bx_tree.proofs.arrivals.Arrivals.to_vec.Given as goal

abbrev pub invariant-loop-pattern : goal.invariant-loop-pattern
invariant-loop-pattern l = l.copy.items ≡ map (λ r. r.now) l.yielded
