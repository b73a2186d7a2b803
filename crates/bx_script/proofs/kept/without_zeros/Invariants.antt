use Rattle.std.proofs.Common.{◌≡◌, length}
use Rattle.bx_script.specs.Kept.{without_zeros}
use Rattle.bx_script.proofs.kept.without_zeros.Given as goal

abbrev pub invariant-loop-behind : goal.invariant-loop-behind
invariant-loop-behind l = without_zeros l.rest ≡ without_zeros l.part

abbrev pub decreases-loop-behind : goal.decreases-loop-behind
decreases-loop-behind l = length l.rest
