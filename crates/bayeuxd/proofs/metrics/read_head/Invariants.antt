use Rattle.std.proofs.Common.{◌≡◌, ◌≤◌, length}
use Rattle.bayeuxd.proofs.metrics.read_head.Given as goal

abbrev pub invariant-loop : goal.invariant-loop
invariant-loop g l = (l.length ≤ length l.head) × (length l.head ≡ length l.initial.head)
