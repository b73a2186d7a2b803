use Rattle.std.proofs.Common.{length}
use Rattle.bx_replay.proofs.arguments.+with_named.Given as goal

abbrev pub decreases-with_named : goal.decreases-with_named
decreases-with_named l = length l.limits.now
