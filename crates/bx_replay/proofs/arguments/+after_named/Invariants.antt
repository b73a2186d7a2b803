use Rattle.std.proofs.Common.{length}
use Rattle.bx_replay.proofs.arguments.+after_named.Given as goal

abbrev pub decreases-after_named : goal.decreases-after_named
decreases-after_named l = length l.limits.now
