use Rattle.std.proofs.Common.{length}
use Rattle.bx_record.proofs.config.+read_limits.Given as goal

abbrev pub decreases-read_limits : goal.decreases-read_limits
decreases-read_limits l = length l.limits.now
