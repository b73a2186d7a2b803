use Rattle.std.proofs.Common.{arith}
use Rattle.std.proofs.lemmas.{Grind.common_steps, Str.IsCharBoundary-after_ascii, Str.IsCharBoundary-start}
use Rattle.bx_cut.proofs.scan.blank_len.Goals as goal

pub loop-at-init : goal.loop-at-init
loop-at-init c = (omega arith, omega arith, IsCharBoundary-start c.as_bytes-bytes.result.now c.as_bytes-bytes.ensures.utf8)

pub loop-at-preserved : goal.loop-at-preserved
loop-at-preserved c = (grind (arith, common_steps), omega arith, IsCharBoundary-after_ascii c.as_bytes-bytes.result.now c.loop-at.at c.as_bytes-bytes.ensures.utf8 (omega arith) (c.is_space.ensures.ascii c.if-is_space.true))
