use Rattle.std.proofs.Common.{arith}
use Rattle.bx_message.specs.Texts.{item_text}
use Rattle.bx_message.proofs.{ObjectLemmas.array-first, ObjectLemmas.array-more, write.body_text.Goals.then-i-gt0+in_ok-push-2, write.body_text.Goals.else-i-gt0}
use Rattle.bx_message.proofs.write.body_text.Goals as goal

pub loop-i-preserved : goal.loop-i-preserved
loop-i-preserved c =
    rw c.in_ok-out-2.ensures
    (elim c.if-i-gt0.branch [ then-i-gt0+in_ok-push-2 w ↦ rw (w.out-is, w.in_ok-push-2.ensures.items) (array-more item_text _ _ _ _ (omega arith) (omega arith) c.index-items-i.is c.loop-i.invariant) | else-i-gt0 w ↦ rw w.out-is (array-first item_text _ _ _ _ (omega arith) (omega arith) c.index-items-i.is c.loop-i.invariant) ])
