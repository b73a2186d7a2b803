use Rattle.std.proofs.Common.{arith}
use Rattle.bx_pieces.proofs.Splits.{led-more}
use Rattle.bx_pieces.proofs.tail.led_text.Goals as goal

pub loop-element-preserved : goal.loop-element-preserved
loop-element-preserved c =
    let step = led-more c.loop-element.element-index c.args.elements.now _ (omega arith) c.element-item.is in
    cc (step, c.in_ok-out-2.ensures)
