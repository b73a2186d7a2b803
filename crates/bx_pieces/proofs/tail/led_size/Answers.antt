use Rattle.std.proofs.Common.{arith}
use Rattle.bx_pieces.proofs.Splits.{led-size}
use Rattle.bx_pieces.proofs.tail.led_size.Goals as goal

pub loop-element-preserved : goal.loop-element-preserved
loop-element-preserved c =
    let step = led-size c.args.is_script c.loop-element.element-index c.args.elements.now _ (omega arith) c.element-item.is in
    cc (step, c.in-Some.ensures, c.in_ok-size.ensures)
