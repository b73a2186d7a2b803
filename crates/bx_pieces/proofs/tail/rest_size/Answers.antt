use Rattle.bx_pieces.proofs.Splits.{rest-size}
use Rattle.bx_pieces.proofs.tail.rest_size.Goals as goal

pub returns-in-Some : goal.returns-in-Some
returns-in-Some c = cc (rest-size c.args.is_script c.args.elements.now, c.in-Some.ensures, c.in_ok-size.ensures)
