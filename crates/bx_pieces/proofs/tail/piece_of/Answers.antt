use Rattle.bx_pieces.proofs.Splits.{part-cut}
use Rattle.bx_pieces.proofs.tail.piece_of.Goals as goal

pub returns-in-Ok-clause-text : goal.returns-in-Ok-clause-text
returns-in-Ok-clause-text c = cc (part-cut c.args.is_script c.fitting-count.result c.args.elements.now, c.in-Ok.ensures.ok, c.in_ok-text.ensures)
