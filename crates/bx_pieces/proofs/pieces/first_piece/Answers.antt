use Rattle.std.proofs.Common.{option_map}
use Rattle.bx_pieces.proofs.Splits.{whole-first}
use Rattle.bx_pieces.proofs.pieces.first_piece.Goals as goal

pub returns-in-Some-clause-text : goal.returns-in-Some-clause-text
returns-in-Some-clause-text c = cc (whole-first (option_map (λ name. name.now) c.args.callback) c.args.elements.now _ c.requires c.index-elements-0.is, c.in-Ok.ensures.ok, c.in_ok-first.ensures)
