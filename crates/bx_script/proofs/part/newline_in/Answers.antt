use Rattle.bx_script.proofs.Cuts.{newline_found}
use Rattle.bx_script.proofs.part.newline_in.Goals as goal

pub returns : goal.returns
returns c = newline_found c.args.shown.now c.memchr.result c.memchr.ensures
