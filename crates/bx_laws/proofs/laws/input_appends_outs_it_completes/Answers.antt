use Rattle.bx_theory.proofs.Opens.{input_appends_outs_it_completes}
use Rattle.bx_laws.proofs.laws.input_appends_outs_it_completes.Goals as goal

pub returns : goal.returns
returns c = input_appends_outs_it_completes
