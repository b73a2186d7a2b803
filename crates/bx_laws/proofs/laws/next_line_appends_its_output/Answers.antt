use Rattle.bx_theory.proofs.Lines.{next_line_appends_its_output}
use Rattle.bx_laws.proofs.laws.next_line_appends_its_output.Goals as goal

pub returns : goal.returns
returns c = next_line_appends_its_output
