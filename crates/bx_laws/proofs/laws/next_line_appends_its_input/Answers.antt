use Rattle.bx_theory.proofs.Lines.{next_line_appends_its_input}
use Rattle.bx_laws.proofs.laws.next_line_appends_its_input.Goals as goal

pub returns : goal.returns
returns c = next_line_appends_its_input
