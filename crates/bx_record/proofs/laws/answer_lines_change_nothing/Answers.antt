use Rattle.bx_record.proofs.Answered.{nothing_changes}
use Rattle.bx_record.proofs.laws.answer_lines_change_nothing.Goals as goal

pub returns : goal.returns
returns c = nothing_changes
