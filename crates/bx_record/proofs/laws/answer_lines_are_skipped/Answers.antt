use Rattle.bx_record.proofs.Answered.{skipped}
use Rattle.bx_record.proofs.laws.answer_lines_are_skipped.Goals as goal

pub returns : goal.returns
returns c = skipped
