use Rattle.bx_record.proofs.BrokenOff.{answers_broken_off}
use Rattle.bx_record.proofs.laws.truncated_records_with_answers_read_back.Goals as goal

pub returns : goal.returns
returns c = answers_broken_off
