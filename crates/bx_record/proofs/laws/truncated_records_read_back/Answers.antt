use Rattle.bx_record.proofs.BrokenOff.{broken_off}
use Rattle.bx_record.proofs.laws.truncated_records_read_back.Goals as goal

pub returns : goal.returns
returns c = broken_off
