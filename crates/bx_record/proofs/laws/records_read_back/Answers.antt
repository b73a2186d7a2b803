use Rattle.bx_record.proofs.ReadBack.{records}
use Rattle.bx_record.proofs.laws.records_read_back.Goals as goal

pub returns : goal.returns
returns c = records
