use Rattle.bx_record.proofs.Unused.{answered_alike}
use Rattle.bx_record.proofs.laws.records_answer_alike.Goals as goal

pub returns : goal.returns
returns c = answered_alike
