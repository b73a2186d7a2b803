use Rattle.bx_laws.proofs.ReadBack.{replies}
use Rattle.bx_laws.proofs.laws.replies_read_back.Goals as goal

pub returns : goal.returns
returns c = replies
