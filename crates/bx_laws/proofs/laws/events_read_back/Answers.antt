use Rattle.bx_laws.proofs.ReadBack.{events}
use Rattle.bx_laws.proofs.laws.events_read_back.Goals as goal

pub returns : goal.returns
returns c = events
