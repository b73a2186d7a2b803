use Rattle.bx_hub.proofs.Sequences.{sequentially_consistent}
use Rattle.bx_hub.proofs.laws.calls_are_sequentially_consistent.Goals as goal

pub returns : goal.returns
returns c = sequentially_consistent
