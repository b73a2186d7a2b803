use Rattle.bx_theory.proofs.Lists.{entries_in_order}
use Rattle.bx_laws.proofs.laws.entries_in_order.Goals as goal

pub returns : goal.returns
returns c = entries_in_order
