use Rattle.bx_theory.proofs.Dues.{due_is_greatest_set_by_messages}
use Rattle.bx_laws.proofs.laws.due_is_greatest_set_by_messages.Goals as goal

pub returns : goal.returns
returns c = due_is_greatest_set_by_messages
