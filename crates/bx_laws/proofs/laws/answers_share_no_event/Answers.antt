use Rattle.bx_theory.proofs.Fronts.{answers_share_no_event}
use Rattle.bx_laws.proofs.laws.answers_share_no_event.Goals as goal

pub returns : goal.returns
returns c = answers_share_no_event
