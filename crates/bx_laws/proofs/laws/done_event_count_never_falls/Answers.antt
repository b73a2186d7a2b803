use Rattle.bx_theory.proofs.Done.{done_event_count_never_falls}
use Rattle.bx_laws.proofs.laws.done_event_count_never_falls.Goals as goal

pub returns : goal.returns
returns c = done_event_count_never_falls
