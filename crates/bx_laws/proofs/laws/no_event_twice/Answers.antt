use Rattle.bx_theory.proofs.Rising.{no_event_twice}
use Rattle.bx_laws.proofs.laws.no_event_twice.Goals as goal

pub returns : goal.returns
returns c = no_event_twice
