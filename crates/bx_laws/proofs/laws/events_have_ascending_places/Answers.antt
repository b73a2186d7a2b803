use Rattle.bx_theory.proofs.Gained.{events_have_ascending_places}
use Rattle.bx_laws.proofs.laws.events_have_ascending_places.Goals as goal

pub returns : goal.returns
returns c = events_have_ascending_places
