use Rattle.bx_theory.proofs.Gained.{events_were_published}
use Rattle.bx_laws.proofs.laws.events_were_published.Goals as goal

pub returns : goal.returns
returns c = events_were_published
