use Rattle.bx_theory.proofs.Riding.{no_rider_beside_rejected_or_sessionless}
use Rattle.bx_laws.proofs.laws.no_rider_beside_rejected_or_sessionless.Goals as goal

pub returns : goal.returns
returns c = no_rider_beside_rejected_or_sessionless
