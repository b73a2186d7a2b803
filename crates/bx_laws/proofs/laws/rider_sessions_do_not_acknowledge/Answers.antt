use Rattle.bx_theory.proofs.Riders.{rider_sessions_do_not_acknowledge}
use Rattle.bx_laws.proofs.laws.rider_sessions_do_not_acknowledge.Goals as goal

pub returns : goal.returns
returns c = rider_sessions_do_not_acknowledge
