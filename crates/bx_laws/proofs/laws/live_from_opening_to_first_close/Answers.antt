use Rattle.bx_theory.proofs.Stages.{live_from_opening_to_first_close}
use Rattle.bx_laws.proofs.laws.live_from_opening_to_first_close.Goals as goal

pub returns : goal.returns
returns c = live_from_opening_to_first_close
