use Rattle.bx_theory.proofs.Kept.{kept_state_computed_without_history}
use Rattle.bx_laws.proofs.laws.kept_state_computed_without_history.Goals as goal

pub returns : goal.returns
returns c = kept_state_computed_without_history
