use Rattle.bx_theory.proofs.Kept.{entry_effect_ignores_history}
use Rattle.bx_laws.proofs.laws.entry_effect_ignores_history.Goals as goal

pub returns : goal.returns
returns c = entry_effect_ignores_history
