use Rattle.bx_theory.proofs.Lives.{registry_and_entries_agree_on_live}
use Rattle.bx_laws.proofs.laws.registry_and_entries_agree_on_live.Goals as goal

pub returns : goal.returns
returns c = registry_and_entries_agree_on_live
