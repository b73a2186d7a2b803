use Rattle.bx_registry.proofs.Steps as proved
use Rattle.bx_registry.proofs.laws.roll_judges_element_as_registry.Goals as goal

pub returns : goal.returns
returns c = proved.roll_judges_element_as_registry
