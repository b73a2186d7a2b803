use Rattle.bx_world.proofs.Takes.{list_grows_as_admitted}
use Rattle.bx_world.proofs.laws.list_grows_as_admitted.Goals as goal

pub returns : goal.returns
returns c = list_grows_as_admitted
