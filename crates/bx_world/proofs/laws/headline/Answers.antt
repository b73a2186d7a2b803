use Rattle.bx_world.proofs.AsOne.{headline}
use Rattle.bx_world.proofs.laws.headline.Goals as goal

pub returns : goal.returns
returns c = headline
