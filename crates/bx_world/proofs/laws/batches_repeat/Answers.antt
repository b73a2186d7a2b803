use Rattle.bx_world.proofs.Repeats.{batches_repeat}
use Rattle.bx_world.proofs.laws.batches_repeat.Goals as goal

pub returns : goal.returns
returns c = batches_repeat
