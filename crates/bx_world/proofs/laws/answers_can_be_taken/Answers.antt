use Rattle.bx_world.proofs.Files.{answers_can_be_taken}
use Rattle.bx_world.proofs.laws.answers_can_be_taken.Goals as goal

pub returns : goal.returns
returns c = answers_can_be_taken
