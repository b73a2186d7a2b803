use Rattle.bx_world.proofs.Files.{answers_are_filed}
use Rattle.bx_world.proofs.laws.answers_are_filed.Goals as goal

pub returns : goal.returns
returns c = answers_are_filed
