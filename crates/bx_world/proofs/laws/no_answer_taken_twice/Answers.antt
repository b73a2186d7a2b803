use Rattle.bx_world.proofs.Files.{no_answer_taken_twice}
use Rattle.bx_world.proofs.laws.no_answer_taken_twice.Goals as goal

pub returns : goal.returns
returns c = no_answer_taken_twice
