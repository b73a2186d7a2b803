use Rattle.bx_world.proofs.Takes.{taken_answers_match_one_thread}
use Rattle.bx_world.proofs.laws.taken_answers_match_one_thread.Goals as goal

pub returns : goal.returns
returns c = taken_answers_match_one_thread
