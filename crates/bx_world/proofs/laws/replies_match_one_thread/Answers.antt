use Rattle.bx_world.proofs.Replies.{replies_match_one_thread}
use Rattle.bx_world.proofs.laws.replies_match_one_thread.Goals as goal

pub returns : goal.returns
returns c = replies_match_one_thread
