use Rattle.bx_shard.proofs.Given.{filed_answers_match_definitions}
use Rattle.bx_shard.proofs.laws.filed_answers_match_definitions.Goals as goal

pub returns : goal.returns
returns c = filed_answers_match_definitions
