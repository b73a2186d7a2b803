use Rattle.std.proofs.Common.{arith}
use Rattle.bx_tree.proofs.{PathLemmas.longer_within, PathLemmas.longer_path, PathLemmas.longer_ahead, WholeLemmas.whole_name, WholeLemmas.some_segment}
use Rattle.bx_tree.proofs.nodes.Nodes.walk.Goals as goal
use Rattle.std.proofs.lemmas.Grind.{common_steps}

pub loop-segment-preserved : goal.loop-segment-preserved
loop-segment-preserved c = grind (arith, common_steps, longer_within, longer_path, longer_ahead)

pub returns-clause-whole : goal.returns-clause-whole
returns-clause-whole c = whole_name c.as_str-text.result.now c.args.name.now c.as_str-text.ensures.reads_back

pub returns-clause-visited : goal.returns-clause-visited
returns-clause-visited c = grind (arith, common_steps, some_segment)
