use Rattle.bx_tree.proofs.WholeLemmas.{whole_pattern}
use Rattle.bx_tree.proofs.own_path.own_path.Goals as goal

pub returns-in-Exact-clause-whole : goal.returns-in-Exact-clause-whole
returns-in-Exact-clause-whole c = whole_pattern c.as_str-text.result.now c.args.pattern.now c.as_str-text.ensures.reads_back

pub returns-in-One-clause-whole : goal.returns-in-One-clause-whole
returns-in-One-clause-whole c = whole_pattern c.as_str-text.result.now c.args.pattern.now c.as_str-text.ensures.reads_back

pub returns-in-Many-clause-whole : goal.returns-in-Many-clause-whole
returns-in-Many-clause-whole c = whole_pattern c.as_str-text.result.now c.args.pattern.now c.as_str-text.ensures.reads_back
