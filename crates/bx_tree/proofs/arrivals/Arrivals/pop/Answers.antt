use Rattle.bx_tree.proofs.OnceLemmas.{popped}
use Rattle.bx_tree.proofs.arrivals.Arrivals.pop.Goals as goal

pub invariant_of-self-2 : goal.invariant_of-self-2
invariant_of-self-2 c = (popped c.self.inside.by_stamp.entries c.pop_last.new.self.entries c.in-Some.last c.in-Some.ensures.removal c.self.invariant).0

pub returns-clause-once : goal.returns-clause-once
returns-clause-once c = (popped c.self.inside.by_stamp.entries c.pop_last.new.self.entries c.in-Some.last c.in-Some.ensures.removal c.self.invariant).1
