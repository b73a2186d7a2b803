use Rattle.std.proofs.Common.{◌≤◌}
use Rattle.bx_script.specs.Reading.{ReadingOn}
use Rattle.bx_script.proofs.part.Reads.read_text.Given as goal

pub record Keeps (A B : Type 0) : Type 0 where
  pub reads : A
  pub line : B

abbrev pub invariant-loop-self : goal.invariant-loop-self
invariant-loop-self g l = Keeps (l.self.left ≤ l.fn.self.left) (ReadingOn l.began (g.R.Read.remaining l.fn.reader) (g.R.Read.remaining l.reader) l.kept.items)

abbrev pub decreases-loop-self : goal.decreases-loop-self
decreases-loop-self g l = l.self.left
