use Rattle.std.proofs.Common.{◌≡◌, ◌+◌, List, ℕ, ◌++◌, length}
use Rattle.std.specs.Io.KnownBytes.{Appends}
use Rattle.bx_script.specs.Output.{interruptions_left, written}
use Rattle.bx_script.proofs.print.put.Given as goal

abbrev pub invariant-loop-rest : goal.invariant-loop-rest
invariant-loop-rest g l = (done : List ℕ) × (l.text ≡ done ++ l.rest) × Appends (written g.W.Write.contents l.initial.writer) (written g.W.Write.contents l.writer) done

abbrev pub decreases-loop-rest : goal.decreases-loop-rest
decreases-loop-rest g l = length l.rest + interruptions_left l.writer
