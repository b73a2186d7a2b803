use Rattle.std.proofs.Common.{◌≡◌, map, take}
use Rattle.bx_cut.specs.Bodies.{texts_of}
use Rattle.bx_entry.specs.Requests.{cut_of}
use Rattle.bx_entry.proofs.read.cut_all.Given as goal

abbrev pub invariant-loop-i : goal.invariant-loop-i
invariant-loop-i l = l.cuts.items ≡ map cut_of (take l.i (texts_of l.bodies))
