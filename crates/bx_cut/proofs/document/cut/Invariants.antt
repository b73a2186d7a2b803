use Rattle.std.proofs.Common.{◌≡◌, ◌++◌, length}
use denote.Text.{Utf8}
use denote.Shadow.{shadow}
use Rattle.bx_cut.specs.Words.{listed, split_object, pieces}
use Rattle.bx_cut.proofs.document.cut.Given as goal

abbrev pub invariant-loop-pieces : goal.invariant-loop-pieces
invariant-loop-pieces l = shadow (Utf8 l.rest) × (l.pieces.items ++ (listed split_object l.rest).0 ≡ pieces l.text)

abbrev pub decreases-loop-pieces : goal.decreases-loop-pieces
decreases-loop-pieces l = length l.rest
