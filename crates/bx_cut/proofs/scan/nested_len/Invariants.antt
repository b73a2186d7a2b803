use Rattle.std.proofs.Common.{◌≡◌, ◌+◌, ◌-◌, ◌≤◌, length, drop}
use Rattle.bx_cut.specs.Cut.{outside, nest_len}
use Rattle.bx_cut.proofs.scan.nested_len.Given as goal

abbrev pub invariant-loop-at : goal.invariant-loop-at
invariant-loop-at l = (nest_len outside 0 l.text ≡ l.at + nest_len outside l.open (drop l.at l.text)) × (l.at ≤ length l.text) × (l.open ≤ l.at)

abbrev pub decreases-loop-at : goal.decreases-loop-at
decreases-loop-at l = length l.text - l.at
