use Rattle.std.proofs.Common.{◌≡◌, ◌+◌, ◌-◌, ◌≤◌, length, drop}
use Rattle.std.specs.{List.prefix_len, Str.IsCharBoundary}
use Rattle.json.specs.Word.{is_space}
use Rattle.bx_cut.proofs.scan.blank_len.Given as goal

abbrev pub invariant-loop-at : goal.invariant-loop-at
invariant-loop-at l = (prefix_len is_space l.bytes ≡ l.at + prefix_len is_space (drop l.at l.bytes)) × (l.at ≤ length l.bytes) × IsCharBoundary l.bytes l.at

abbrev pub decreases-loop-at : goal.decreases-loop-at
decreases-loop-at l = length l.bytes - l.at
