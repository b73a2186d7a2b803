use Rattle.std.proofs.Common.{◌≡◌, ℕ, ◌||◌, ◌+◌, ◌<◌, ◌≤◌, length, take, drop, []}
use Rattle.bx_names.specs.Segments.{path_of}
use Rattle.bx_tree.specs.Walks.{is_among, is_met}
use Rattle.bx_tree.proofs.nodes.Nodes.walk.Given as goal

abbrev pub invariant-loop-segment : goal.invariant-loop-segment
invariant-loop-segment l = record {
  met : (n : ℕ) → (is_among l.found.numbers.items n || is_met l.self (take l.len l.text) l.segment-iterator n) ≡ is_met l.self [] l.name n;
  rest : drop l.len l.text ≡ path_of l.segment-iterator;
  within : l.len ≤ length l.text;
  left : l.left ≡ length l.segment-iterator;
  short : length l.segment-iterator ≤ length l.name;
  ahead : 0 < length l.segment-iterator → l.found.visited + length l.segment-iterator ≡ length l.name;
  last : length l.segment-iterator ≡ 0 → 0 < length l.name → l.found.visited ≡ length l.name + 1;
}
