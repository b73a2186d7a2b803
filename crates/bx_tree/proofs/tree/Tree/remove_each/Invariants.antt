use Rattle.std.proofs.Common.{◌≡◌, ◌≢◌, ℕ, ◌≤◌, length, take}
use Rattle.std.specs.List.{fold}
use Rattle.bx_names.specs.InForce.{without_pattern}
use Rattle.bx_tree.specs.Patterns.{patterns_of}
use Rattle.bx_tree.proofs.tree.Tree.remove_each.Given as goal

abbrev pub invariant-loop-pattern : goal.invariant-loop-pattern
invariant-loop-pattern l = record {
  own : patterns_of l.self l.number ≡ fold without_pattern (patterns_of l.initial.self l.number) (take l.pattern-index l.patterns);
  others : (n : ℕ) → n ≢ l.number → patterns_of l.self n ≡ patterns_of l.initial.self n;
  fewer : length (patterns_of l.self l.number) ≤ length (patterns_of l.initial.self l.number);
}
