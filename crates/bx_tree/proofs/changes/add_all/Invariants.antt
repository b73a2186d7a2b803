use Rattle.std.proofs.Common.{◌≡◌, take}
use Rattle.std.specs.List.{fold}
use Rattle.bx_names.specs.InForce.{with_pattern}
use Rattle.bx_tree.specs.Words.{IsIndexAt, KeepsOthers}
use Rattle.bx_tree.proofs.changes.add_all.Given as goal

abbrev pub invariant-loop-pattern : goal.invariant-loop-pattern
invariant-loop-pattern l = record {
  index : IsIndexAt l.nodes l.number l.arrivals;
  others : KeepsOthers l.number l.initial.nodes l.nodes;
  all : l.arrivals ≡ fold with_pattern l.initial.arrivals (take l.pattern-index l.patterns);
}
