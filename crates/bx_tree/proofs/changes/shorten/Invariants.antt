use Rattle.std.proofs.Common.{◌≡◌, length, take}
use Rattle.bx_tree.specs.Words.{IsIndexAt, KeepsOthers}
use Rattle.bx_tree.proofs.changes.shorten.Given as goal

abbrev pub decreases-loop-arrivals : goal.decreases-loop-arrivals
decreases-loop-arrivals l = length l.arrivals

abbrev pub invariant-loop-arrivals : goal.invariant-loop-arrivals
invariant-loop-arrivals l = record {
  index : IsIndexAt l.nodes l.number l.arrivals;
  others : KeepsOthers l.number l.initial.nodes l.nodes;
  first : take l.len l.arrivals ≡ take l.len l.initial.arrivals;
}
