use Rattle.std.proofs.Common.{ℕ, List, ◌++◌, drop, map, take}
use Rattle.std.specs.{BTreeMap.get, Ordering.nat_cmp}
use Rattle.bx_replay.specs.Kept.{AllKept, AreKept, PrintsOuts, inputs_given}
use Rattle.bx_script.specs.Words.{Numbered, written}
use Rattle.bx_fanout.specs.Stages.{seen_out}
use Rattle.bx_replay.proofs.kept.print_outs.Given as goal

abbrev pub invariant-loop-out : goal.invariant-loop-out
invariant-loop-out g l = record {
  others : (others : List ℕ) → AllKept (get nat_cmp l.initial.kept) (inputs_given l.outs ++ others) → AllKept (get nat_cmp l.kept) (inputs_given (drop l.out-index l.outs) ++ others);
  prints : (numbered : List Numbered) → AreKept numbered (get nat_cmp l.initial.kept) →
      PrintsOuts numbered (map seen_out (take l.out-index l.outs)) (written g.W.Write.contents l.initial.writer) (written g.W.Write.contents l.writer) (get nat_cmp l.kept);
}
