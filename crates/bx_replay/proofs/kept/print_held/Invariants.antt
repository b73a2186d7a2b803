use Rattle.std.proofs.Common.{List, take}
use Rattle.std.specs.{BTreeMap.get, Io.KnownBytes.Appends, Ordering.nat_cmp}
use Rattle.bx_replay.specs.Kept.{AreKept, held_texts}
use Rattle.bx_script.specs.Words.{Numbered, written}
use Rattle.bx_replay.proofs.kept.print_held.Given as goal

abbrev pub invariant-loop-number : goal.invariant-loop-number
invariant-loop-number g l = (numbered : List Numbered) → AreKept numbered (get nat_cmp l.kept) →
    Appends (written g.W.Write.contents l.initial.writer) (written g.W.Write.contents l.writer) (held_texts numbered (take l.number-index l.numbers))
