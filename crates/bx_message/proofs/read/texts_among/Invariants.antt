use Rattle.std.proofs.Common.{◌≡◌, ◌&&◌, ◌++◌}
use Rattle.std.specs.List.{list_all}
use Rattle.bx_cut.specs.Pieces.{elements}
use Rattle.bx_message.specs.Fields.{texts_among, is_text}
use Rattle.bx_message.proofs.read.texts_among.Given as goal

abbrev pub invariant-loop-element : goal.invariant-loop-element
invariant-loop-element l =
    (l.texts ++ texts_among l.element-iterator ≡ texts_among (elements l.array)) × ((l.all_texts && list_all is_text l.element-iterator) ≡ list_all is_text (elements l.array))
