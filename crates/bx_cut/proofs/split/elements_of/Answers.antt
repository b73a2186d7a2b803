use Rattle.std.proofs.Common.{ap, refl, ◌∙◌}
use Rattle.bx_cut.specs.Pieces.{elements_inside}
use Rattle.bx_cut.proofs.{Names.rest_or_nothing, Insides.elements_read}
use Rattle.bx_cut.proofs.split.elements_of.Goals as goal

pub returns-clause-value : goal.returns-clause-value
returns-clause-value c = rest_or_nothing c.past.result _ c.unwrap_or.result refl c.unwrap_or.ensures ∙ ap elements_inside c.past.ensures.value

pub returns-clause-reads : goal.returns-clause-reads
returns-clause-reads c d r = rw (returns-clause-value c) (elements_read c.args.array.now d r)
