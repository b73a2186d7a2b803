use Rattle.std.proofs.Common.{sym, ◌∙◌, rules, refl}
use Rattle.bx_script.proofs.Cuts.{none_is_all}
use Rattle.bx_script.proofs.part.cut.Goals as goal

pub returns-in-None-clause-parts : goal.returns-in-None-clause-parts
returns-in-None-clause-parts c = (search rules, refl, refl, none_is_all 10 _ (sym c.newline_in.ensures ∙ c.in-None.is))
