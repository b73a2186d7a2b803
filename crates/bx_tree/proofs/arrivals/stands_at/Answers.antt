use Rattle.std.proofs.Common.{Some, sym, ap, ◌∙◌}
use Rattle.bx_names.specs.Words.{same_glob-decides}
use Rattle.bx_tree.proofs.arrivals.stands_at.Goals as goal

pub returns-in-Some : goal.returns-in-Some
returns-in-Some c = λ same. sym c.in-Some.ensures.value ∙ ap (λ q. Some q) ((same_glob-decides c.in-Some.there.now c.args.pattern.now).0 (sym c.eq.ensures ∙ same))
