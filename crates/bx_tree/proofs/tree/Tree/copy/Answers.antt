use Rattle.std.proofs.Common.{[], ap, ◌∙◌}
use Rattle.std.specs.List.{fold}
use Rattle.bx_names.specs.InForce.{with_pattern}
use Rattle.bx_tree.specs.Patterns.{patterns_of}
use Rattle.bx_tree.proofs.OnceLemmas.{all_come}
use Rattle.bx_tree.proofs.tree.Tree.copy.Goals as goal

pub returns-clause-own : goal.returns-clause-own
returns-clause-own c =
    c.in_ok-add_all.ensures.own
    ∙ ap (λ held. fold with_pattern held c.as_slice.result.now) c.requires.none
    ∙ ap (λ ps. fold with_pattern [] ps) (c.as_slice.ensures.value ∙ c.in_ok-patterns.ensures.list)
    ∙ all_come [] (patterns_of c.from.inside.sessions c.args.number) c.in_ok-patterns.ensures.once
    ∙ ap (λ all. patterns_of all c.args.number) c.from.view_is
