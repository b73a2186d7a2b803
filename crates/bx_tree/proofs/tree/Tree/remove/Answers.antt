use Rattle.std.proofs.Common.{is_some, refl, sym, ap, ◌∙◌}
use Rattle.bx_names.specs.InForce.{without_pattern}
use Rattle.bx_tree.specs.Patterns.{patterns_of}
use Rattle.bx_tree.proofs.IndexLemmas.{index_removed, without_absent}
use Rattle.bx_tree.proofs.tree.Tree.remove.Goals as goal

pub invariant_of-self : goal.invariant_of-self
invariant_of-self c =
    let all = c.self.inside.sessions in
    let absent = sym (c.self.invariant c.args.pattern.now c.remove.ensures.whole c.args.number) ∙ sym c.remove.ensures.stood ∙ ap is_some c.in_default.is in
    index_removed c.self.inside.nodes c.remove.new.self all all c.args.pattern.now c.args.number c.self.invariant c.remove.ensures.gone
    (without_absent (patterns_of all c.args.number) c.args.pattern.now absent) (λ n other. refl)

pub invariant_of-self-2 : goal.invariant_of-self-2
invariant_of-self-2 c =
    index_removed c.self.inside.nodes c.remove.new.self c.self.inside.sessions c.remove-2.new.self c.args.pattern.now c.args.number c.self.invariant c.remove.ensures.gone
    c.remove-2.ensures.own c.remove-2.ensures.others

pub returns-in_default-clause-own : goal.returns-in_default-clause-own
returns-in_default-clause-own c =
    let absent = sym (c.self.invariant c.args.pattern.now c.remove.ensures.whole c.args.number) ∙ sym c.remove.ensures.stood ∙ ap is_some c.in_default.is in
    without_absent (patterns_of c.self.inside.sessions c.args.number) c.args.pattern.now absent
    ∙ ap (λ all. without_pattern (patterns_of all c.args.number) c.args.pattern.now) c.self.view_is
