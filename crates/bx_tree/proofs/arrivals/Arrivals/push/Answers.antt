use Rattle.std.proofs.Common.{◌≡◌, [], ◌∷◌, ◌++◌, sym, ap, subst, ◌∙◌}
use Rattle.std.specs.Map.{values_of}
use Rattle.bx_names.specs.InForce.{in_force}
use Rattle.bx_tree.specs.Once.{AreOnce}
use Rattle.bx_tree.proofs.OnceLemmas.{once_more, put_last, values_last}
use Rattle.bx_tree.proofs.arrivals.Arrivals.push.Goals as goal

pub invariant_of-self-2 : goal.invariant_of-self-2
invariant_of-self-2 c =
    let before = c.self.inside.by_stamp.entries in
    let p = c.args.pattern in
    let stamp = c.in_ok-stamp.stamp in
    let all : values_of c.insert.new.self.entries ≡ values_of before ++ p ∷ [] = ap values_of (c.in_ok-insert.ensures.entries ∙ put_last before stamp p c.in_ok-stamp.ensures) ∙ values_last before stamp p in
    subst AreOnce (sym all) (once_more (values_of before) p c.self.invariant (ap (λ ps. in_force ps p) c.self.view_is ∙ c.requires))

pub returns-clause-ok : goal.returns-clause-ok
returns-clause-ok c =
    let before = c.self.inside.by_stamp.entries in
    let p = c.args.pattern in
    let stamp = c.in_ok-stamp.stamp in
    ap values_of (c.in_ok-insert.ensures.entries ∙ put_last before stamp p c.in_ok-stamp.ensures) ∙ values_last before stamp p ∙ ap (λ ps. ps ++ p ∷ []) c.self.view_is
