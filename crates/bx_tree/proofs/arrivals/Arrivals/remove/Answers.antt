use Rattle.std.proofs.Common.{ℕ, not, sym, ap, subst, ◌∙◌, rules}
use Rattle.std.specs.Map.{values_of}
use Rattle.std.proofs.lemmas.Map.Made.{filter_same_pairs}
use Rattle.bx_names.specs.Words.{Glob, same_glob, without_pattern}
use Rattle.bx_tree.specs.Once.{AreOnce}
use Rattle.bx_tree.proofs.OnceLemmas.{kept_values, once_without, removed_at}
use Rattle.bx_tree.proofs.arrivals.Arrivals.remove.Goals as goal

pub invariant_of-self : goal.invariant_of-self
invariant_of-self c =
    let before = c.self.inside.by_stamp.entries in
    let p = c.args.pattern.now in
    let left = ap values_of c.remove.ensures.entries ∙ removed_at before c.args.stamp p c.self.invariant (c.stands_at.ensures c.if-stands_at.true) in
    subst AreOnce (sym left) (once_without (values_of before) p c.self.invariant)

pub returns-then-stands_at : goal.returns-then-stands_at
returns-then-stands_at c =
    let p = c.args.pattern.now in
    ap values_of c.remove.ensures.entries ∙ removed_at c.self.inside.by_stamp.entries c.args.stamp p c.self.invariant (c.stands_at.ensures c.if-stands_at.true)
    ∙ ap (λ ps. without_pattern ps p) c.self.view_is

pub invariant_of-self-else-stands_at : goal.invariant_of-self-else-stands_at
invariant_of-self-else-stands_at c =
    let before = c.self.inside.by_stamp.entries in
    let p = c.args.pattern.now in
    let kept = filter_same_pairs _ (λ (e : ℕ × Glob). not (same_glob p e.1)) _ (λ k v b w f called. search rules) _ _ c.retain.ensures.filtered in
    subst AreOnce (sym (ap values_of kept ∙ kept_values before p)) (once_without (values_of before) p c.self.invariant)

pub returns-else-stands_at : goal.returns-else-stands_at
returns-else-stands_at c =
    let p = c.args.pattern.now in
    let kept = filter_same_pairs _ (λ (e : ℕ × Glob). not (same_glob p e.1)) _ (λ k v b w f called. search rules) _ _ c.retain.ensures.filtered in
    ap values_of kept ∙ kept_values c.self.inside.by_stamp.entries p ∙ ap (λ ps. without_pattern ps p) c.self.view_is
