use Rattle.std.proofs.Common.{nat_eq, sym, ◌∙◌}
use Rattle.std.proofs.lemmas.{List.Filters.dedup_is, List.Sorted.list_any-IsPermutation, Map.Keys.IsStrictlyIncreasing-dedup}
use Rattle.bx_tree.proofs.AmongLemmas.{is_among-dedup}
use Rattle.bx_tree.proofs.nodes.found.Found.settle.Goals as goal

pub returns-clause-ascending : goal.returns-clause-ascending
returns-clause-ascending c = let is = dedup_is _ _ _ c.dedup.ensures.filtered in rw is (IsStrictlyIncreasing-dedup _ c.in_ok-sort.ensures.sorted)

pub returns-clause-same : goal.returns-clause-same
returns-clause-same c =
    let is = dedup_is _ _ _ c.dedup.ensures.filtered in
    λ n. rw is (is_among-dedup _ n ∙ sym (list_any-IsPermutation (nat_eq n) _ _ c.sort.ensures.permutation))
