use Rattle.std.proofs.Common.{Some, None, refl, sym, ap, ◌∙◌, rules}
use Rattle.std.specs.BTreeMap.{get_by_text}
use Rattle.std.proofs.lemmas.Map.Text.{btree_map_updates_text}
use Rattle.bx_tree.proofs.StandsLemmas.{has_none, has, at_path, elsewhere, gone_at}
use Rattle.bx_tree.specs.Kept.{is_kept}
use Rattle.bx_tree.proofs.KeptLemmas.{occupied_unless_empty, kept_after}
use Rattle.bx_tree.proofs.nodes.path_lists.PathLists.remove.Goals as goal

pub invariant_of-self-then-is_empty : goal.invariant_of-self-then-is_empty
invariant_of-self-then-is_empty c =
    let path = c.args.path.now in
    let left = c.remove-stamp.new.self in
    let mid = c.get_mut.follows.lender left in
    let told = btree_map_updates_text path c.args.self.now.by_path mid (Some left) ((c.get_mut.follows.holds left).3 (search rules)) in
    let gone = btree_map_updates_text path mid c.remove.new.self None c.remove.ensures.updates in
    record {
      no_empty = kept_after path (get_by_text mid) (get_by_text c.remove.new.self) None gone refl
          (λ other e. ap is_kept (elsewhere path (get_by_text c.args.self.now.by_path) (get_by_text mid) (Some left) told other e) ∙ c.args.self.now.no_empty other);
    }

pub invariant_of-self-else-is_empty : goal.invariant_of-self-else-is_empty
invariant_of-self-else-is_empty c =
    let path = c.args.path.now in
    let left = c.remove-stamp.new.self in
    let after = c.get_mut.follows.lender left in
    let told = btree_map_updates_text path c.args.self.now.by_path after (Some left) ((c.get_mut.follows.holds left).3 (search rules)) in
    let occupied = occupied_unless_empty left.entries c.is_empty.result c.is_empty.ensures c.if-is_empty.false in
    record { no_empty = kept_after path (get_by_text c.args.self.now.by_path) (get_by_text after) (Some left) told occupied (λ other e. c.args.self.now.no_empty other) }

pub returns-then-is_empty-clause-gone : goal.returns-then-is_empty-clause-gone
returns-then-is_empty-clause-gone c =
    let path = c.args.path.now in
    let left = c.remove-stamp.new.self in
    let before = get_by_text c.args.self.now.by_path in
    let mid = get_by_text (c.get_mut.follows.lender left) in
    let after = get_by_text c.remove.new.self in
    let told = btree_map_updates_text path c.args.self.now.by_path (c.get_mut.follows.lender left) (Some left) ((c.get_mut.follows.holds left).3 (search rules)) in
    let gone = btree_map_updates_text path (c.get_mut.follows.lender left) c.remove.new.self None c.remove.ensures.updates in
    gone_at path c.args.number before after c.in-Some.numbers.now left c.in-Some.ensures.value c.remove-stamp.ensures.updates
    (λ other e. elsewhere path mid after None gone other e ∙ elsewhere path before mid (Some left) told other e)
    (λ n. ap (λ o. has o n) (at_path path mid after None gone) ∙ sym (has_none left n (c.is_empty.ensures.0 c.if-is_empty.true)))

pub returns-else-is_empty-clause-gone : goal.returns-else-is_empty-clause-gone
returns-else-is_empty-clause-gone c =
    let path = c.args.path.now in
    let left = c.remove-stamp.new.self in
    let before = get_by_text c.args.self.now.by_path in
    let after = get_by_text (c.get_mut.follows.lender left) in
    let told = btree_map_updates_text path c.args.self.now.by_path (c.get_mut.follows.lender left) (Some left) ((c.get_mut.follows.holds left).3 (search rules)) in
    gone_at path c.args.number before after c.in-Some.numbers.now left c.in-Some.ensures.value c.remove-stamp.ensures.updates
    (elsewhere path before after (Some left) told) (λ n. ap (λ o. has o n) (at_path path before after (Some left) told))
