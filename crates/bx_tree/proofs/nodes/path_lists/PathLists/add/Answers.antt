use Rattle.std.proofs.Common.{Some, is_some, ◌||◌, ◌==◌, string_bytes, ap, ◌∙◌, rules}
use Rattle.std.specs.{Map.lookup, Ordering.nat_cmp, BTreeMap.get_by_text, BTreeMap.is_at}
use Rattle.std.proofs.lemmas.Map.Text.{btree_map_updates_text}
use Rattle.bx_tree.proofs.StandsLemmas.{added, has, at_path, elsewhere, changed_at, unchanged_at, or_idle, on_err}
use Rattle.bx_tree.specs.Kept.{is_kept}
use Rattle.bx_tree.proofs.KeptLemmas.{occupied_if_some, after_insert, kept_after, after_put}
use Rattle.bx_tree.proofs.nodes.path_lists.PathLists.add.Goals as goal

pub invariant_of-self : goal.invariant_of-self
invariant_of-self c =
    let path = c.args.path.now in
    let after = c.get_mut.follows.lender c.insert.new.self in
    let told = btree_map_updates_text path c.args.self.now.by_path after (Some c.insert.new.self) ((c.get_mut.follows.holds c.insert.new.self).3 (search rules)) in
    let held = ap is_kept c.in-Some.ensures.value ∙ c.args.self.now.no_empty path in
    let occupied = after_insert c.insert.result c.in-Some.numbers.now c.insert.new.self c.args.number c.args.stamp held c.insert.ensures.updates c.insert.ensures.err in
    record { no_empty = kept_after path (get_by_text c.args.self.now.by_path) (get_by_text after) (Some c.insert.new.self) told occupied (λ other e. c.args.self.now.no_empty other) }

pub invariant_of-self-2 : goal.invariant_of-self-2
invariant_of-self-2 c =
    let list = c.insert-2.new.self in
    record {
      no_empty = after_put c.insert-3.result (string_bytes c.in_ok-path.path) c.get_mut.follows.lender-at-none c.insert-3.new.self list (occupied_if_some _ list.entries c.args.stamp c.in_ok-insert-2.ensures.updates.1)
          (λ other. ap (λ m. is_kept (get_by_text m other)) c.get_mut.follows.holds-at-none ∙ c.args.self.now.no_empty other)
          c.insert-3.ensures.updates c.insert-3.ensures.err;
    }

pub returns-in_err-insert-clause-err : goal.returns-in_err-insert-clause-err
returns-in_err-insert-clause-err c =
    let path = c.args.path.now in
    let before = get_by_text c.args.self.now.by_path in
    let after = get_by_text (c.get_mut.follows.lender c.insert.new.self) in
    let told = btree_map_updates_text path c.args.self.now.by_path (c.get_mut.follows.lender c.insert.new.self) (Some c.insert.new.self) ((c.get_mut.follows.holds c.insert.new.self).3 (search rules)) in
    on_err c.from_residual.result (unchanged_at path before after (elsewhere path before after (Some c.insert.new.self) told) (λ n.
    ap (λ o. has o n) (at_path path before after (Some c.insert.new.self) told)
    ∙ ap (λ es. is_some (lookup (is_at (nat_cmp n)) es)) c.in_err-insert.ensures.err
    ∙ ap (λ o. has o n) c.in-Some.ensures.value))

pub returns-in-Some-clause-ok : goal.returns-in-Some-clause-ok
returns-in-Some-clause-ok c =
    let path = c.args.path.now in
    let number = c.args.number in
    let before = get_by_text c.args.self.now.by_path in
    let after = get_by_text (c.get_mut.follows.lender c.insert.new.self) in
    let told = btree_map_updates_text path c.args.self.now.by_path (c.get_mut.follows.lender c.insert.new.self) (Some c.insert.new.self) ((c.get_mut.follows.holds c.insert.new.self).3 (search rules)) in
    changed_at (λ a b. a || b) or_idle path number before after (elsewhere path before after (Some c.insert.new.self) told) (λ n.
    ap (λ o. has o n) (at_path path before after (Some c.insert.new.self) told)
    ∙ added c.in-Some.numbers.now c.insert.new.self number c.args.stamp c.in_ok-insert.ensures.updates n
    ∙ ap (λ o. has o n || (n == number)) c.in-Some.ensures.value)

pub returns-clause-ok : goal.returns-clause-ok
returns-clause-ok c =
    let path = c.args.path.now in
    let number = c.args.number in
    let list = c.insert-2.new.self in
    let before = get_by_text c.args.self.now.by_path in
    let after = get_by_text c.insert-3.new.self in
    let told = rw (c.in_ok-path.ensures.ok, c.get_mut.follows.holds-at-none) at (btree_map_updates_text (string_bytes c.in_ok-path.path) c.get_mut.follows.lender-at-none c.insert-3.new.self (Some list) c.in_ok-insert-3.ensures.updates) in
    changed_at (λ a b. a || b) or_idle path number before after (elsewhere path before after (Some list) told) (λ n.
    ap (λ o. has o n) (at_path path before after (Some list) told)
    ∙ added c.new-numbers.result list number c.args.stamp c.in_ok-insert-2.ensures.updates n
    ∙ ap (λ es. is_some (lookup (is_at (nat_cmp n)) es) || (n == number)) c.new-numbers.ensures.empty
    ∙ ap (λ o. has o n || (n == number)) c.in_default.ensures.value)
