-- The first hold in the set has the earliest deadline.
use Rattle.std.proofs.Common.{◌≡◌, ◌<◌, ◌≤◌, ℕ, false, List, arith, sym, ap}
use Rattle.std.proofs.Math.Dec.{leb}
use Rattle.std.specs.Ordering.{nat_cmp, ordering_then, is_eq}
use Rattle.std.specs.declared.cmp.Ordering.TheVariants.{Less}
use Rattle.std.specs.{Cmp.nat_cmp_is, BTreeMap.is_at, BTreeMap.Range.IsLeBy, List.All, List.list_any}
use Rattle.std.proofs.lemmas.{Bool.Decides.leb_tells, List.Folds.list_any_none}
use Rattle.bx_connects.specs.Deadlines.{hold_cmp}
use Rattle.std.proofs.lemmas.Grind.{common_steps}

pub ends_later : (k x : ℕ × ℕ × ℕ) → IsLeBy hold_cmp k x → k.0 ≤ x.0
ends_later k x h = grind (arith, common_steps, leb_tells, leb)

pub is_another : (q x : ℕ × ℕ × ℕ) → q.0 < x.0 → is_at (hold_cmp q) x ≡ false
is_another q x h = ap (λ o. is_eq (ordering_then (ordering_then o (nat_cmp q.1 x.1)) (nat_cmp q.2 x.2))) (sym (nat_cmp_is q.0 x.0 Less h))

pub none_before : (k : ℕ × ℕ × ℕ) (keys : List (ℕ × ℕ × ℕ)) → All (IsLeBy hold_cmp k) keys → (q : ℕ × ℕ × ℕ) → q.0 < k.0 → list_any (is_at (hold_cmp q)) keys ≡ false
none_before k keys h q before = grind (arith, common_steps, list_any_none, is_another, ends_later)
