-- A walk of as many steps as there are shards visits each of them.
use Rattle.std.proofs.Common.{ℕ, ◌≡◌, ◌≤◌, ◌<◌, ◌+◌, ◌-◌, nat_lt, Bool, true, false, cond, length, refl, sym, subst, arith}
use Rattle.bx_hub.specs.Advancing.{IsWalked}
use Rattle.bx_hub.specs.Walks.{walked_at}
use Rattle.bx_hub.specs.declared.walk.AdvanceReport.{AdvanceReport}
use Rattle.bx_window.specs.declared.law.LogId as LogId

abbrev pub step_of : ℕ → ℕ → ℕ → ℕ
step_of first shards index = cond (nat_lt index first) (index + (shards - first)) (index - first)

pub walked_each : (first shards index : ℕ) → first ≤ shards → index < shards → (step_of first shards index < shards) × (walked_at first shards (step_of first shards index) ≡ index)
walked_each first shards index le lt = by (nat_lt index first) refl
  where
    by : (b : Bool) → nat_lt index first ≡ b → (cond b (index + (shards - first)) (index - first) < shards) × (walked_at first shards (cond b (index + (shards - first)) (index - first)) ≡ index)
    by true h = (grind (arith, le, lt, h), grind (arith, le, lt, h))
    by false h = (grind (arith, le, lt, h), grind (arith, le, lt, h))

module _ {L : Type 0} {g : LogId.Ghosts L} where
  pub all_walked : (round : AdvanceReport L g) → length round.stays ≡ round.shards → (index : ℕ) → index < round.shards → IsWalked round index
  all_walked round all index lt =
      let each = walked_each round.first round.shards index round.within lt in
      record { step = step_of round.first round.shards index; done = subst (λ n. step_of round.first round.shards index < n) (sym all) each.0; is = each.1 }
