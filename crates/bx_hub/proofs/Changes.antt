-- The state of a shard after a change.
use Rattle.std.proofs.Common.{ℕ, ◌≡◌, ◌≢◌, ◌++◌, Bool, true, false, not, cond, List, Option, Some, None, refl, sym, ◌∙◌, ap}
use mathlib.Core.List.{IsPrefix}
use Rattle.bx_connects.specs.Connects.{is_filed_below, unswept}
use Rattle.bx_connects.specs.declared.connects.ConnectState.{ConnectState}
use Rattle.bx_shard.specs.States.{State, Swept, connect_in}
use Rattle.bx_hub.specs.Faults.{paused, resumed}
use Rattle.bx_hub.specs.declared.activity.Activity.{Activity}
use Rattle.bx_hub.specs.declared.activity.Activity.TheVariants.{Active, Paused, Closed}

unswept_again : (before : ℕ) (c : Option ConnectState) → unswept before (unswept before c) ≡ unswept before c
unswept_again before None = refl
unswept_again before (Some state) = by (not (is_filed_below before state)) refl
  where
    by : (b : Bool) → not (is_filed_below before state) ≡ b
        → unswept before (cond b (Some state) None) ≡ cond b (Some state) None
    by true e = ap (λ (b : Bool). cond b (Some state) None) e
    by false e = refl

pub unswept_twice : (before : ℕ) (old new : State) → Swept before old new → (place : ℕ)
    → unswept before (connect_in new place) ≡ connect_in new place
unswept_twice before old new s place = ap (λ (c : Option ConnectState). unswept before c) (s.connects place)
    ∙ unswept_again before (connect_in old place) ∙ sym (s.connects place)

pub paused_stands : (activity : Activity) → paused activity ≢ Active
paused_stands Active e = cc
paused_stands Paused e = cc
paused_stands Closed e = cc

pub resumed_goes : (activity : Activity) → resumed activity ≢ Paused
resumed_goes Active e = cc
resumed_goes Paused e = cc
resumed_goes Closed e = cc

pub added_behind : (old more new : List ℕ) → new ≡ old ++ more → IsPrefix old new
added_behind old more new e = (more, sym e)
