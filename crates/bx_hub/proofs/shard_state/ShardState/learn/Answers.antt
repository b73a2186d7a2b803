use Rattle.std.proofs.Common.{subst, sym, ⊎_elim}
use mathlib.Core.List.{IsPrefix}
use Rattle.bx_window.proofs.Fronts.{prefix_trans}
use Rattle.bx_hub.proofs.Held.{learnt_by, stands_grown, stands_in}
use Rattle.bx_hub.proofs.shard_state.ShardState.learn.Goals as goal

pub invariant_of-self : goal.invariant_of-self
invariant_of-self g c =
    let d = c.args.self.now in
    let old = stands_in d in
    let seen = c.learn.new.self in
    let learnt : IsPrefix c.longer.result seen =
    ⊎_elim (λ e. subst (λ t. IsPrefix t seen) (sym e) (prefix_trans d.prefix d.reader seen old.learnt c.learn.ensures.own)) (λ e. subst (λ t. IsPrefix t seen) (sym e) c.learn.ensures.told) c.longer.ensures.one in
    let t = stands_grown seen c.longer.result old c.learn.ensures.own c.longer.ensures.this learnt in
    record { learnt = learnt_by t; within = t.within; holds = t.holds }
