use Rattle.std.proofs.Common.{◌≡◌, ◌∙◌, List, length, ap, arith}
use Rattle.bx_shard.specs.Words.{state, connect_in}
use Rattle.bx_window.specs.Steps.{list_of}
use Rattle.bx_window.specs.declared.law.LogStep.{LogStep}
use Rattle.bx_hub.proofs.Waking.{woken_along}
use Rattle.bx_hub.proofs.shard_state.ShardState.go_on.Goals as goal

pub returns-in_err-apply_batch-clause-woken : goal.returns-in_err-apply_batch-clause-woken
returns-in_err-apply_batch-clause-woken g c =
    let at = state g.P.Placing.place_of in
    woken_along (connect_in (at c.args.self.now.shard)) (connect_in (at c.loop-alloc.self.shard)) (connect_in (at c.next_batch.new.self.shard)) (connect_in (at c.apply_batch.new.self.shard))
    c.args.wakers.now c.loop-alloc.wakers c.apply_batch.new.wakers c.loop-alloc.invariant.5 (λ p. ap (λ s. connect_in (at s) p) c.next_batch.ensures.same.1) c.apply_batch.ensures.woken

pub loop-alloc-preserved : goal.loop-alloc-preserved
loop-alloc-preserved g c =
    let at = state g.P.Placing.place_of in
    let inv = c.loop-alloc.invariant in
    let next = c.next_batch.ensures.same in
    let one = c.apply_batch.ensures in
    let prefix : c.apply_batch.new.self.prefix ≡ c.args.self.now.prefix = one.same.0 ∙ next.0 ∙ inv.0 in
    let ends : length (list_of c.apply_batch.new.self.prefix) ≡ length (list_of c.args.self.now.prefix) = ap (λ (xs : List LogStep). length (list_of xs)) prefix in (
      prefix,
      omega (arith, c.apply_batch.new.self.within, ends, c.len-end.ensures.end),
      one.kept.0 ∙ ap (λ s. s.index) next.1 ∙ inv.2,
      one.kept.1 ∙ next.2 ∙ inv.3,
      one.kept.2 ∙ next.3 ∙ inv.4,
      woken_along (connect_in (at c.args.self.now.shard)) (connect_in (at c.loop-alloc.self.shard)) (connect_in (at c.next_batch.new.self.shard)) (connect_in (at c.apply_batch.new.self.shard))
          c.args.wakers.now c.loop-alloc.wakers c.apply_batch.new.wakers inv.5 (λ p. ap (λ s. connect_in (at s) p) next.1) one.woken,
    )
