use Rattle.std.proofs.Common.{ℕ, ◌≡◌, ◌<◌, ◌+◌, ◌-◌, ◌∙◌, List, length, slice_get, Some, sym, ap, subst, arith}
use Rattle.bx_connects.proofs.WakingLemmas.{woken_onwards}
use Rattle.bx_shard.specs.Words.{state, connect_in}
use Rattle.bx_window.specs.Places.{IsOf, StandsIn}
use Rattle.bx_window.specs.Steps.{list_of}
use Rattle.bx_window.specs.declared.law.LogStep.{LogStep}
use Rattle.bx_hub.proofs.Held.{entry_here, stands_applied, stands_in}
use Rattle.bx_hub.proofs.shard_state.ShardState.apply_batch.Goals as goal

pub apply-requires-clause-next : goal.apply-requires-clause-next
apply-requires-clause-next g c =
    let d = c.loop-place.self in
    let inv = c.loop-place.invariant in
    let of : IsOf c.args.batch.now c.loop-place.place = (omega (arith, inv.6), omega (arith, c.loop-place-test.true)) in
    let stands = subst (λ (xs : List LogStep). StandsIn g.L.LogId.config (list_of xs) c.args.batch.now) (sym inv.1) c.requires.stands in
    entry_here g.L.LogId.config d.reader c.args.batch.now c.loop-place.place c.entry_of.result.now (of, stands) c.entry_of.ensures ∙ inv.5

pub apply-requires-clause-end : goal.apply-requires-clause-end
apply-requires-clause-end g c =
    let d = c.loop-place.self in
    let inv = c.loop-place.invariant in
    let of : IsOf c.args.batch.now c.loop-place.place = (omega (arith, inv.6), omega (arith, c.loop-place-test.true)) in
    let stands = subst (λ (xs : List LogStep). StandsIn g.L.LogId.config (list_of xs) c.args.batch.now) (sym inv.1) c.requires.stands in
    let here = entry_here g.L.LogId.config d.reader c.args.batch.now c.loop-place.place c.entry_of.result.now (of, stands) c.entry_of.ensures in
    omega (arith, here, c.loop-place-test.true, c.len-end.ensures.bounded)

pub invariant_of-self : goal.invariant_of-self
invariant_of-self g c =
    let d = c.loop-place.self in
    let inv = c.loop-place.invariant in
    let new = state g.P.Placing.place_of c.apply.new.self in
    let e = c.entry_of.result.now in
    let here : IsOf c.args.batch.now c.loop-place.place = (omega (arith, inv.6), omega (arith, c.loop-place-test.true)) in
    let of = subst (λ (n : ℕ). IsOf c.args.batch.now n) inv.5 here in
    let stands = subst (λ (xs : List LogStep). StandsIn g.L.LogId.config (list_of xs) c.args.batch.now) (sym inv.1) c.requires.stands in
    let is = subst (λ (n : ℕ). slice_get c.args.batch.now.entries (n - c.args.batch.now.first) ≡ Some e) inv.5 c.entry_of.ensures in
    let ends : length (list_of d.prefix) ≡ length (list_of c.args.self.now.prefix) = ap (λ (xs : List LogStep). length (list_of xs)) inv.0 in
    let within : d.shard.place < length (list_of d.prefix) = omega (arith, ends, inv.5, c.loop-place-test.true, c.len-end.ensures.end) in
    let t = stands_applied new c.args.batch.now e c.apply.result (stands_in d) (omega (arith, g.L.LogId.config.limits.some_batch)) within (of, stands) is
    c.apply.ensures.done c.apply.ensures.refused c.apply.ensures.sound in
    record { learnt = d.learnt; within = t.within; holds = t.holds }

pub returns-in-Err-clause-woken : goal.returns-in-Err-clause-woken
returns-in-Err-clause-woken g c =
    let at = state g.P.Placing.place_of in
    woken_onwards (connect_in (at c.args.self.now.shard)) (connect_in (at c.loop-place.self.shard)) (connect_in (at c.apply.new.self))
    c.args.wakers.now c.loop-place.wakers c.apply.new.wakers c.loop-place.invariant.8 c.apply.ensures.woken

pub loop-place-preserved : goal.loop-place-preserved
loop-place-preserved g c =
    let d = c.loop-place.self in
    let at = state g.P.Placing.place_of in
    let inv = c.loop-place.invariant in
    let of : IsOf c.args.batch.now c.loop-place.place = (omega (arith, inv.6), omega (arith, c.loop-place-test.true)) in
    let stands = subst (λ (xs : List LogStep). StandsIn g.L.LogId.config (list_of xs) c.args.batch.now) (sym inv.1) c.requires.stands in
    let here = entry_here g.L.LogId.config d.reader c.args.batch.now c.loop-place.place c.entry_of.result.now (of, stands) c.entry_of.ensures in
    let next : c.apply.new.self.place ≡ c.loop-place.place + 1 = c.in-Ok.ensures.done.place ∙ ap (λ (n : ℕ). n + 1) here in (
      inv.0,
      inv.1,
      c.in-Ok.ensures.done.index ∙ inv.2,
      inv.3,
      inv.4,
      sym next,
      omega (arith, inv.6),
      omega (arith, c.loop-place-test.true),
      woken_onwards (connect_in (at c.args.self.now.shard)) (connect_in (at d.shard)) (connect_in (at c.apply.new.self))
          c.args.wakers.now c.loop-place.wakers c.apply.new.wakers inv.8 c.apply.ensures.woken,
    )
