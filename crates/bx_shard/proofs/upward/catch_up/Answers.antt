use Rattle.std.proofs.Common.{◌≡◌, ◌≤◌, ◌<◌, ◌-◌, List, get_or, length, subst}
use Rattle.std.specs.Prelude.{slice_get, Some}
use Rattle.bx_entry.specs.declared.entry.Entry.{Entry}
use Rattle.bx_shard.specs.Upward.{first_of}
use Rattle.bx_shard.proofs.Going.{ended, goes_far, goes_on, goes_still, next, stands, stays}
use Rattle.bx_shard.proofs.upward.catch_up.Goals as goal
use Rattle.bx_shard.proofs.upward.catch_up.Goals.{After-apply}

here : (g : _) (c : After-apply g) → slice_get c.args.entries.now (c.loop-entry.shard.place - first_of c.args.entries.now) ≡ Some c.entry-item.result
here g c = let e = c.lacking-entry-items.ensures in
    next c.args.entries.now c.args.shard.now c.loop-entry.shard c.loop-entry.entry-index c.entry-item.result c.requires.within c.loop-entry.invariant.place
    (subst (λ (xs : List Entry). c.loop-entry.entry-index < length xs) e c.loop-entry-test.true)
    (subst (λ (xs : List Entry). c.entry-item.result ≡ get_or xs c.loop-entry.entry-index c.entry-item.result) e c.entry-item.is)

pub loop-entry-preserved : goal.loop-entry-preserved
loop-entry-preserved g c = let h = here g (goal.at.loop-entry-preserved g c).After-apply in let a = c.in_ok-apply.ensures in
    goes_on g.P.Placing.place_of c.args.entries.now c.loop-entry.entry-index c.entry-item.result c.args.shard.now c.loop-entry.shard c.apply.new.self c.loop-entry.invariant h
    (stands c.args.entries.now c.args.shard.now c.loop-entry.shard c.loop-entry.entry-index c.entry-item.result c.requires.consecutive c.requires.within c.loop-entry.invariant.place h)
    a.done c.apply.ensures.sound

pub returns-in_err-apply-clause-went_on : goal.returns-in_err-apply-clause-went_on
returns-in_err-apply-clause-went_on g c = let h = here g (goal.at.returns-in_err-apply-clause-went_on g c).After-apply in let a = c.in_err-apply.ensures in
    goes_far g.P.Placing.place_of c.args.entries.now c.loop-entry.entry-index c.args.shard.now c.apply.new.self
    (goes_still g.P.Placing.place_of c.args.entries.now c.loop-entry.entry-index c.args.shard.now c.loop-entry.shard c.apply.new.self c.loop-entry.invariant a.refused c.apply.ensures.sound)
    (let e = c.lacking-entry-items.ensures in subst (λ (xs : List Entry). c.loop-entry.entry-index ≤ length xs) e c.loop-entry.auto.entry-index-end)
    (stays c.args.entries.now c.loop-entry.shard c.apply.new.self c.entry-item.result h a.refused.place a.free) c.requires.within

pub returns-clause-went_on : goal.returns-clause-went_on
returns-clause-went_on g c = let e = c.lacking-entry-items.ensures in
    goes_far g.P.Placing.place_of c.args.entries.now c.loop-entry.entry-index c.args.shard.now c.loop-entry.shard c.loop-entry.invariant
    (subst (λ (xs : List Entry). c.loop-entry.entry-index ≤ length xs) e c.loop-entry.auto.entry-index-end)
    (ended c.args.entries.now c.args.shard.now c.loop-entry.shard c.loop-entry.entry-index c.requires.within c.loop-entry.invariant.place
    (subst (λ (xs : List Entry). length xs ≤ c.loop-entry.entry-index) e c.loop-entry-test.false)) c.requires.within
