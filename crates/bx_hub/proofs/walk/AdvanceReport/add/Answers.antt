use Rattle.std.proofs.Common.{◌≡◌, ◌≤◌, ap, subst, arith}
use Rattle.std.specs.Prelude.{IfSome}
use Rattle.bx_hub.specs.Faults.{count_of, one_more}
use Rattle.bx_hub.specs.Lagging.{lagging_of}
use Rattle.bx_hub.proofs.Counts.{few_lag, lagging-last, level-last}
use Rattle.bx_hub.proofs.Places.{least_last}
use Rattle.bx_hub.proofs.walk.AdvanceReport.add.Goals as goal

pub with-self-requires : goal.with-self-requires
with-self-requires g c =
    let old = c.args.self.now in
    let same : count_of old.behind ≡ count_of (lagging_of old.stays) = ap count_of old.counted in
    let few = few_lag old.stays in
    omega (arith, same, few, c.requires.few)

pub invariant_of-self-clause-counted : goal.invariant_of-self-clause-counted
invariant_of-self-clause-counted g c =
    let old = c.args.self.now in
    let fault = c.in-Some.fault in
    let was : one_more fault old.behind ≡ one_more fault (lagging_of old.stays) = ap (one_more fault) old.counted in
    let last = lagging-last old.stays fault in
    cc (c.with-self.ensures.which, was, last, c.push.ensures, c.in-Some.is)

pub invariant_of-self-in-None-clause-counted : goal.invariant_of-self-in-None-clause-counted
invariant_of-self-in-None-clause-counted g c =
    let old = c.args.self.now in
    let last = level-last old.stays in
    cc (old.counted, last, c.push.ensures, c.in-None.is)

pub invariant_of-self-clause-least : goal.invariant_of-self-clause-least
invariant_of-self-clause-least g c =
    let old = c.args.self.now in
    let least = subst (λ o. IfSome o (λ s. c.lower.result.place ≤ s.place)) c.take.ensures.value c.lower.ensures.least.1 in
    least_last old.lowest old.places c.push-2.new.self c.place.result c.lower.result.place old.least old.none (omega (arith, c.lower.ensures.least.0, c.place.ensures)) least c.push-2.ensures

pub invariant_of-self-in-None-clause-least : goal.invariant_of-self-in-None-clause-least
invariant_of-self-in-None-clause-least g c =
    let old = c.args.self.now in
    let least = subst (λ o. IfSome o (λ s. c.lower.result.place ≤ s.place)) c.take.ensures.value c.lower.ensures.least.1 in
    least_last old.lowest old.places c.push-2.new.self c.place.result c.lower.result.place old.least old.none (omega (arith, c.lower.ensures.least.0, c.place.ensures)) least c.push-2.ensures
