use Rattle.std.proofs.Common.{◌<◌, ◌++◌, List, ap, sym, subst, ◌∙◌, arith, length}
use Rattle.bx_entry.specs.Listing.{Listed}
use Rattle.bx_window.specs.Places.{Continues}
use Rattle.bx_window.specs.Steps.{list_of}
use Rattle.bx_window.proofs.Lists.{list_of-adding}
use Rattle.bx_calls.specs.Ticks.{ticks}
use Rattle.bx_calls.proofs.Ticks.{ticks_add, ticks_length, entries_count, ticks_continue}
use Rattle.bx_calls.proofs.ticker.Ticker.publish_bundle.Goals as goal

pub publish-requires-clause-continues : goal.publish-requires-clause-continues
publish-requires-clause-continues g c =
    let w = c.args.self.now in
    let b = c.args.bundle in
    let some : 0 < c.args.count = omega (arith, c.if-count-eq0.false) in
    subst (λ (l : List Listed). Continues g.L.LogId.config l b) (sym w.ticks) (ticks_continue g.L.LogId.config w.end c.args.count b some c.requires.first c.requires.entries c.requires.elements)

pub publish-requires-clause-places : goal.publish-requires-clause-places
publish-requires-clause-places g c =
    let w = c.args.self.now in
    let here = ap length w.ticks ∙ ticks_length w.end in
    let more = ap length c.requires.entries ∙ entries_count w.end c.args.count in
    omega (arith, here, more, c.if-self-ge-MOST.false, c.if-count-ge-MOST.false)

pub invariant_of-self : goal.invariant_of-self
invariant_of-self g c =
    let w = c.args.self.now in
    let b = c.args.bundle in
    let grown = ap list_of c.in-Ok.ensures.ok ∙ list_of-adding w.writer b.elements b.inputs in
    record { ticks = grown ∙ (ap (λ (l : List Listed). l ++ b.elements) w.ticks ∙ (ap (λ (l : List Listed). ticks w.end ++ l) c.requires.elements ∙ ticks_add w.end c.args.count)) }
