use Rattle.std.proofs.Common.{◌+◌, List, ap, sym, subst, ◌∙◌, arith}
use mathlib.Core.List.{IsPrefix}
use Rattle.bx_window.specs.declared.law.LoggedStep.{LoggedStep}
use Rattle.bx_window.specs.Rules.{IsBegun}
use Rattle.bx_window.proofs.Adding.{whole_moves}
use Rattle.bx_window.proofs.front.Book.beyond.Goals as goal

pub compare_exchange-requires : goal.compare_exchange-requires
compare_exchange-requires g c =
    let inv = c.self.invariant in
    let h = inv.5 in
    let again = c.again-both.ensures in
    let offer = c.plain-offer.ensures in
    let log : List LoggedStep = c.self.inside.seen.log in
    let both : List LoggedStep = c.learn.new.self.log in
    let begun : IsBegun log = omega (arith, inv.0) in
    let more : IsPrefix log both = subst (λ (l : List LoggedStep). IsPrefix l both) (ap (λ s. s.log) again) c.learn.ensures.2 in (
      ap (λ w. w.tracked) h,
      c.learn.ensures.0 ∙ (ap (λ s. s.book) again ∙ (inv.3 ∙ sym (ap (λ w. w.book) h))),
      inv.6 ∙ sym (ap (λ w. w.book) h),
      offer.0,
      rw (ap (λ w. w.key) h, offer.3) (whole_moves log both c.self.inside.pen.nib c.plain-offer.result.ask (c.self.inside.steps + 1) begun more (sym inv.0) inv.7 inv.8),
    )
