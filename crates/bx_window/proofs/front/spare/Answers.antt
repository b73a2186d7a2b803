use Rattle.std.proofs.Common.{ap, sym, ◌∙◌}
use Rattle.bx_window.proofs.Adding.{spares_moves}
use Rattle.bx_window.proofs.front.spare.Goals as goal

pub compare_exchange-requires : goal.compare_exchange-requires
compare_exchange-requires c =
    let h = c.requires in
    let again = c.again-all.ensures in
    let pen = c.no_pen-pen.ensures in
    let offer = c.plain-offer.ensures in (
      ap (λ w. w.tracked) h,
      ap (λ s. s.book) again ∙ sym (ap (λ w. w.book) h),
      pen.0 ∙ sym (ap (λ w. w.book) h),
      offer.0 ∙ sym (ap (λ s. s.names) again),
      rw (ap (λ w. w.key) h, pen.1, offer.3) (spares_moves c.again-all.result.log c.plain-offer.result.ask),
    )
