use Rattle.std.proofs.Common.{ap, sym, ◌∙◌}
use Rattle.bx_window.proofs.Adding.{opens_moves}
use Rattle.bx_window.proofs.front.EmptyWindow.begun.Goals as goal

pub compare_exchange-found-requires : goal.compare_exchange-found-requires
compare_exchange-found-requires g c =
    let h = c.args.self.head_is in
    let pen = c.no_pen-none.ensures in
    let offer = c.plain-offer.ensures in (
      ap (λ w. w.tracked) h,
      sym (ap (λ w. w.book) h),
      pen.0 ∙ sym (ap (λ w. w.book) h),
      offer.0,
      rw (ap (λ w. w.key) h, pen.1, offer.3, c.args.self.empty) (opens_moves c.plain-offer.result.ask),
    )
