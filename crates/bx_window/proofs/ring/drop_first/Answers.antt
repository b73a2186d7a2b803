use Rattle.std.proofs.Common.{◌∙◌, ap, drop}
use Rattle.std.proofs.lemmas.List.{drop-drop}
use Rattle.bx_window.proofs.ring.drop_first.Goals as goal

pub loop-preserved : goal.loop-preserved
loop-preserved g c =
    let x = c.loop.invariant in
    let y = c.pop_front.ensures.items in
    (ap (λ b. b.items) y ∙ (ap (λ l. drop 1 l) x.0 ∙ drop-drop 1 c.loop.counter c.args.items.now.items), ap (λ b. b.capacity) y ∙ x.1)
