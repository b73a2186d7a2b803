use Rattle.std.proofs.Common.{◌≡◌, ◌+◌, ◌-◌, ◌/◌, ap, sym, ◌∙◌, arith, length, slice_get, None}
use Rattle.std.specs.Option.{option_copied}
use Rattle.std.proofs.lemmas.List.{length-map}
use Rattle.circular_buffer.proofs.Places.{slice_get-some}
use Rattle.bx_window.specs.Steps.{firsts_of}
use Rattle.bx_window.proofs.Rings.{inside_all, below_it, above_it, behind}
use Rattle.bx_window.proofs.reader.find.Goals as goal

pub loop-low-init : goal.loop-low-init
loop-low-init g c =
    let ring = c.args.ring.now in
    let all : c.len-high.result ≡ length (firsts_of ring.front) =
    c.len-high.ensures.len ∙ (sym (length-map ring.batches.items (λ k. k.first)) ∙ ap length ring.firsts) in (
      omega (arith, c.len-high.ensures.within.0, c.len-high.ensures.within.1),
      omega arith,
      omega (arith, c.len-high.ensures.len),
      λ low high. inside_all ring.front c.len-high.result c.args.place all low high,
    )

pub returns-in_default-clause-found : goal.returns-in_default-clause-found
returns-in_default-clause-found g c low high =
    let middle = c.loop-low.low + (c.loop-low.high - c.loop-low.low) / 2 in
    let items = c.args.ring.now.batches.items in
    let none : slice_get items middle ≡ None = sym c.get.ensures ∙ ap option_copied c.in_default.is in
    let some = slice_get-some items middle (omega (arith, c.loop-low.invariant.2, c.loop-low-test.true)) in
    let both = sym none ∙ some.1 in
    cc

pub loop-low-preserved-then-kept-place : goal.loop-low-preserved-then-kept-place
loop-low-preserved-then-kept-place g c =
    let ring = c.args.ring.now in
    let middle = c.loop-low.low + (c.loop-low.high - c.loop-low.low) / 2 in
    let kept = c.in-Some.kept.now in (
      omega (arith, c.loop-low.invariant.0, c.loop-low-test.true),
      omega arith,
      omega (arith, c.loop-low.invariant.2, c.loop-low-test.true),
      λ low high. ((c.loop-low.invariant.3 low high).0, below_it (λ k. k.first) ring.batches.items ring.front middle c.args.place kept ring.firsts (sym c.in-Some.ensures) c.if-kept-place.true),
    )

pub loop-low-preserved : goal.loop-low-preserved
loop-low-preserved g c =
    let ring = c.args.ring.now in
    let middle = c.loop-low.low + (c.loop-low.high - c.loop-low.low) / 2 in
    let kept = c.in-Some.kept.now in
    let past = behind kept.first kept.end c.args.place (λ has. absurd (cc (c.if-has.ensures.1 has))) (omega (arith, c.if-kept-place.false)) in (
      c.loop-low.invariant.0,
      omega (arith, c.loop-low-test.true),
      c.loop-low.invariant.2,
      λ low high. (above_it (λ k. k.end) ring.batches.items ring.front middle c.args.place kept ring.ends (sym c.in-Some.ensures) past, (c.loop-low.invariant.3 low high).1),
    )
