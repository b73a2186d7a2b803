use Rattle.std.proofs.Common.{◌≡◌, ◌-◌, ◌<◌, cond, sym, ap, ◌∙◌, ◌++◌, take, min, length, arith, lit<, vec_len}
use Rattle.bx_script.specs.Kept.{is_lone_zero, without_zeros}
use Rattle.bx_script.specs.declared.kept.TheConstants.{KEPT_LIMIT}
use Rattle.bx_script.proofs.Keeping.{keeps_part, when_ok}
use Rattle.bx_script.proofs.kept.keep_on.Goals as goal

pub returns : goal.returns
returns c =
    let kept = c.args.kept.now.items in
    let part = c.args.part.now in
    let significant = c.significant_part-part.result.now in
    let chosen : significant ≡ cond (is_lone_zero kept) (without_zeros part) part =
    c.significant_part-part.ensures ∙ ap (λ k. cond (is_lone_zero k) (without_zeros part) part) c.as_slice.ensures.value in
    let long : vec_len c.args.kept.now ≡ length kept = sym c.as_slice.ensures.len ∙ ap length c.as_slice.ensures.value in
    let some : 0 < length kept = omega arith in
    let room : c.min-room.result ≡ min (KEPT_LIMIT - length kept) (length significant) =
    c.min-room.ensures ∙ ap (λ n. min n (length significant)) (c.saturating_sub.ensures ∙ ap (λ n. KEPT_LIMIT - n) (c.len.ensures ∙ long)) in
    when_ok _ _ _ _ _ c.extend_from_slice.ensures.items
    (ap (λ n. kept ++ take n significant) room ∙ sym (keeps_part KEPT_LIMIT kept part significant (lit< tt) some chosen))
