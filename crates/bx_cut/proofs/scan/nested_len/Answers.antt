use Rattle.std.proofs.Common.{◌≡◌, ℕ, ◌+◌, ◌-◌, ◌≤◌, false, List, length, take, drop, ap, ◌∙◌, subst, arith}
use Rattle.std.proofs.lemmas.{List.take_all, List.length-drop, List.drop-drop, Grind.common_steps}
use Rattle.json.specs.{Lex.in_string, Align.span}
use Rattle.bx_cut.proofs.Reach.{nest-outside, nest-string}
use Rattle.bx_cut.proofs.scan.nested_len.Goals as goal

pub loop-at-preserved-in-34 : goal.loop-at-preserved-in-34
loop-at-preserved-in-34 c =
    let d = c.args.text.now in
    let next = c.loop-at.at + 1 in
    let rest = drop next d in
    let whole : take (length d - next) rest ≡ rest = take_all (length d - next) rest (omega (arith, length-drop next d)) in
    let len : c.string_len-at.result ≡ span in_string rest = c.string_len-at.ensures.value ∙ ap (span in_string) whole in
    let bound : c.string_len-at.result ≤ length rest = subst (λ (l : List ℕ). c.string_len-at.result ≤ length l) whole c.string_len-at.ensures.bound in
    let inside = nest-string false c.loop-at.open rest in
    let joined = drop-drop c.string_len-at.result next d in
    (grind (arith, common_steps, nest-outside d c.loop-at.at c.loop-at.open (omega arith), len, inside, joined), omega (arith, length-drop next d), omega arith)
