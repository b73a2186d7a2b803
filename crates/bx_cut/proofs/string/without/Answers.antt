use Rattle.std.proofs.Common.{sym, ◌∙◌, arith}
use Rattle.std.proofs.lemmas.{Bool.true≢false, Bool.Decides.Decides-eqb, List.take_all, List.length-drop, Slice.Eq.starts_is, Grind.common_steps}
use Rattle.bx_cut.proofs.string.without.Goals as goal

pub returns-then-starts_with : goal.returns-then-starts_with
returns-then-starts_with c = grind (arith, common_steps, take_all, length-drop, starts_is)

pub returns-else-starts_with : goal.returns-else-starts_with
returns-else-starts_with c rest e =
    let found = (starts_is Decides-eqb c.args.text.now c.args.front.now c.starts_with.result c.starts_with.ensures.value).1 rest e in
    true≢false (sym found ∙ c.if-starts_with.false)
