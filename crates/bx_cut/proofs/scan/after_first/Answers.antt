use Rattle.std.proofs.Common.{sym, ◌∙◌, arith}
use Rattle.bx_cut.proofs.Reach.{first_boundary}
use Rattle.bx_cut.proofs.scan.after_first.Goals as goal
use Rattle.std.proofs.lemmas.Grind.{common_steps}

pub split_at-requires : goal.split_at-requires
split_at-requires c = first_boundary c.args.byte c.args.text.now c.utf8.text (sym c.begins_with.ensures ∙ c.if-begins_with.true) c.requires

pub returns-then-begins_with-clause-rest : goal.returns-then-begins_with-clause-rest
returns-then-begins_with-clause-rest c = grind (arith, common_steps, first_boundary)
