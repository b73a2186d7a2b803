use Rattle.std.proofs.Common.{sym, ◌∙◌, arith}
use Rattle.bx_roster.proofs.Kept.{none-open}
use Rattle.bx_roster.proofs.table.Table.prepare.Goals as goal

pub returns-else-opens_one-clause-room : goal.returns-else-opens_one-clause-room
returns-else-opens_one-clause-room c = λ few. omega (arith, none-open c.args.edits.now (sym c.opens_one.ensures ∙ c.if-opens_one.false))
