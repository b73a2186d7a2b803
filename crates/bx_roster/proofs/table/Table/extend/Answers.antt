use Rattle.bx_roster.proofs.Dues.{filed-extended}
use Rattle.bx_roster.proofs.table.Table.extend.Goals as goal
use Rattle.std.proofs.lemmas.Grind.{common_steps}
use Rattle.std.proofs.Common.{arith}

pub invariant_of-self : goal.invariant_of-self
invariant_of-self c = grind (arith, common_steps, filed-extended)
