use Rattle.bx_theory.proofs.Nonces.{nonces_unchanged_unless_announced, scripts_say_none}
use Rattle.bx_laws.proofs.laws.nonces_unchanged_unless_announced.Goals as goal

pub returns-clause-lines : goal.returns-clause-lines
returns-clause-lines c = nonces_unchanged_unless_announced

pub returns-clause-scripts : goal.returns-clause-scripts
returns-clause-scripts c = scripts_say_none
