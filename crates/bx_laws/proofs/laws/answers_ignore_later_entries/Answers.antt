use Rattle.bx_theory.proofs.Lists.{answers_ignore_later_entries}
use Rattle.bx_laws.proofs.laws.answers_ignore_later_entries.Goals as goal

pub returns : goal.returns
returns c = answers_ignore_later_entries
