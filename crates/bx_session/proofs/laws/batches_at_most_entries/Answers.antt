use Rattle.bx_session.proofs.NumberLemmas.{batches_at_most_entries}
use Rattle.bx_session.proofs.laws.batches_at_most_entries.Goals as goal

pub returns : goal.returns
returns c = batches_at_most_entries
