use Rattle.bx_session.proofs.NumberLemmas.{entry_forms_at_most_one_batch}
use Rattle.bx_session.proofs.laws.entry_forms_at_most_one_batch.Goals as goal

pub returns : goal.returns
returns c = entry_forms_at_most_one_batch
