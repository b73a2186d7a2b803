use Rattle.bx_session.proofs.FilingLemmas.{answer_has_place_of_its_entry}
use Rattle.bx_session.proofs.laws.answer_has_place_of_its_entry.Goals as goal

pub returns : goal.returns
returns c = answer_has_place_of_its_entry
