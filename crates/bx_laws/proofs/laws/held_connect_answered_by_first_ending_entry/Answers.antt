use Rattle.bx_laws.proofs.Holds.{held_connect_answered_by_first_ending_entry}
use Rattle.bx_laws.proofs.laws.held_connect_answered_by_first_ending_entry.Goals as goal

pub returns : goal.returns
returns c = held_connect_answered_by_first_ending_entry
