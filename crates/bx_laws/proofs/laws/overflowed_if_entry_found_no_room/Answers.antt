use Rattle.bx_theory.proofs.Keeps.{overflowed_if_entry_found_no_room}
use Rattle.bx_laws.proofs.laws.overflowed_if_entry_found_no_room.Goals as goal

pub returns : goal.returns
returns c = overflowed_if_entry_found_no_room
