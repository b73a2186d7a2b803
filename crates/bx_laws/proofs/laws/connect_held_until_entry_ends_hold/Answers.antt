use Rattle.bx_laws.proofs.Holds.{connect_held_until_entry_ends_hold}
use Rattle.bx_laws.proofs.laws.connect_held_until_entry_ends_hold.Goals as goal

pub returns : goal.returns
returns c = connect_held_until_entry_ends_hold
