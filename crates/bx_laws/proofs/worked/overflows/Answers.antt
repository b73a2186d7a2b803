-- Each run is computed.
use Rattle.std.specs.Prelude.{refl}
use Rattle.json.specs.Print.{escape_byte}
use Rattle.bx_message.specs.Events.{event_size}
use Rattle.bx_entry.specs.Windows.{bytes_of, has_room}
use Rattle.bx_laws.proofs.worked.overflows.Goals as goal

pub returns-clause-overflow_at_1025 : goal.returns-clause-overflow_at_1025
unfolding has_room bytes_of event_size escape_byte
returns-clause-overflow_at_1025 c = refl

pub returns-clause-four_full_batches : goal.returns-clause-four_full_batches
unfolding has_room bytes_of event_size escape_byte
returns-clause-four_full_batches c = refl
