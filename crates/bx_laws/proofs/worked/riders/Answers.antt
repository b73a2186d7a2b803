-- Each run is computed.
use Rattle.std.specs.Prelude.{refl}
use Rattle.json.specs.Print.{escape_byte}
use Rattle.bx_message.specs.Events.{event_size}
use Rattle.bx_entry.specs.Windows.{bytes_of, has_room}
use Rattle.bx_laws.proofs.worked.riders.Goals as goal

pub returns-clause-events_ride : goal.returns-clause-events_ride
unfolding has_room bytes_of event_size escape_byte
returns-clause-events_ride c = refl
