-- Each run is computed.
use Rattle.std.specs.Prelude.{refl}
use Rattle.json.specs.Print.{escape_byte}
use Rattle.bx_message.specs.Events.{event_size}
use Rattle.bx_entry.specs.Windows.{bytes_of, has_room}
use Rattle.bx_laws.proofs.worked.acknowledgements.Goals as goal

pub returns-clause-batches_repeat : goal.returns-clause-batches_repeat
unfolding has_room bytes_of event_size escape_byte
returns-clause-batches_repeat c = refl
