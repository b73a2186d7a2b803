-- Each run is computed.
use Rattle.std.specs.{Prelude.refl, Fmt.digits}
use Rattle.json.specs.Print.{escape_byte}
use Rattle.bx_message.specs.Events.{event_size}
use Rattle.bx_entry.specs.Windows.{bytes_of, has_room}
use Rattle.bx_laws.proofs.worked.response_texts.Goals as goal

pub returns-clause-handshake_text : goal.returns-clause-handshake_text
unfolding digits escape_byte
returns-clause-handshake_text c = refl

pub returns-clause-refused_text : goal.returns-clause-refused_text
unfolding digits escape_byte
returns-clause-refused_text c = refl

pub returns-clause-batch_text : goal.returns-clause-batch_text
unfolding digits escape_byte has_room bytes_of event_size
returns-clause-batch_text c = refl

pub returns-clause-delivery_text : goal.returns-clause-delivery_text
unfolding digits escape_byte has_room bytes_of event_size
returns-clause-delivery_text c = refl

pub returns-clause-callback_example : goal.returns-clause-callback_example
unfolding digits escape_byte
returns-clause-callback_example c = refl

pub returns-clause-empty_callback : goal.returns-clause-empty_callback
unfolding digits escape_byte
returns-clause-empty_callback c = refl

pub returns-clause-gone_text : goal.returns-clause-gone_text
unfolding digits escape_byte
returns-clause-gone_text c = refl

pub returns-clause-superseded_text : goal.returns-clause-superseded_text
unfolding digits escape_byte
returns-clause-superseded_text c = refl

pub returns-clause-overflow_text : goal.returns-clause-overflow_text
unfolding digits escape_byte has_room bytes_of event_size
returns-clause-overflow_text c = refl

pub returns-clause-second_text : goal.returns-clause-second_text
unfolding digits escape_byte
returns-clause-second_text c = refl

pub returns-clause-ended_text : goal.returns-clause-ended_text
unfolding digits escape_byte
returns-clause-ended_text c = refl

pub returns-clause-refusals_text : goal.returns-clause-refusals_text
unfolding digits escape_byte
returns-clause-refusals_text c = refl
