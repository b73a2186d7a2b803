-- Each run is computed.
use Rattle.std.specs.{Prelude.refl, Fmt.digits}
use Rattle.json.specs.Print.{escape_byte}
use Rattle.bx_laws.proofs.worked.scripts.Goals as goal

pub returns-clause-script_lines : goal.returns-clause-script_lines
returns-clause-script_lines c = refl

pub returns-clause-line_forms : goal.returns-clause-line_forms
returns-clause-line_forms c = refl

pub returns-clause-nonce_forms : goal.returns-clause-nonce_forms
returns-clause-nonce_forms c = refl

pub returns-clause-note_forms : goal.returns-clause-note_forms
returns-clause-note_forms c = refl

pub returns-clause-nonces_wait : goal.returns-clause-nonces_wait
returns-clause-nonces_wait c = refl

pub returns-clause-script_printed : goal.returns-clause-script_printed
unfolding digits escape_byte
returns-clause-script_printed c = refl

pub returns-clause-nonce_printed : goal.returns-clause-nonce_printed
unfolding digits escape_byte
returns-clause-nonce_printed c = refl

pub returns-clause-note_printed : goal.returns-clause-note_printed
unfolding digits escape_byte
returns-clause-note_printed c = refl
