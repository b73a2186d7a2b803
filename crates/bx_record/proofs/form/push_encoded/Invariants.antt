use Rattle.std.proofs.Common.{◌≡◌, ◌++◌}
use Rattle.form_urlencoded.specs.{Form.byte_serialize, Serialize.serialized_text}
use Rattle.bx_record.proofs.form.push_encoded.Given as goal

abbrev pub invariant-loop-piece : goal.invariant-loop-piece
invariant-loop-piece l = l.text.items ++ serialized_text l.piece-iterator ≡ l.fn.text.items ++ byte_serialize l.fn.bytes
