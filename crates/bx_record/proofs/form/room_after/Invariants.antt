use Rattle.std.proofs.Common.{◌≡◌, ◌+◌, length, take}
use Rattle.form_urlencoded.specs.Form.{byte_serialize}
use Rattle.bx_record.proofs.form.room_after.Given as goal

abbrev pub invariant-loop-byte : goal.invariant-loop-byte
invariant-loop-byte l = l.left + (9 + length (byte_serialize (take l.byte-index l.document))) ≡ l.fn.room
