use Rattle.json.specs.Print.{escape_byte}
use Rattle.bx_message.proofs.write.write_handshake.Goals as goal

pub returns-in_ok-raw-in-Handshake : goal.returns-in_ok-raw-in-Handshake
unfolding escape_byte
returns-in_ok-raw-in-Handshake c =
    rw c.in-Handshake.is (rw c.in_ok-raw-in-Handshake.ensures at c.word.ensures)
