use Rattle.json.specs.Print.{escape_byte}
use Rattle.bx_message.proofs.write.write_ack.Goals as goal

pub returns-in-AckTrue : goal.returns-in-AckTrue
unfolding escape_byte
returns-in-AckTrue c = rw c.in-AckTrue.is c.raw.ensures
