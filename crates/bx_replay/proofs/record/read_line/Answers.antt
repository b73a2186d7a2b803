use Rattle.bx_replay.proofs.FirstLines.{line_read, rest_left}
use Rattle.bx_replay.proofs.record.read_line.Goals as goal

pub returns-in-Ok-clause-line : goal.returns-in-Ok-clause-line
returns-in-Ok-clause-line g c = line_read (g.R.Read.remaining c.args.reader.now) c.new-line.result.items c.read_until.new.buf.items c.new-line.ensures.items c.in-Ok.ensures.bytes

pub returns-in-Ok-clause-left : goal.returns-in-Ok-clause-left
returns-in-Ok-clause-left g c = rest_left (g.R.Read.remaining c.args.reader.now) (g.R.Read.remaining c.read_until.new.self) c.in-Ok.ensures.rest
