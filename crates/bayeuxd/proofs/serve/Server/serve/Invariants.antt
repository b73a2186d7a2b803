use Rattle.bx_entry.specs.Placings.{by_remainder}
use Rattle.bayeuxd.proofs.serve.Server.serve.Given as goal

abbrev pub ghosts-run : goal.ghosts-run
ghosts-run g a = record { book = a.opened.seen.book; config = a.self.arguments.config; placing = by_remainder }
