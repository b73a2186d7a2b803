use Rattle.bx_entry.specs.Placings.{by_remainder}
use Rattle.bx_bench.proofs.hubs.work_in_hub.Given as goal

abbrev pub ghosts-work_in_window : goal.ghosts-work_in_window
ghosts-work_in_window g a = record { book = a.opened.seen.book; config = a.config; placing = by_remainder }
