use Rattle.std.specs.Arc.{arc_value}
use Rattle.bx_threads_tests.proofs.hubs.work_in_hub.Given as goal

abbrev pub ghosts-work_in_window : goal.ghosts-work_in_window
ghosts-work_in_window g a = record { book = a.opened.seen.book; config = a.config; placing = g.P.Placing.place_of (arc_value a.placing) }
