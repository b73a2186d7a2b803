use Rattle.bx_window.specs.Steps.{unnamed}
use Rattle.bx_hub_tests.proofs.window.one_writer.Given as goal

abbrev pub ghosts-ask : goal.ghosts-ask
ghosts-ask g a = record { book = a.opened.seen.book; config = unnamed; placing = λ _ _. 0 }
