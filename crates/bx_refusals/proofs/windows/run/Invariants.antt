use Rattle.bx_window.specs.Steps.{unnamed}
use Rattle.bx_refusals.proofs.windows.run.Given as goal

abbrev pub ghosts-worked : goal.ghosts-worked
ghosts-worked g a = record { book = a.opened.seen.book; config = unnamed; placing = λ _ _. 0 }
