use Rattle.std.proofs.Common.{ap, ◌∙◌, length}
use Rattle.bx_window.specs.Steps.{list_of}
use Rattle.bx_window.proofs.Lists.{list_of_trimming}
use Rattle.bx_window.proofs.front.Book.trim.Goals as goal

pub step-requires-clause-len : goal.step-requires-clause-len
step-requires-clause-len g c =
    let log = c.args.self.now in
    rw (c.new.ensures, c.new-2.ensures, list_of_trimming log c.args.count) (c.len-len.ensures.end ∙ ap (λ l. length (list_of l)) c.front.ensures)
