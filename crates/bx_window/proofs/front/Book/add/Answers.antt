use Rattle.std.proofs.Common.{ap, arith, length, length-append}
use Rattle.bx_window.specs.Steps.{list_of}
use Rattle.bx_window.proofs.Lists.{list_of-adding}
use Rattle.bx_window.proofs.front.Book.add.Goals as goal

pub step-requires-clause-len : goal.step-requires-clause-len
step-requires-clause-len g c =
    let log = c.args.self.now in
    let xs = c.args.elements.now in
    rw (list_of-adding log xs c.args.inputs.now) (omega (arith, length-append (list_of log) xs, c.len.ensures.end, ap (λ l. length (list_of l)) c.front-front.ensures, c.requires.count))
