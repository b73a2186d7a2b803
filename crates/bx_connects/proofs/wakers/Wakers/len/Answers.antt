use Rattle.std.proofs.Common.{◌≡◌, List, length, ap, arith}
use Rattle.futures.specs.declared.task.waker.Waker.{Waker}
use Rattle.bx_connects.proofs.WakingLemmas.{no_more}
use Rattle.bx_connects.proofs.wakers.Wakers.len.Goals as goal

pub returns : goal.returns
returns c =
    let fewer = no_more c.self.inside.given c.self.inside.at_once c.self.inside.list.items c.self.invariant in
    let same : length c.self.inside.given ≡ length c.args.self.now = ap (λ (xs : List Waker). length xs) c.self.view_is in
    omega (arith, fewer, c.len.ensures, same, c.self.inside.list.ok.0)
