use Rattle.std.proofs.Common.{◌≡◌, ap, false}
use Rattle.bx_fanout.specs.Stages.{is_collecting}
use Rattle.bx_fanout.proofs.Standing.{consistent-over}
use Rattle.bx_fanout.proofs.pass_over.catch_up.Goals as goal

pub returns-clause-consistent : goal.returns-clause-consistent
returns-clause-consistent g c = let e = c.level.ensures in consistent-over c.args.state.now c.level.new.world e.setup e.list e.taken (λ some. let idle = c.requires.calm.idle in let none : is_collecting c.args.state.now.stage ≡ false = ap is_collecting idle in cc) c.requires.consistent
