use Rattle.std.proofs.Common.{take}
use Rattle.bx_world.specs.Seen.{Ran}
use Rattle.bx_world.proofs.world.World.run_schedule.Given as goal

abbrev pub invariant-loop-index : goal.invariant-loop-index
invariant-loop-index g l = Ran l.initial.self (take l.index l.steps) l.initial.outs.items l.outs.items l.self
