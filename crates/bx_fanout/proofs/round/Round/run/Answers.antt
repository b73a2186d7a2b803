use Rattle.bx_fanout.proofs.Running.{run-is}
use Rattle.bx_fanout.proofs.round.Round.run.Goals as goal

pub returns-clause-run : goal.returns-clause-run
returns-clause-run g c =
    let new = c.run.new.state in
    run-is c.args.self.now.state new c.args.inputs.now c.args.outs.now.items c.run.new.outs.items c.run.result new.world.registry.config.limits.some_batch c.run.ensures.consistent c.run.ensures.runs
