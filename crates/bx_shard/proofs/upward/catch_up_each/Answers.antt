use Rattle.bx_shard.proofs.Parts.{went_all, went_further}
use Rattle.bx_shard.proofs.upward.catch_up_each.Goals as goal

pub loop-shard-preserved : goal.loop-shard-preserved
loop-shard-preserved g c = went_further g.P.Placing.place_of c.args.entries.now c.loop-shard.shard-index c.args.shards.now c.loop-shard.shard-items c.shard-item.result c.catch_up.new.shard
    c.loop-shard.invariant c.loop-shard.auto.shard-items c.loop-shard-test.true c.catch_up.ensures.went_on

pub returns : goal.returns
returns g c = record { brought = went_all g.P.Placing.place_of c.args.entries.now c.loop-shard.shard-index c.args.shards.now c.loop-shard.shard-items c.loop-shard.invariant c.loop-shard.auto.shard-items c.loop-shard-test.false }
