use Rattle.std.proofs.Common.{◌≡◌, length, map}
use Rattle.bx_shard.specs.declared.sessions.Sessions.{Sessions}
use Rattle.bx_reshard.specs.Heirs.{AreMoved}
use Rattle.std.proofs.Common.{List}
use Rattle.bx_reshard.proofs.moving.move_all.Given as goal

abbrev pub invariant-loop-shard : goal.invariant-loop-shard
invariant-loop-shard g l = record {
  many : length l.heirs.shards.items ≡ l.count;
  along : (last : List Sessions) → AreMoved (g.P.Placing.place_of l.placing) l.count (map (λ s. s.sessions) l.shard-iterator.rest.items) l.heirs.shards.items last
      → AreMoved (g.P.Placing.place_of l.placing) l.count (map (λ s. s.sessions) l.fn.shards.items) l.fn.heirs.shards.items last;
}
