use Rattle.std.proofs.Common.{◌≡◌, ◌≤◌, ◌+◌, ◌++◌, length, map, vec_capacity}
use Rattle.std.specs.List.{All}
use Rattle.bx_shard.specs.Sessions.{Fits}
use Rattle.bx_reshard.specs.Making.{AreHandlesOf, AreMadeWith}
use Rattle.bx_reshard.proofs.making.finish.Given as goal

abbrev pub invariant-loop-sessions : goal.invariant-loop-sessions
invariant-loop-sessions g l = record {
  along : map (λ s. s.sessions) l.shards.items ++ l.sessions-iterator.rest.items ≡ l.fn.room.heirs.shards.items;
  many : length l.handles.items ≡ length l.sessions-iterator.rest.items;
  capacity : length l.shards.items + length l.sessions-iterator.rest.items ≤ vec_capacity l.shards;
  fit : All (Fits l.fn.room.place) l.sessions-iterator.rest.items;
  same : (placing : g.row.P.Denot) → AreHandlesOf placing l.fn.room.handles.items → AreHandlesOf placing l.handles.items;
  made : AreMadeWith l.fn.room.handles.items l.count l.fn.room.place l.fn.room.is_closed_to_wakers l.shards.items;
}
