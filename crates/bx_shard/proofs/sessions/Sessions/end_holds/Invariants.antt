use Rattle.std.proofs.Common.{◌≡◌}
use Rattle.bx_connects.specs.Words.{connect_at, count_held, AreWoken}
use Rattle.bx_shard.specs.Sessions.{AreCounted, AreHeld, kept_in}
use Rattle.bx_shard.proofs.Ticking.{AreTicked}
use Rattle.bx_shard.proofs.sessions.Sessions.end_holds.Given as goal

abbrev pub invariant-loop-number : goal.invariant-loop-number
invariant-loop-number l = record {
  ticked : AreTicked l.initial.self.config l.place l.moment (kept_in l.initial.self) (kept_in l.self) (connect_at l.initial.self.connects) (connect_at l.self.connects);
  counted : AreCounted l.initial.self → AreCounted l.self;
  held : AreHeld l.self;
  config : l.self.config ≡ l.initial.self.config;
  woken : AreWoken (connect_at l.initial.self.connects) (connect_at l.self.connects) l.initial.wakers l.wakers;
}

abbrev pub decreases-loop-number : goal.decreases-loop-number
decreases-loop-number l = count_held l.self.connects
