use Rattle.std.proofs.Common.{◌≡◌, ◌==◌, ℕ, None, take, if◌then◌else◌}
use Rattle.std.specs.List.{list_any}
use Rattle.bx_connects.specs.Words.{connect_at, AreWoken}
use Rattle.bx_shard.specs.Words.{AreCounted, AreHeld, kept_in, dropped_by}
use Rattle.bx_shard.proofs.sessions.Sessions.close_all.Given as goal

abbrev pub invariant-loop-number : goal.invariant-loop-number
invariant-loop-number l = record {
  sessions : (n : ℕ) → kept_in l.self n ≡ (if list_any (λ m. m == n) (take l.number-index l.numbers) then None else kept_in l.initial.self n);
  connects : (p : ℕ) → connect_at l.self.connects p ≡ dropped_by (take l.number-index l.numbers) (connect_at l.initial.self.connects p);
  counted : AreCounted l.initial.self → AreCounted l.self;
  held : AreHeld l.self;
  config : l.self.config ≡ l.initial.self.config;
  woken : AreWoken (connect_at l.initial.self.connects) (connect_at l.self.connects) l.initial.wakers l.wakers;
}
