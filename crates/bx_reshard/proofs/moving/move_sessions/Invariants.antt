use Rattle.std.proofs.Common.{◌≡◌, ℕ, length}
use Rattle.bx_reshard.specs.Heirs.{SameConnects, patterns_at, kept_by, kept_of, settled}
use Rattle.bx_reshard.proofs.moving.move_sessions.Given as goal

abbrev pub invariant-loop-number : goal.invariant-loop-number
invariant-loop-number g l = record {
  sessions : (k n : ℕ) → settled (g.P.Placing.place_of l.placing) l.count k n (kept_by l.by_number.entries n) (kept_of l.heirs.shards.items k n)
      ≡ settled (g.P.Placing.place_of l.placing) l.count k n (kept_by l.initial.by_number.entries n) (kept_of l.initial.heirs.shards.items k n);
  patterns : (k n : ℕ) → patterns_at l.heirs.shards.items k n ≡ patterns_at l.initial.heirs.shards.items k n;
  connects : SameConnects l.initial.heirs.shards.items l.heirs.shards.items;
}

abbrev pub decreases-loop-number : goal.decreases-loop-number
decreases-loop-number g l = length l.by_number.entries
