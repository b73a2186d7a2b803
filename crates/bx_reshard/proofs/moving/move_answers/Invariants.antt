use Rattle.std.proofs.Common.{◌≡◌, ℕ, length}
use Rattle.bx_connects.specs.Connects.{filing_at}
use Rattle.bx_reshard.specs.Heirs.{SameSessions, answered_with, connect_of}
use Rattle.bx_reshard.proofs.moving.move_answers.Given as goal

abbrev pub invariant-loop-connect : goal.invariant-loop-connect
invariant-loop-connect g l = record {
  connects : (k p : ℕ) → answered_with (g.P.Placing.place_of l.placing) l.count k (filing_at l.connects.filed p) (connect_of l.heirs.shards.items k p)
      ≡ answered_with (g.P.Placing.place_of l.placing) l.count k (filing_at l.initial.connects.filed p) (connect_of l.initial.heirs.shards.items k p);
  sessions : SameSessions l.initial.heirs.shards.items l.heirs.shards.items;
}

abbrev pub decreases-loop-connect : goal.decreases-loop-connect
decreases-loop-connect g l = length l.connects.filed
