use Rattle.std.proofs.Common.{◌≡◌, ℕ, nat_eq, take, if◌then◌else◌}
use Rattle.std.specs.{List.list_any, Option.option_or}
use Rattle.bx_connects.specs.Connects.{connect_at, known_as}
use Rattle.bx_reshard.specs.Heirs.{SameSessions, connect_of, lent_as}
use Rattle.bx_reshard.proofs.lending.lend_connects.Given as goal

abbrev pub invariant-loop-place : goal.invariant-loop-place
invariant-loop-place g l = record {
  connects : (k p : ℕ) → connect_of l.heirs.shards.items k p
      ≡ (if list_any (nat_eq p) (take l.place-index l.places)
      then option_or (connect_of l.initial.heirs.shards.items k p) (lent_as (g.P.Placing.place_of l.placing) l.count k (known_as (connect_at l.old p)))
      else connect_of l.initial.heirs.shards.items k p);
  sessions : SameSessions l.initial.heirs.shards.items l.heirs.shards.items;
}
