use Rattle.std.proofs.Common.{◌≡◌, ℕ, nat_eq, not, ◌&&◌, ◌||◌, is_some, take, if◌then◌else◌}
use Rattle.std.specs.List.{list_any}
use Rattle.bx_reshard.specs.Heirs.{AreAllClean, SameConnects, patterns_at, kept_of}
use Rattle.bx_shard.specs.Sessions.{patterns_in}
use Rattle.bx_reshard.proofs.lending.lend_sessions.Given as goal

abbrev pub invariant-loop-number : goal.invariant-loop-number
invariant-loop-number g l = record {
  sessions : (k n : ℕ) → is_some (kept_of l.heirs.shards.items k n)
      ≡ ((nat_eq (g.P.Placing.place_of l.placing n l.count) k && list_any (nat_eq n) (take l.number-index l.numbers)) || is_some (kept_of l.initial.heirs.shards.items k n));
  patterns : (k n : ℕ) → patterns_at l.heirs.shards.items k n
      ≡ (if (nat_eq (g.P.Placing.place_of l.placing n l.count) k && list_any (nat_eq n) (take l.number-index l.numbers)) && not (is_some (kept_of l.initial.heirs.shards.items k n))
      then patterns_in l.old n else patterns_at l.initial.heirs.shards.items k n);
  clean : AreAllClean l.heirs.shards.items;
  connects : SameConnects l.initial.heirs.shards.items l.heirs.shards.items;
}
