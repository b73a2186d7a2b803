use Rattle.std.proofs.Common.{◌≡◌, ℕ, take}
use Rattle.std.specs.List.{All}
use Rattle.bx_shard.specs.declared.publish.Parcel.{Parcel}
use Rattle.bx_shard.specs.Words.{IsPacked, numbers_of, kept_in}
use Rattle.bx_shard.proofs.sessions.Sessions.pack.Given as goal

abbrev pub invariant-loop-number : goal.invariant-loop-number
invariant-loop-number l = record {
  sessions : (n : ℕ) → kept_in l.self n ≡ kept_in l.fn.self n;
  numbers : numbers_of l.parcels.items ≡ take l.number-index l.numbers;
  event : All (λ (x : Parcel). x.event ≡ l.fn.event) l.parcels.items;
  packed : All (IsPacked l.self) l.parcels.items;
  others : (l.self.config ≡ l.fn.self.config) × (l.self.tree ≡ l.fn.self.tree) × (l.self.connects ≡ l.fn.self.connects);
}
