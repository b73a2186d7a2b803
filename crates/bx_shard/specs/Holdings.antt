-- Facts about the sessions of a shard.
use Rattle.std.specs.Prelude.{ℕ, ◌<◌, ◌≤◌, ◌≡◌, Bool, List, map, slice_get, Some}
use Rattle.std.specs.{List.All, List.Sorted.IsStrictlyIncreasing}
use Rattle.bx_entry.specs.Words.{Listed, entries, Live, Kept}
use Rattle.bx_entry.specs.declared.entry.Entry.{Entry}
use Rattle.bx_entry.specs.declared.entry.EntryKind.TheVariants.{Opened}
use Rattle.bx_entry.specs.Placings.{Setup}
use Rattle.bx_shard.specs.Shards.{shard_at}

-- Session `k` is live and has formed at most `place` batches.
pub record IsReached (place : ℕ) (k : Kept) : Type 0 where
  pub live : k.stage ≡ Live
  pub numbers : k.num ≤ place

-- After `n` entries, each session of a shard is live and has formed at most `n` batches.
abbrev pub SessionsReached : Type 0
SessionsReached = (setup : Setup) (list : List Listed) (taken : List ℕ) (shard n : ℕ) → All (IsReached n) (shard_at setup list taken shard n).sessions

-- The sessions of a shard are in strictly ascending order of their numbers.
abbrev pub NumbersAscend : Type 0
NumbersAscend = (setup : Setup) (list : List Listed) (taken : List ℕ) (shard n : ℕ) → IsStrictlyIncreasing (map (λ (k : Kept). k.number) (shard_at setup list taken shard n).sessions)

-- When an entry opens a session, its number is higher than those of all sessions in any shard.
abbrev pub OpenedIsFresh : Type 0
OpenedIsFresh = (setup : Setup) (list : List Listed) (taken : List ℕ) (shard m number : ℕ) (ack : Bool) (e : Entry) → slice_get (entries setup.config list) m ≡ Some e → e.kind ≡ Opened number ack →
    All (λ (k : Kept). k.number < number) (shard_at setup list taken shard m).sessions
