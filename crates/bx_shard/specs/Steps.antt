-- The sessions and filed answers of a shard after one more entry.
use Rattle.std.specs.Prelude.{ℕ, ◌+◌, ◌<◌, ◌==◌, ◌≡◌, false, List, [], ◌∷◌, ◌++◌, find, filter, map, flat_map, slice_get, Some, if◌then◌else◌}
use Rattle.std.specs.Option.{option_or}
use Rattle.bx_advice.specs.declared.config.Config.{Config}
use Rattle.bx_entry.specs.Words.{Listed, entries, Filed, is_live, unopened, Kept, kept, kept_step, kept_answers}
use Rattle.bx_entry.specs.declared.entry.{Entry.Entry, EntryKind.EntryKind}
use Rattle.bx_entry.specs.declared.entry.EntryKind.TheVariants.{Opened}
use Rattle.bx_entry.specs.Placings.{Setup}
use Rattle.bx_shard.specs.Shards.{is_taken, is_placed_in, shard_at}

-- ---- Sessions

-- The session, not opened yet, that an entry of the given kind opens in the shard. The list is
-- empty if it opens none.
abbrev pub opening_by : Setup → ℕ → EntryKind → List Kept
opening_by setup shard (Opened n ack) = if is_placed_in setup shard n then kept (unopened n) ∷ [] else []
opening_by setup shard _ = []

-- The live sessions of a shard after an entry, which may open a session.
abbrev pub stepped : Setup → ℕ → Entry → List Kept → List Kept
stepped setup shard e ks = filter (λ (k : Kept). is_live k.stage) (map (λ (k : Kept). kept_step setup.config k e) (ks ++ opening_by setup shard e.kind))

-- The live sessions after an entry depend only on those before and on the entry.
abbrev pub ShardsStep : Type 0
ShardsStep = (setup : Setup) (list : List Listed) (taken : List ℕ) (shard n : ℕ) (e : Entry) → 0 < setup.config.limits.batch → slice_get (entries setup.config list) n ≡ Some e →
    (shard_at setup list taken shard (n + 1)).sessions ≡ stepped setup shard e (shard_at setup list taken shard n).sessions

-- ---- Answers

-- The answers that the sessions of a list give when an entry is applied to them.
abbrev pub answers_by : Config → Entry → List Kept → List Filed
answers_by config e ks = flat_map (λ (k : Kept). kept_answers config k e) ks

-- Which answer to a connect is filed after an entry, if it was not taken: the answer that was filed
-- before the entry. If there was none, it is the one that a live session of the shard gives at the
-- entry.
abbrev pub ShardsFile : Type 0
ShardsFile = (setup : Setup) (list : List Listed) (taken : List ℕ) (shard n : ℕ) (e : Entry) (place : ℕ) → 0 < setup.config.limits.batch → slice_get (entries setup.config list) n ≡ Some e → is_taken taken place ≡ false →
    find (λ (f : Filed). f.connect == place) (shard_at setup list taken shard (n + 1)).filed
    ≡ option_or (find (λ (f : Filed). f.connect == place) (shard_at setup list taken shard n).filed)
    (find (λ (f : Filed). f.connect == place) (answers_by setup.config e (shard_at setup list taken shard n).sessions))
