-- Which shard a session is placed in, and what each shard holds after `n` entries of the list.
use Rattle.std.specs.Prelude.{ℕ, ◌==◌, not, Bool, List, take, filter, map, flat_map}
use Rattle.std.specs.List.{list_any}
use Rattle.bx_entry.specs.Placings.{Setup}
use Rattle.bx_entry.specs.Words.{Listed, Registered, registry, entries_of, Session, Filed, session, is_live, Kept, kept}

-- Whether session `number` is placed in the shard.
abbrev pub is_placed_in : Setup → ℕ → ℕ → Bool
is_placed_in setup shard number = setup.placing number setup.shards == shard

-- ---- Contents of a shard

-- What a shard must contain after `place` entries: its live sessions in order of number, and its
-- filed answers that are not taken yet.
pub record Shard : Type 0 where
  pub place : ℕ
  pub sessions : List Kept
  pub filed : List Filed

-- Whether the answer to the connect at `place` was taken or dropped.
abbrev pub is_taken : List ℕ → ℕ → Bool
is_taken taken place = list_any (λ t. t == place) taken

-- The sessions of the shard, live or closed, that the first `n` entries opened.
abbrev pub sessions_in : Setup → List Listed → ℕ → ℕ → List Session
sessions_in setup list shard n =
    let r = registry setup.config (take n list) in
    map (λ (s : Registered). session setup.config s.number (entries_of r)) (filter (λ (s : Registered). is_placed_in setup shard s.number) r.sessions)

-- The live sessions in a list of sessions.
abbrev pub live_among : List Session → List Session
live_among ss = filter (λ (s : Session). is_live s.stage) ss

-- The answers that the sessions gave, except those to the connects at the places in `taken`.
abbrev pub filed_among : List ℕ → List Session → List Filed
filed_among taken ss = filter (λ (f : Filed). not (is_taken taken f.connect)) (flat_map (λ (s : Session). s.answers) ss)

-- The shard after the first `n` entries, without the answers to the connects at the places in
-- `taken`.
abbrev pub shard_at : Setup → List Listed → List ℕ → ℕ → ℕ → Shard
shard_at setup list taken shard n =
    let ss = sessions_in setup list shard n in
    record { place = n; sessions = map kept (live_among ss); filed = filed_among taken ss }
