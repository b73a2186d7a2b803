-- The sessions, patterns and connects of new shards, while everything moves into them.
use Rattle.std.specs.Prelude.{ℕ, ◌≡◌, nat_eq, List, [], length, option_map, slice_get, if◌then◌else◌, ◌<◌, ◌&&◌, ◌∷◌, is_some, Option, Some, None}
use Rattle.std.specs.{List.All, Map.lookup, Option.option_or}
use Rattle.bx_names.specs.Globs.{Glob}
use Rattle.bx_advice.specs.declared.config.Config.{Config}
use Rattle.bx_entry.specs.Keeping.{Kept}
use Rattle.bx_session.specs.Views.{WithRoom}
use Rattle.bx_connects.specs.declared.connects.{ConnectState.ConnectState, FiledAnswer.FiledAnswer}
use Rattle.bx_connects.specs.Connects.{AreApart, connect_at, filed_as, filing_at, held_by, known_as}
use Rattle.bx_shard.specs.declared.sessions.Sessions.{Sessions}
use Rattle.bx_shard.specs.Sessions.{patterns_in, kept_in}

-- The connect that shard `k` of `count` reserves for a connect of an old shard. The old connect is
-- given as its session and deadline, if any. The reserved connect is held, without a waker. The
-- result is `None` if the session is placed in another shard.
abbrev pub lent_as : (ℕ → ℕ → ℕ) → ℕ → ℕ → Option (ℕ × Option ℕ) → Option ConnectState
lent_as placing count k None = None
lent_as placing count k (Some known) = if nat_eq (placing known.0 count) k then held_by known.0 known.1 else None

-- Session `n` in a shard, or `None` if the shard does not exist or does not have the session.
abbrev pub kept_there : Option Sessions → ℕ → Option Kept
kept_there None n = None
kept_there (Some s) n = kept_in s n

-- The patterns of session `n` in a shard, or no patterns if the shard does not exist.
abbrev pub patterns_there : Option Sessions → ℕ → List Glob
patterns_there None n = []
patterns_there (Some s) n = patterns_in s n

-- The connect at place `p` in a shard, or `None` if the shard does not exist or has no connect
-- there.
abbrev pub connect_there : Option Sessions → ℕ → Option ConnectState
connect_there None p = None
connect_there (Some s) p = connect_at s.connects p

-- Session `n` in shard `k`, if the shard has it.
abbrev pub kept_of : List Sessions → ℕ → ℕ → Option Kept
kept_of heirs k n = kept_there (slice_get heirs k) n

-- The patterns of session `n` in shard `k`, or no patterns if the shard does not exist.
abbrev pub patterns_at : List Sessions → ℕ → ℕ → List Glob
patterns_at heirs k n = patterns_there (slice_get heirs k) n

-- The connect at place `p` in shard `k`, if the shard has it.
abbrev pub connect_of : List Sessions → ℕ → ℕ → Option ConnectState
connect_of heirs k p = connect_there (slice_get heirs k) p

-- The configuration of shard `k`, if it exists.
abbrev pub config_of : List Sessions → ℕ → Option Config
config_of heirs k = option_map (λ (s : Sessions). s.config) (slice_get heirs k)

-- The shard's sessions `s` are empty, without patterns or connects, and have the configuration
-- `config`.
pub record IsEmptyOf (config : Config) (s : Sessions) : Type 0 where
  pub config_is : s.config ≡ config
  pub sessions : (n : ℕ) → kept_in s n ≡ None
  pub patterns : (n : ℕ) → patterns_in s n ≡ []
  pub connects : (p : ℕ) → connect_at s.connects p ≡ None

-- No shard has patterns for a session that it does not have.
abbrev pub AreAllClean : List Sessions → Type 0
AreAllClean heirs = (k n : ℕ) → kept_of heirs k n ≡ None → patterns_at heirs k n ≡ []

-- The shards `new` have the same connects and configurations as the shards `old`, in order.
pub record SameConnects (old new : List Sessions) : Type 0 where
  pub many : length new ≡ length old
  pub configs : (k : ℕ) → config_of new k ≡ config_of old k
  pub connects : (k p : ℕ) → connect_of new k p ≡ connect_of old k p

-- The shards `new` have the same sessions, patterns and configurations as the shards `old`, in
-- order.
pub record SameSessions (old new : List Sessions) : Type 0 where
  pub many : length new ≡ length old
  pub configs : (k : ℕ) → config_of new k ≡ config_of old k
  pub sessions : (k n : ℕ) → kept_of new k n ≡ kept_of old k n
  pub patterns : (k n : ℕ) → patterns_at new k n ≡ patterns_at old k n

-- ---- All old shards

-- Session `n`, from the first shard that has it.
abbrev pub kept_among : List Sessions → ℕ → Option Kept
kept_among [] n = None
kept_among (s ∷ ss) n = option_or (kept_in s n) (kept_among ss n)

-- The patterns of session `n`, from the first shard that has it.
abbrev pub patterns_among : List Sessions → ℕ → List Glob
patterns_among [] n = []
patterns_among (s ∷ ss) n = if is_some (kept_in s n) then patterns_in s n else patterns_among ss n

-- The connect that new shard `k` of `count` reserves at place `p`, or `None`. It is that of the
-- first old shard with a connect there for a session placed in shard `k`.
abbrev pub lent_among : (ℕ → ℕ → ℕ) → ℕ → ℕ → List Sessions → ℕ → Option ConnectState
lent_among placing count k [] p = None
lent_among placing count k (s ∷ ss) p = option_or (lent_as placing count k (known_as (connect_at s.connects p))) (lent_among placing count k ss p)

-- All sessions, patterns and connects of the old shards `olds` are reserved in the `count` new
-- shards `heirs`, which have the configuration `config`.
pub record AreLent (placing : ℕ → ℕ → ℕ) (count : ℕ) (olds : List Sessions) (config : Config) (heirs : List Sessions) : Type 0 where
  pub many : length heirs ≡ count
  pub configs : (k : ℕ) → k < count → config_of heirs k ≡ Some config
  pub sessions : (k n : ℕ) → is_some (kept_of heirs k n) ≡ (nat_eq (placing n count) k && is_some (kept_among olds n))
  pub patterns : (k n : ℕ) → patterns_at heirs k n ≡ (if nat_eq (placing n count) k then patterns_among olds n else [])
  pub connects : (k p : ℕ) → connect_of heirs k p ≡ lent_among placing count k olds p
  pub apart : All (λ (s : Sessions). AreApart s.connects.held s.connects.filed) olds

-- ---- Moves

-- A reserved session after the moved session, if any, replaced it. The result is `None` if no
-- session was reserved.
abbrev pub overlaid : Option Kept → Option Kept → Option Kept
overlaid None lent = lent
overlaid (Some k) lent = option_map (λ (x : Kept). k) lent

-- Session `n` in shard `k` after the sessions of one old shard have moved.
abbrev pub settled : (ℕ → ℕ → ℕ) → ℕ → ℕ → ℕ → Option Kept → Option Kept → Option Kept
settled placing count k n moved lent = if nat_eq (placing n count) k then overlaid moved lent else lent

-- A connect in shard `k` after its answer from one old shard, if any, has moved.
abbrev pub answered_with : (ℕ → ℕ → ℕ) → ℕ → ℕ → Option FiledAnswer → Option ConnectState → Option ConnectState
answered_with placing count k None lent = lent
answered_with placing count k (Some f) lent = if nat_eq (placing f.session count) k then filed_as f.place f.answer lent else lent

-- Session `n` among `entries` of a map, if it is there.
abbrev pub kept_by : List (ℕ × WithRoom) → ℕ → Option Kept
kept_by entries n = option_map (λ (x : WithRoom). x.kept) (lookup (nat_eq n) entries)

-- Session `n` in shard `k` after the sessions of all old shards have moved.
abbrev pub settled_all : (ℕ → ℕ → ℕ) → ℕ → ℕ → ℕ → List Sessions → Option Kept → Option Kept
settled_all placing count k n [] lent = lent
settled_all placing count k n (s ∷ ss) lent = settled_all placing count k n ss (settled placing count k n (kept_in s n) lent)

-- The connect at `p` in shard `k` after the filed answers of all old shards have moved.
abbrev pub answered_all : (ℕ → ℕ → ℕ) → ℕ → ℕ → ℕ → List Sessions → Option ConnectState → Option ConnectState
answered_all placing count k p [] lent = lent
answered_all placing count k p (s ∷ ss) lent = answered_all placing count k p ss (answered_with placing count k (filing_at s.connects.filed p) lent)

-- `new` is the new shards `old` after all sessions and filed answers of the old shards `olds` have
-- moved into what the new shards reserved.
pub record AreMoved (placing : ℕ → ℕ → ℕ) (count : ℕ) (olds old new : List Sessions) : Type 0 where
  pub many : length new ≡ length old
  pub configs : (k : ℕ) → config_of new k ≡ config_of old k
  pub sessions : (k n : ℕ) → kept_of new k n ≡ settled_all placing count k n olds (kept_of old k n)
  pub patterns : (k n : ℕ) → patterns_at new k n ≡ patterns_at old k n
  pub connects : (k p : ℕ) → connect_of new k p ≡ answered_all placing count k p olds (connect_of old k p)
