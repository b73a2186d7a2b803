-- The sessions of a shard by number, and its connects by place.
use Rattle.std.specs.Prelude.{ℕ, ◌≡◌, ◌<◌, ◌≤◌, nat_eq, true, List, [], if◌then◌else◌, Option, Some, None, option_map, IfSome, Bool, nat_le}
use Rattle.std.specs.Map.{lookup}
use Rattle.bx_names.specs.Globs.{Glob}
use Rattle.bx_tree.specs.Patterns.{patterns_of}
use Rattle.bx_entry.specs.Words.{Kept, Live, Pending}
use Rattle.bx_session.specs.Views.{Countable, WithRoom, deadline_of}
use Rattle.bx_connects.specs.declared.connects.ConnectState.{ConnectState}
use Rattle.bx_connects.specs.declared.connects.ConnectState.TheVariants.{Held, Filed}
use Rattle.bx_connects.specs.Connects.{connect_at}
use Rattle.bx_shard.specs.declared.sessions.Sessions.{Sessions}

-- Session `n`, if it is in the shard.
abbrev pub kept_in : Sessions → ℕ → Option Kept
kept_in s n = option_map (λ (x : WithRoom). x.kept) (lookup (nat_eq n) s.by_number.entries)

-- The patterns of session `n` in the shard's tree of patterns.
abbrev pub patterns_in : Sessions → ℕ → List Glob
patterns_in s n = patterns_of s.tree n

-- Session `n`, if it is in the shard, can queue one more event without allocating.
abbrev pub HasRoom : Sessions → ℕ → Type 0
HasRoom s n = IfSome (lookup (nat_eq n) s.by_number.entries) (λ (x : WithRoom). 0 < x.spare)

-- Each session can count another batch.
abbrev pub AreCountable : Sessions → Type 0
AreCountable s = (n : ℕ) → IfSome (kept_in s n) Countable

-- ---- Invariants

-- Session `k` is live, and `n` is its number. `patterns` is its patterns, and is empty if the
-- session has overflowed.
pub record IsOwn (n : ℕ) (k : Kept) (patterns : List Glob) : Type 0 where
  pub number : k.number ≡ n
  pub live : k.stage ≡ Live
  pub patterns_are : k.patterns ≡ patterns
  pub emptied : k.overflow ≡ true → patterns ≡ []

-- The shard's session `n` is live and has exactly the given patterns. If the session is not in the
-- shard, there are no patterns.
abbrev pub IsCounted : ℕ → Option Kept → List Glob → Type 0
IsCounted n None patterns = patterns ≡ []
IsCounted n (Some k) patterns = IsOwn n k patterns

-- `Some` with the deadline of a connect if session `n` holds it, and otherwise `None`. The deadline
-- itself is `None` if no tick can be that late.
abbrev pub held_until : Option ConnectState → ℕ → Option (Option ℕ)
held_until None n = None
held_until (Some (Held m deadline waker)) n = if nat_eq m n then Some deadline else None
held_until (Some (Filed session place answer)) n = None

-- `Some` with the deadline of a held connect if its place is `place`, and otherwise `None`. The
-- deadline itself is `None` if no tick can be that late.
abbrev pub ends_for : Option Pending → ℕ → Option (Option ℕ)
ends_for None place = None
ends_for (Some p) place = if nat_eq p.place place then Some (deadline_of p) else None

-- `Some` with the deadline of the connect at `place` if a session holds it, and otherwise `None`.
-- The deadline itself is `None` if no tick can be that late.
abbrev pub holds_until : Option Kept → ℕ → Option (Option ℕ)
holds_until None place = None
holds_until (Some k) place = ends_for k.held place

-- The shard's tree of patterns has no patterns for a session that is not in the shard.
abbrev pub AreClean : Sessions → Type 0
AreClean s = (n : ℕ) → kept_in s n ≡ None → patterns_in s n ≡ []

-- Each session in the shard is live, and the shard's tree of patterns has exactly the patterns of
-- the sessions.
abbrev pub AreCounted : Sessions → Type 0
AreCounted s = (n : ℕ) → IsCounted n (kept_in s n) (patterns_in s n)

-- A connect is held if and only if its session holds it, and both have the same deadline.
abbrev pub AreHeld : Sessions → Type 0
AreHeld s = (place n : ℕ) → held_until (connect_at s.connects place) n ≡ holds_until (kept_in s n) place

-- Each of the shard's sessions `s` is live, and the tree of patterns has exactly their patterns. A
-- connect is held if and only if its session holds it.
pub record AreTied (s : Sessions) : Type 0 where
  pub patterns : AreCounted s
  pub holds : AreHeld s

-- Whether a session has formed at most `count` batches; `true` if there is no session.
abbrev pub has_formed_at_most : ℕ → Option Kept → Bool
has_formed_at_most count None = true
has_formed_at_most count (Some k) = nat_le k.num count

-- The sessions `s` fit a shard that has applied `place` entries. The tree of patterns and the held
-- connects agree with the sessions. No session has formed more than `place` batches. At `place` and
-- later, no connect is held and no answer is filed.
pub record Fits (place : ℕ) (s : Sessions) : Type 0 where
  pub counted : AreCounted s
  pub held : AreHeld s
  pub batches : (n : ℕ) → has_formed_at_most place (kept_in s n) ≡ true
  pub fresh : (p : ℕ) → place ≤ p → connect_at s.connects p ≡ None
