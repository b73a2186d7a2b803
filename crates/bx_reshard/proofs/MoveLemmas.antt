-- Reserving and moving, one session and one connect at a time.
use Rattle.std.proofs.Common.{◌≡◌, ◌&&◌, ◌||◌, not, ℕ, zero, suc, ◌<◌, nat_eq, length, slice_get, arith, Bool, true, false, cond, is_some, Option, Some, None, option_map, List, [], ◌∷◌, ◌++◌, refl, sym, ap, ◌∙◌, eqb-true}
use Rattle.std.proofs.lemmas.List.Elements.{All-nil, All-push}
use Rattle.std.specs.{List.All, Map.lookup, Option.option_or}
use Rattle.bx_history.proofs.{Elements.or_none, Tests.eqb_sym}
use Rattle.bx_names.specs.Globs.{Glob}
use Rattle.bx_advice.specs.declared.config.Config.{Config}
use Rattle.bx_entry.specs.Keeping.{Kept}
use Rattle.bx_session.specs.Views.{WithRoom}
use Rattle.bx_connects.specs.declared.{connects.ConnectState.ConnectState, connects.FiledAnswer.FiledAnswer, held.HeldConnect.HeldConnect}
use Rattle.bx_connects.specs.Connects.{AreApart, connect_at, filed_as, filing_at, known_as, state_by}
use Rattle.bx_shard.specs.declared.sessions.Sessions.{Sessions}
use Rattle.bx_reshard.specs.Heirs.{AreAllClean, AreLent, AreMoved, IsEmptyOf, SameConnects, SameSessions, answered_all, answered_with, config_of, connect_of, connect_there, lent_among, lent_as, overlaid, patterns_among, patterns_at, patterns_there, kept_among, kept_by, kept_of, kept_there, settled, settled_all}
use Rattle.bx_shard.specs.Sessions.{patterns_in, kept_in}

-- ---- entries

pub lookup_more : {X : Type 0} (n number : ℕ) (x : X) (es : List (ℕ × X)) → lookup (nat_eq n) (es ++ (number, x) ∷ []) ≡ option_or (lookup (nat_eq n) es) (cond (nat_eq number n) (Some x) None)
lookup_more n number x [] = ap (λ b. cond b (Some x) None) (eqb_sym n number)
lookup_more n number x (e ∷ es) = grind (arith, lookup_more n number x es)

-- ---- sessions

kept_moved : (q p s : Bool) (e : Option WithRoom) (x : WithRoom) (lent : Option Kept) → (s ≡ true → p ≡ q) →
    cond q (overlaid (option_map (λ (y : WithRoom). y.kept) e) (cond (p && s) (option_map (λ (y : Kept). x.kept) lent) lent)) (cond (p && s) (option_map (λ (y : Kept). x.kept) lent) lent)
    ≡ cond q (overlaid (option_map (λ (y : WithRoom). y.kept) (option_or e (cond s (Some x) None))) lent) lent
kept_moved q p s e x lent k = grind arith

pub session_moved : (placing : ℕ → ℕ → ℕ) (count k n : ℕ) (es : List (ℕ × WithRoom)) (number slot : ℕ) (x : WithRoom) (lent after : Option Kept) → slot ≡ placing number count →
    after ≡ cond (nat_eq slot k && nat_eq number n) (option_map (λ (y : Kept). x.kept) lent) lent →
    settled placing count k n (kept_by es n) after ≡ settled placing count k n (kept_by (es ++ (number, x) ∷ []) n) lent
session_moved placing count k n es number slot x lent after at moved =
    ap (settled placing count k n (kept_by es n)) moved
    ∙ kept_moved (nat_eq (placing n count) k) (nat_eq slot k) (nat_eq number n) (lookup (nat_eq n) es) x lent
    (λ same. ap (λ (s : ℕ). nat_eq s k) (at ∙ ap (λ (m : ℕ). placing m count) (eqb-true number n same)))
    ∙ ap (λ o. settled placing count k n (option_map (λ (y : WithRoom). y.kept) o) lent) (sym (lookup_more n number x es))

-- ---- answers

answer_moved : (placing : ℕ → ℕ → ℕ) (count k : ℕ) (p s : Bool) (e : Option FiledAnswer) (f : FiledAnswer) (lent : Option ConnectState) → p ≡ nat_eq (placing f.session count) k → (s ≡ true → e ≡ None) →
    answered_with placing count k e (cond (p && s) (filed_as f.place f.answer lent) lent) ≡ answered_with placing count k (option_or e (cond s (Some f) None)) lent
answer_moved placing count k p s e f lent at once = grind arith

pub filing_moved : (placing : ℕ → ℕ → ℕ) (count k p : ℕ) (es : List (ℕ × FiledAnswer)) (connect slot : ℕ) (f : FiledAnswer) (lent after : Option ConnectState) → slot ≡ placing f.session count →
    lookup (nat_eq connect) es ≡ None → after ≡ cond (nat_eq slot k && nat_eq connect p) (filed_as f.place f.answer lent) lent →
    answered_with placing count k (lookup (nat_eq p) es) after ≡ answered_with placing count k (lookup (nat_eq p) (es ++ (connect, f) ∷ [])) lent
filing_moved placing count k p es connect slot f lent after at once moved =
    ap (answered_with placing count k (lookup (nat_eq p) es)) moved
    ∙ answer_moved placing count k (nat_eq slot k) (nat_eq connect p) (lookup (nat_eq p) es) f lent (ap (λ (s : ℕ). nat_eq s k) at)
    (λ same. ap (λ (q : ℕ). lookup (nat_eq q) es) (sym (eqb-true connect p same)) ∙ once)
    ∙ ap (λ o. answered_with placing count k o lent) (sym (lookup_more p connect f es))

-- ---- room

pub some_mapped : (o : Option WithRoom) → is_some o ≡ is_some (option_map (λ (x : WithRoom). x.kept) o)
some_mapped o = grind arith

pub unknown : (h : Option HeldConnect) (f : Option FiledAnswer) → (is_some h || is_some f) ≡ false → state_by h f ≡ None
unknown h f e = grind arith

pub lent_at_both : (a b : Bool) (c l : Option ConnectState) → ((a || b) ≡ false → l ≡ None) → cond b (option_or (cond a (option_or c l) c) l) (cond a (option_or c l) c) ≡ option_or c l
lent_at_both a b c l h = grind arith

-- ---- shard after shard

pub moved_none : (placing : ℕ → ℕ → ℕ) (count : ℕ) (heirs : List Sessions) → AreMoved placing count [] heirs heirs
moved_none placing count heirs = record {
  many = refl;
  configs = λ k. refl;
  sessions = λ k n. refl;
  patterns = λ k n. refl;
  connects = λ k p. refl;
}

pub moved_more : (placing : ℕ → ℕ → ℕ) (count : ℕ) (s : Sessions) (ss old middle between last : List Sessions) →
    ((k n : ℕ) → kept_of middle k n ≡ settled placing count k n (kept_by s.by_number.entries n) (kept_of old k n)) →
    ((k n : ℕ) → patterns_at middle k n ≡ patterns_at old k n) → SameConnects old middle →
    ((k p : ℕ) → connect_of between k p ≡ answered_with placing count k (filing_at s.connects.filed p) (connect_of middle k p)) → SameSessions middle between →
    AreMoved placing count ss between last → AreMoved placing count (s ∷ ss) old last
moved_more placing count s ss old middle between last sessions patterns connects answers same rest = record {
  many = rest.many ∙ same.many ∙ connects.many;
  configs = λ k. rest.configs k ∙ same.configs k ∙ connects.configs k;
  sessions = λ k n. rest.sessions k n ∙ ap (settled_all placing count k n ss) (same.sessions k n ∙ sessions k n);
  patterns = λ k n. rest.patterns k n ∙ same.patterns k n ∙ patterns k n;
  connects = λ k p. rest.connects k p
      ∙ ap (answered_all placing count k p ss) (answers k p ∙ ap (answered_with placing count k (filing_at s.connects.filed p)) (connects.connects k p));
}

-- ---- room for shard after shard

kept_more : (ss : List Sessions) (s : Sessions) (n : ℕ) → kept_among (ss ++ s ∷ []) n ≡ option_or (kept_among ss n) (kept_in s n)
kept_more [] s n = or_none (kept_in s n)
kept_more (t ∷ ss) s n = grind (arith, kept_more ss s n)

patterns_more : (ss : List Sessions) (s : Sessions) (n : ℕ) →
    patterns_among (ss ++ s ∷ []) n ≡ cond (is_some (kept_among ss n)) (patterns_among ss n) (cond (is_some (kept_in s n)) (patterns_in s n) [])
patterns_more [] s n = refl
patterns_more (t ∷ ss) s n = grind (arith, patterns_more ss s n)

patterns_none : (ss : List Sessions) (n : ℕ) → is_some (kept_among ss n) ≡ false → patterns_among ss n ≡ []
patterns_none [] n h = refl
patterns_none (t ∷ ss) n h = grind (arith, patterns_none ss n)

connect_more : (placing : ℕ → ℕ → ℕ) (count k : ℕ) (ss : List Sessions) (s : Sessions) (p : ℕ) →
    lent_among placing count k (ss ++ s ∷ []) p ≡ option_or (lent_among placing count k ss p) (lent_as placing count k (known_as (connect_at s.connects p)))
connect_more placing count k [] s p = or_none (lent_as placing count k (known_as (connect_at s.connects p)))
connect_more placing count k (t ∷ ss) s p = grind (arith, connect_more placing count k ss s p)

pub lent_more : (placing : ℕ → ℕ → ℕ) (count : ℕ) (config : Config) (ss : List Sessions) (s : Sessions) (old new : List Sessions) → AreLent placing count ss config old →
    ((k n : ℕ) → is_some (kept_of new k n) ≡ ((nat_eq (placing n count) k && is_some (kept_in s n)) || is_some (kept_of old k n))) →
    ((k n : ℕ) → patterns_at new k n ≡ cond ((nat_eq (placing n count) k && is_some (kept_in s n)) && not (is_some (kept_of old k n))) (patterns_in s n) (patterns_at old k n)) →
    ((k p : ℕ) → connect_of new k p ≡ option_or (connect_of old k p) (lent_as placing count k (known_as (connect_at s.connects p)))) →
    length new ≡ count → ((k : ℕ) → config_of new k ≡ config_of old k) → AreApart s.connects.held s.connects.filed → AreLent placing count (ss ++ s ∷ []) config new
lent_more placing count config ss s old new h sessions patterns connects many configs apart = record {
  many = many;
  configs = λ k l. configs k ∙ h.configs k l;
  sessions = λ k n. grind (arith, sessions k n, h.sessions k n, kept_more ss s n);
  patterns = λ k n. grind (arith, patterns k n, h.sessions k n, h.patterns k n, patterns_none ss n, patterns_more ss s n);
  connects = λ k p. grind (arith, connects k p, h.connects k p, connect_more placing count k ss s p);
  apart = All-push (λ (t : Sessions). AreApart t.connects.held t.connects.filed) ss s h.apart apart;
}

-- ---- empty shards

at_empty : (P : Option Sessions → Type 0) (config : Config) (heirs : List Sessions) → P None → ((s : Sessions) → IsEmptyOf config s → P (Some s)) → All (IsEmptyOf config) heirs → (k : ℕ) → P (slice_get heirs k)
at_empty P config [] none some all zero = none
at_empty P config [] none some all (suc k) = none
at_empty P config (s ∷ ss) none some all zero = some s (all 0 s (omega arith))
at_empty P config (s ∷ ss) none some all (suc k) = at_empty P config ss none some (λ i d l. all (suc i) d (omega arith)) k

first_config : (config : Config) (heirs : List Sessions) → All (IsEmptyOf config) heirs → (k : ℕ) → k < length heirs → config_of heirs k ≡ Some config
first_config config [] all k h = absurd (omega (arith, h))
first_config config (s ∷ ss) all zero h = ap Some ((all 0 s (omega arith)).config_is)
first_config config (s ∷ ss) all (suc k) h = first_config config ss (λ i d l. all (suc i) d (omega arith)) k (omega (arith, h))

nobody : (q : Bool) → false ≡ (q && false)
nobody q = grind arith

nothing : (q : Bool) → [] ≡ cond {A = List Glob} q [] []
nothing q = grind arith

pub lent_none : (placing : ℕ → ℕ → ℕ) (count : ℕ) (config : Config) (heirs : List Sessions) → length heirs ≡ count → All (IsEmptyOf config) heirs → AreLent placing count [] config heirs
lent_none placing count config heirs many all = record {
  many = many;
  configs = λ k l. first_config config heirs all k (omega (arith, l, many));
  sessions = λ k n. at_empty (λ o. is_some (kept_there o n) ≡ false) config heirs refl (λ s e. ap is_some (e.sessions n)) all k ∙ nobody (nat_eq (placing n count) k);
  patterns = λ k n. at_empty (λ o. patterns_there o n ≡ []) config heirs refl (λ s e. e.patterns n) all k ∙ nothing (nat_eq (placing n count) k);
  connects = λ k p. at_empty (λ o. connect_there o p ≡ None) config heirs refl (λ s e. e.connects p) all k;
  apart = All-nil (λ (t : Sessions). AreApart t.connects.held t.connects.filed);
}

pub clean_none : (config : Config) (heirs : List Sessions) → All (IsEmptyOf config) heirs → AreAllClean heirs
clean_none config heirs all k n none = at_empty (λ o. patterns_there o n ≡ []) config heirs refl (λ s e. e.patterns n) all k
