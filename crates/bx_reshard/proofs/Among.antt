-- What the old shards have, and in which new shard each part of it is.
use Rattle.std.proofs.Common.{arith, ◌≡◌, ℕ, nat_eq, ◌&&◌, Bool, true, false, cond, is_some, Option, Some, None, List, [], ◌∷◌, refl, sym, ap, ◌∙◌}
use Rattle.std.specs.Option.{option_or}
use Rattle.bx_history.proofs.Tests.{either}
use Rattle.bx_entry.specs.Keeping.{Kept}
use Rattle.bx_connects.specs.declared.{connects.ConnectState.ConnectState, connects.FiledAnswer.FiledAnswer, held.HeldConnect.HeldConnect}
use Rattle.bx_connects.specs.declared.connects.ConnectState.TheVariants.{Held, Filed}
use Rattle.bx_connects.specs.Connects.{connect_at, filed_as, filing_at, hold_at, is_both, known_as, state_by}
use Rattle.bx_shard.specs.declared.sessions.Sessions.{Sessions}
use Rattle.bx_reshard.specs.Redistribution.{redistributed_connect}
use Rattle.bx_reshard.specs.Heirs.{answered_all, answered_with, lent_among, lent_as, overlaid, patterns_among, kept_among, settled_all}
use Rattle.bx_shard.specs.Sessions.{IsCounted, held_until, holds_until, has_formed_at_most, patterns_in, kept_in}

abbrev pub known_among : List Sessions → ℕ → Option ConnectState
known_among [] p = None
known_among (s ∷ ss) p = option_or (connect_at s.connects p) (known_among ss p)

abbrev pub HaveOnce : ℕ → List Sessions → Type 0
HaveOnce n [] = Unit {0}
HaveOnce n (s ∷ ss) = (is_some (kept_in s n) ≡ true → kept_among ss n ≡ None) × HaveOnce n ss

abbrev pub KnowOnce : ℕ → List Sessions → Type 0
KnowOnce p [] = Unit {0}
KnowOnce p (s ∷ ss) = (is_some (connect_at s.connects p) ≡ true → known_among ss p ≡ None) × KnowOnce p ss

abbrev pub Each : (Sessions → Type 0) → List Sessions → Type 0
Each P [] = Unit {0}
Each P (s ∷ ss) = P s × Each P ss

abbrev pub IsApart : ℕ → Sessions → Type 0
IsApart p s = is_both (hold_at s.connects.held p) (filing_at s.connects.filed p) ≡ false

-- ---- sessions

settled_placed : (placing : ℕ → ℕ → ℕ) (count k n : ℕ) (ss : List Sessions) (lent : Option Kept) → nat_eq (placing n count) k ≡ true → HaveOnce n ss →
    settled_all placing count k n ss lent ≡ overlaid (kept_among ss n) lent
settled_placed placing count k n [] lent here once = refl
settled_placed placing count k n (s ∷ ss) lent here once = grind (arith, settled_placed placing count k n ss (overlaid (kept_in s n) lent) here once.1, once.0)

settled_elsewhere : (placing : ℕ → ℕ → ℕ) (count k n : ℕ) (ss : List Sessions) (lent : Option Kept) → nat_eq (placing n count) k ≡ false → settled_all placing count k n ss lent ≡ lent
settled_elsewhere placing count k n [] lent here = refl
settled_elsewhere placing count k n (s ∷ ss) lent here = grind (arith, settled_elsewhere placing count k n ss lent here)

over_lent : (o lent : Option Kept) → is_some lent ≡ is_some o → overlaid o lent ≡ o
over_lent o lent h = grind arith

nothing_lent : (lent : Option Kept) → is_some lent ≡ false → lent ≡ None
nothing_lent lent h = grind arith

pub session_redistributed : (placing : ℕ → ℕ → ℕ) (count k n : ℕ) (ss : List Sessions) (lent : Option Kept) → HaveOnce n ss → is_some lent ≡ (nat_eq (placing n count) k && is_some (kept_among ss n)) →
    settled_all placing count k n ss lent ≡ cond (nat_eq (placing n count) k) (kept_among ss n) None
session_redistributed placing count k n ss lent once room = either (nat_eq (placing n count) k) (settled_all placing count k n ss lent ≡ cond (nat_eq (placing n count) k) (kept_among ss n) None)
    (λ t.
    settled_placed placing count k n ss lent t once
    ∙ over_lent (kept_among ss n) lent (room ∙ ap (λ b. b && is_some (kept_among ss n)) t)
    ∙ sym (ap (λ b. cond b (kept_among ss n) None) t))
    (λ f.
    settled_elsewhere placing count k n ss lent f
    ∙ nothing_lent lent (room ∙ ap (λ b. b && is_some (kept_among ss n)) f)
    ∙ sym (ap (λ b. cond b (kept_among ss n) None) f))

-- ---- connects

lent_once : (placing : ℕ → ℕ → ℕ) (count k p : ℕ) (ss : List Sessions) → KnowOnce p ss → lent_among placing count k ss p ≡ lent_as placing count k (known_as (known_among ss p))
lent_once placing count k p [] once = refl
lent_once placing count k p (s ∷ ss) once = grind (arith, lent_once placing count k p ss once.1, once.0)

abbrev answered_as : (ℕ → ℕ → ℕ) → ℕ → ℕ → Option ConnectState → Option ConnectState → Option ConnectState
answered_as placing count k None lent = lent
answered_as placing count k (Some (Held session deadline waker)) lent = lent
answered_as placing count k (Some (Filed session place answer)) lent = cond (nat_eq (placing session count) k) (filed_as place answer lent) lent

one_answered : (placing : ℕ → ℕ → ℕ) (count k : ℕ) (h : Option HeldConnect) (f : Option FiledAnswer) (lent : Option ConnectState) → is_both h f ≡ false →
    answered_with placing count k f lent ≡ answered_as placing count k (state_by h f) lent
one_answered placing count k h f lent apart = grind arith

answered_once : (placing : ℕ → ℕ → ℕ) (count k p : ℕ) (ss : List Sessions) (lent : Option ConnectState) → Each (IsApart p) ss → KnowOnce p ss →
    answered_all placing count k p ss lent ≡ answered_as placing count k (known_among ss p) lent
answered_once placing count k p [] lent apart once = refl
answered_once placing count k p (s ∷ ss) lent apart once =
    grind (
      arith,
      answered_once placing count k p ss (answered_with placing count k (filing_at s.connects.filed p) lent) apart.1 once.1,
      one_answered placing count k (hold_at s.connects.held p) (filing_at s.connects.filed p) lent apart.0,
      once.0,
    )

as_redistributed : (placing : ℕ → ℕ → ℕ) (count k : ℕ) (o : Option ConnectState) → answered_as placing count k o (lent_as placing count k (known_as o)) ≡ redistributed_connect placing count k o
as_redistributed placing count k o = grind arith

pub connect_redistributed : (placing : ℕ → ℕ → ℕ) (count k p : ℕ) (ss : List Sessions) (lent : Option ConnectState) → Each (IsApart p) ss → KnowOnce p ss → lent ≡ lent_among placing count k ss p →
    answered_all placing count k p ss lent ≡ redistributed_connect placing count k (known_among ss p)
connect_redistributed placing count k p ss lent apart once room =
    answered_once placing count k p ss lent apart once
    ∙ ap (answered_as placing count k (known_among ss p)) (room ∙ lent_once placing count k p ss once)
    ∙ as_redistributed placing count k (known_among ss p)

-- ---- invariants of each shard

pub counted_among : (ss : List Sessions) (n : ℕ) → Each (λ s. IsCounted n (kept_in s n) (patterns_in s n)) ss → IsCounted n (kept_among ss n) (patterns_among ss n)
counted_among [] n each = refl
counted_among (s ∷ ss) n each = by (kept_in s n) each.0 (counted_among ss n each.1)
  where
    by : (o : Option Kept) → IsCounted n o (patterns_in s n) → IsCounted n (kept_among ss n) (patterns_among ss n)
        → IsCounted n (option_or o (kept_among ss n)) (cond (is_some o) (patterns_in s n) (patterns_among ss n))
    by None h rest = rest
    by (Some x) h rest = h

pub formed_among : (ss : List Sessions) (n place : ℕ) → Each (λ s. has_formed_at_most place (kept_in s n) ≡ true) ss → has_formed_at_most place (kept_among ss n) ≡ true
formed_among [] n place each = refl
formed_among (s ∷ ss) n place each = grind (arith, each.0, formed_among ss n place each.1)

pub unknown_among : (ss : List Sessions) (p : ℕ) → Each (λ s. connect_at s.connects p ≡ None) ss → known_among ss p ≡ None
unknown_among [] p each = refl
unknown_among (s ∷ ss) p each = ap (λ o. option_or o (known_among ss p)) each.0 ∙ unknown_among ss p each.1

pub held_among : (ss : List Sessions) (n p : ℕ) → HaveOnce n ss → KnowOnce p ss → Each (λ s. held_until (connect_at s.connects p) n ≡ holds_until (kept_in s n) p) ss →
    held_until (known_among ss p) n ≡ holds_until (kept_among ss n) p
held_among [] n p have know each = refl
held_among (s ∷ ss) n p have know each = grind (arith, know.0, have.0, each.0, held_among ss n p have.1 know.1 each.1)

pub nobody : {X : Type 0} (b : Bool) → None ≡ cond {A = Option X} b None None
nobody b = grind arith

pub held_redistributed : (placing : ℕ → ℕ → ℕ) (count k n : ℕ) (o : Option ConnectState) → held_until (redistributed_connect placing count k o) n ≡ cond (nat_eq (placing n count) k) (held_until o n) None
held_redistributed placing count k n o = grind arith

pub holds_redistributed : (b : Bool) (o : Option Kept) (p : ℕ) → holds_until (cond b o None) p ≡ cond b (holds_until o p) None
holds_redistributed b o p = grind arith
