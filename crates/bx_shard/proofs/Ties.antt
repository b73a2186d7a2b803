-- Every call preserves that a connect is held if and only if its session holds it.
use Rattle.std.proofs.Common.{arith, ◌≡◌, ℕ, nat_eq, Bool, true, false, cond, Option, Some, None, refl, sym, ap, ◌∙◌}
use Rattle.std.proofs.lemmas.Bool.{eqb-true}
use Rattle.bx_entry.specs.Words.{Pending, Kept}
use Rattle.bx_session.specs.Views.{deadline_of}
use Rattle.bx_connects.specs.declared.connects.ConnectState.{ConnectState}
use Rattle.bx_connects.specs.declared.connects.ConnectState.TheVariants.{Held}
use Rattle.bx_shard.specs.Sessions.{held_until, holds_until}

-- ---- look-ups alone

abbrev pub Agree : (ℕ → Option ConnectState) → (ℕ → Option Kept) → Type 0
Agree connects sessions = (place n : ℕ) → held_until (connects place) n ≡ holds_until (sessions n) place

abbrev pub IsNobody : Option ConnectState → Type 0
IsNobody state = (n : ℕ) → held_until state n ≡ None

abbrev pub IsFree : Option Kept → Type 0
IsFree session = (place : ℕ) → holds_until session place ≡ None

nothing : (b : Bool) (x y : Option (Option ℕ)) → b ≡ false → y ≡ None → cond b x None ≡ y
nothing b x y e h = grind arith

pub held_by_one : (state : Option ConnectState) (m n : ℕ) (deadline : Option ℕ) → held_until state m ≡ Some deadline → nat_eq m n ≡ false → held_until state n ≡ None
held_by_one state m n deadline h other = grind arith

pub holds_own : (session : Kept) (q : Pending) → session.held ≡ Some q → holds_until (Some session) q.place ≡ Some (deadline_of q)
holds_own session q h = grind arith

pub holds_one : (session : Kept) (q : Pending) (place : ℕ) → session.held ≡ Some q → nat_eq q.place place ≡ false → holds_until (Some session) place ≡ None
holds_one session q place h other = grind arith

-- ---- a hold ends

module _ (C D : ℕ → Option ConnectState) (S T : ℕ → Option Kept) (m : ℕ) (session : Kept) (q : Pending) (state : Option ConnectState) (after : Option Kept) where
  pub ended : Agree C S → S m ≡ Some session → session.held ≡ Some q → ((p : ℕ) → D p ≡ cond (nat_eq q.place p) state (C p)) → IsNobody state
      → ((n : ℕ) → T n ≡ cond (nat_eq m n) after (S n)) → IsFree after → Agree D T
  ended agree here held at gone on free p n =
      ap (λ o. held_until o n) (at p) ∙ by (nat_eq q.place p) (nat_eq m n) refl refl ∙ sym (ap (λ o. holds_until o p) (on n))
    where
      own : held_until (C q.place) m ≡ Some (deadline_of q)
      own = agree q.place m ∙ ap (λ o. holds_until o q.place) here ∙ holds_own session q held

      by : (b c : Bool) → b ≡ nat_eq q.place p → c ≡ nat_eq m n → held_until (cond b state (C p)) n ≡ holds_until (cond c after (S n)) p
      by true true e f = gone n ∙ sym (free p)
      by true false e f =
          gone n ∙ sym (ap (λ o. held_until o n) (ap C (sym (eqb-true q.place p (sym e)))) ∙ held_by_one (C q.place) m n (deadline_of q) own (sym f)) ∙ agree p n
      by false true e f =
          let same = eqb-true m n (sym f) in
          agree p n ∙ ap (λ k. holds_until (S k) p) (sym same) ∙ ap (λ o. holds_until o p) here ∙ holds_one session q p held (sym e) ∙ sym (free p)
      by false false e f = agree p n

-- ---- a hold begins

module _ (C D : ℕ → Option ConnectState) (S T : ℕ → Option Kept) (m : ℕ) (q : Pending) (session : Kept) where
  pub begun : Agree C S → C q.place ≡ None → IsFree (S m) → ((p : ℕ) → D p ≡ cond (nat_eq q.place p) (Some (Held m (deadline_of q) None)) (C p))
      → ((n : ℕ) → T n ≡ cond (nat_eq m n) (Some session) (S n)) → session.held ≡ Some q → Agree D T
  begun agree fresh free at on held p n = grind arith

-- ---- no hold ends or begins

pub still : (C D : ℕ → Option ConnectState) (S T : ℕ → Option Kept) → Agree C S → ((p n : ℕ) → held_until (D p) n ≡ held_until (C p) n) → ((n p : ℕ) → holds_until (T n) p ≡ holds_until (S n) p) → Agree D T
still C D S T agree at on p n = at p n ∙ agree p n ∙ sym (on n p)
