-- Ending all due holds one by one has the effect that the definition of a tick has on each session.
use Rattle.std.proofs.Common.{⊎_elim, Contains, ◌≡◌, ◌≢◌, ◌⊎◌, inl, inr, ℕ, nat_eq, ◌+◌, ◌<◌, ◌≤◌, ◌^◌, true, false, cond, Option, Some, option_map, [], ◌∷◌, refl, sym, ap, ◌∙◌, arith}
use Rattle.std.proofs.lemmas.{Bool.eqb-true, Bool.eq-eqb, Bool.ne_eqb, Grind.common_steps}
use Rattle.bx_history.proofs.Tests.{either}
use Rattle.bx_advice.specs.declared.config.Config.{Config}
use Rattle.bx_advice.specs.declared.advice.Outcome.TheVariants.{Connected}
use Rattle.bx_entry.specs.Words.{Kept, after, resumed, Pending, Session, ends_by, expired, unheld}
use Rattle.bx_entry.specs.Sessions.{filing}
use Rattle.bx_session.specs.declared.answered.Answered.{Answered}
use Rattle.bx_session.specs.Views.{answered_of, deadline_of}
use Rattle.futures.specs.declared.task.waker.Waker.{Waker}
use Rattle.bx_connects.specs.declared.connects.ConnectState.{ConnectState}
use Rattle.bx_connects.specs.declared.connects.ConnectState.TheVariants.{Held, Filed}
use Rattle.bx_connects.specs.Connects.{filed_as, session_at}
use Rattle.bx_shard.specs.Effects.{answers_by, filing_each}
use Rattle.bx_shard.specs.Sessions.{held_until, holds_until}
use Rattle.bx_shard.proofs.{Keeps.filing_each_session, Singles.nowhere, Singles.only_one, Singles.the_one, Ties.Agree, Ties.holds_own}

due_by : (moment d : ℕ) (q : Pending) → deadline_of q ≡ Some d → d ≤ moment → ends_by moment q ≡ true
due_by moment d q e l = grind arith

not_due : (moment : ℕ) (q : Pending) → moment < 2 ^ 64 → ((d : ℕ) → deadline_of q ≡ Some d → moment < d) → ends_by moment q ≡ false
not_due moment q fits later = grind (arith, later (q.moment + q.hold))

-- ---- who holds a connect

pub record IsHeldBy (state : Option ConnectState) (n : ℕ) (deadline : Option ℕ) : Type 0 where
  pub waker : Option Waker
  pub is : state ≡ Some (Held n deadline waker)

held_by : (o : Option ConnectState) (n : ℕ) (deadline : Option ℕ) → held_until o n ≡ Some deadline → IsHeldBy o n deadline
held_by o n deadline h = grind arith

pub record IsHolding (o : Option Kept) (place : ℕ) (deadline : Option ℕ) : Type 0 where
  pub session : Kept
  pub hold : Pending
  pub here : o ≡ Some session
  pub held : session.held ≡ Some hold
  pub own : hold.place ≡ place
  pub ends : deadline_of hold ≡ deadline

holding : (o : Option Kept) (place : ℕ) (deadline : Option ℕ) → holds_until o place ≡ Some deadline → IsHolding o place deadline
holding o place deadline h = grind arith

twice : (F : Option Kept → Option Kept) (T U : ℕ → Option Kept) (m n : ℕ) → U n ≡ cond (nat_eq m n) (F (T m)) (T n) → F (F (T m)) ≡ F (T m) → F (U n) ≡ F (T n)
twice F T U m n on same = grind arith

-- ---- one session

module _ (config : Config) (place moment : ℕ) where
  abbrev pub tick : Session → Session
  tick = expired config place moment

  pub record IsIdle (o : Option Kept) : Type 0 where
    pub none : answers_by tick o ≡ []
    pub same : option_map (after tick) o ≡ o

  idle : (o : Option Kept) → ((k : Kept) (q : Pending) → o ≡ Some k → k.held ≡ Some q → ends_by moment q ≡ false) → IsIdle o
  idle o late = grind (arith, common_steps)

  idle_after : (o : Option Kept) → IsIdle (option_map (after tick) o)
  idle_after o = grind (arith, common_steps)

  pub record IsAnswered (o : Option Kept) (at : ℕ) : Type 0 where
    pub answer : Answered
    pub given : answers_by tick o ≡ answer ∷ []
    pub own : answer.place ≡ at

  answered_due : (k : Kept) (q : Pending) → k.held ≡ Some q → ends_by moment q ≡ true → IsAnswered (Some k) q.place
  answered_due k q held due = record { answer = answered_of (filing config q place [] Connected (unheld (resumed k))); given = grind (arith, common_steps); own = refl }

  module _ (C : ℕ → Option ConnectState) (S : ℕ → Option Kept) (agree : Agree C S) where
    pub due_answered : (n at deadline : ℕ) (waker : Option Waker) → C at ≡ Some (Held n (Some deadline) waker) → deadline ≤ moment → IsAnswered (S n) at
    due_answered n at deadline waker known late =
        let h : IsHolding (S n) at (Some deadline) = holding (S n) at (Some deadline) (rw (← agree at n, known, eq-eqb n n refl)) in
        let one : IsAnswered (Some h.session) h.hold.place = answered_due h.session h.hold h.held (due_by moment deadline h.hold h.ends late) in
        record { answer = one.answer; given = ap (answers_by tick) h.here ∙ one.given; own = one.own ∙ h.own }

    pub none_due : moment < 2 ^ 64 → ((at n deadline : ℕ) → IsHeldBy (C at) n (Some deadline) → moment < deadline) → (n : ℕ) → IsIdle (S n)
    none_due fits later n = idle (S n) (λ k q here holds.
        let held : IsHeldBy (C q.place) n (deadline_of q) = held_by (C q.place) n (deadline_of q) (rw (agree q.place n, here) (holds_own k q holds)) in
        not_due moment q fits (λ d ends. later q.place n d (record { waker = held.waker; is = held.is ∙ ap (λ o. Some (Held n o held.waker)) ends })))

  -- ---- some holds have ended

  pub record AreTicked (S T : ℕ → Option Kept) (C D : ℕ → Option ConnectState) : Type 0 where
    pub sessions : (n : ℕ) → option_map (after tick) (T n) ≡ option_map (after tick) (S n)
    pub left : (n : ℕ) (a : Answered) → Contains (answers_by tick (T n)) a → Contains (answers_by tick (S n)) a
    pub given : (n : ℕ) (a : Answered) → Contains (answers_by tick (S n)) a → Contains (answers_by tick (T n)) a ⊎ (D a.place ≡ Some (Filed n place a.answer))
    pub kept_at : (p : ℕ) → ((n : ℕ) (a : Answered) → Contains (answers_by tick (S n)) a → a.place ≢ p) → D p ≡ C p
    pub known : (p : ℕ) → session_at (D p) ≡ session_at (C p)

  pub none_ticked : (S : ℕ → Option Kept) (C : ℕ → Option ConnectState) → AreTicked S S C C
  none_ticked S C = record {
    sessions = λ n. refl;
    left = λ n a e. e;
    given = λ n a e. inl e;
    kept_at = λ p other. refl;
    known = λ p. refl;
  }

  module _ (S T U : ℕ → Option Kept) (C D E : ℕ → Option ConnectState) (m : ℕ) (deadline : Option ℕ) (waker : Option Waker) (a : Answered) where
    pub one_ticked : AreTicked S T C D → answers_by tick (T m) ≡ a ∷ [] → D a.place ≡ Some (Held m deadline waker)
        → ((n : ℕ) → U n ≡ cond (nat_eq m n) (option_map (after tick) (T m)) (T n)) → ((p : ℕ) → E p ≡ filing_each place (answers_by tick (T m)) D p)
        → AreTicked S U C E
    one_ticked so answer held on at = record {
      sessions = λ n. twice (option_map (after tick)) T U m n (on n) (idle_after (T m)).same ∙ so.sessions n;
      left = λ n x there. either (nat_eq m n) (Contains (answers_by tick (S n)) x) (λ t. absurd (nowhere x (rw (on n, t, (idle_after (T m)).none) at there))) (λ f. so.left n x (rw (on n, f) at there));
      given = λ n x there. ⊎_elim (waits n x) (filed n x) (so.given n x there);
      kept_at = λ p none. other p (ne_eqb a.place p (none m a (so.left m a (rw answer (the_one a))))) ∙ so.kept_at p none;
      known = λ p. ap session_at (at p) ∙ filing_each_session place (answers_by tick (T m)) D p ∙ so.known p;
    }
      where
        files : (p : ℕ) → E p ≡ cond (nat_eq a.place p) (filed_as place a.answer (D a.place)) (D p)
        files p = at p ∙ ap (λ given. filing_each place given D p) answer

        own : E a.place ≡ Some (Filed m place a.answer)
        own = rw (files a.place, eq-eqb a.place a.place refl, held)

        other : (p : ℕ) → nat_eq a.place p ≡ false → E p ≡ D p
        other p e = rw (files p, e)

        Given : ℕ → Answered → Type 0
        Given n x = Contains (answers_by tick (U n)) x ⊎ (E x.place ≡ Some (Filed n place x.answer))

        waits : (n : ℕ) (x : Answered) → Contains (answers_by tick (T n)) x → Given n x
        waits n x there = either (nat_eq m n) (Given n x)
            (λ t.
            let one : m ≡ n = eqb-true m n t in
            let same : a ≡ x = only_one a x (rw (← one, answer) at there) in
            inr (rw (← same, ← one) own))
            (λ f. inl (rw (on n, f) there))

        filed : (n : ℕ) (x : Answered) → D x.place ≡ Some (Filed n place x.answer) → Given n x
        filed n x there = either (nat_eq a.place x.place) (Given n x)
            (λ t. absurd (let both : Some (Held m deadline waker) ≡ Some (Filed n place x.answer) = sym held ∙ ap D (eqb-true a.place x.place t) ∙ there in cc))
            (λ f. inr (other x.place f ∙ there))

  -- ---- all due holds have ended

  module _ (S T : ℕ → Option Kept) (C D : ℕ → Option ConnectState) (so : AreTicked S T C D) (idle : (n : ℕ) → IsIdle (T n)) where
    pub all_sessions : (n : ℕ) → T n ≡ option_map (after tick) (S n)
    all_sessions n = sym ((idle n).same) ∙ so.sessions n

    pub all_given : (n : ℕ) (a : Answered) → Contains (answers_by tick (S n)) a → D a.place ≡ Some (Filed n place a.answer)
    all_given n a there = ⊎_elim (λ waits. absurd (nowhere a (rw (idle n).none at waits))) (λ filed. filed) (so.given n a there)
