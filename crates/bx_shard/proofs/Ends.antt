-- Each change of a session answers its held connect or leaves it held.
use Rattle.std.proofs.Common.{arith, Contains, subst, ◌≡◌, ◌⊎◌, inl, inr, ℕ, nat_eq, Bool, cond, Option, Some, None, option_map, List, [], ◌∷◌, map, refl, sym, ap, ◌∙◌}
use Rattle.std.specs.Option.{option_and_then}
use Rattle.std.proofs.lemmas.{Bool.cond_both, Bool.eq-eqb, Grind.common_steps}
use Rattle.bx_advice.specs.declared.{config.Config.Config, advice.Outcome.Outcome}
use Rattle.bx_advice.specs.declared.advice.Outcome.TheVariants.{Disconnected, Failed}
use Rattle.bx_advice.specs.declared.error.Error.TheVariants.{QueueOverflow}
use Rattle.bx_message.specs.declared.reply.Answer.{Answer}
use Rattle.bx_entry.specs.Words.{Kept, after, kept, resumed}
use Rattle.bx_entry.specs.Sessions.{Pending, Publication, Session, acknowledged, admitted, answered, answered_or_held, expired, expired_from, given, received, released, released_from}
use Rattle.bx_session.specs.declared.answered.Answered.{Answered}
use Rattle.bx_session.specs.Views.{answered_of, deadline_of}
use Rattle.bx_connects.specs.declared.connects.ConnectState.{ConnectState}
use Rattle.bx_connects.specs.declared.connects.ConnectState.TheVariants.{Filed}
use Rattle.bx_connects.specs.Connects.{filed_as, session_at}
use Rattle.bx_shard.specs.Effects.{answers_by, filing_each, forgetting, held_in}
use Rattle.bx_shard.specs.Sessions.{ends_for, held_until, holds_until}
use Rattle.bx_shard.proofs.{Keeps.filed_known, Keeps.held_session, Singles.nowhere, Singles.only_one}
use Rattle.bx_shard.proofs.Ties.{Agree, IsFree, IsNobody, ended, holds_own, still}

pub record IsEnd (before after : Option Kept) (answers : List Answered) : Type 0 where
  pub session : Kept
  pub hold : Pending
  pub answer : Answered
  pub here : before ≡ Some session
  pub held : session.held ≡ Some hold
  pub given : answers ≡ answer ∷ []
  pub own : answer.place ≡ hold.place
  pub free : IsFree after

pub record IsKept (before after : Option Kept) (answers : List Answered) : Type 0 where
  pub none : answers ≡ []
  pub same : (p : ℕ) → holds_until after p ≡ holds_until before p

abbrev pub Settles : Option Kept → Option Kept → List Answered → Type 0
Settles before after answers = IsEnd before after answers ⊎ IsKept before after answers

pub record IsTo (before : Option Kept) (answers : List Answered) (a : Answered) : Type 0 where
  pub session : Kept
  pub hold : Pending
  pub here : before ≡ Some session
  pub held : session.held ≡ Some hold
  pub only : answers ≡ a ∷ []
  pub own : a.place ≡ hold.place

pub is_to : (before after : Option Kept) (answers : List Answered) (a : Answered) → Settles before after answers → Contains answers a → IsTo before answers a
is_to before after answers a (inl end) there =
    let same : end.answer ≡ a = only_one end.answer a (subst (λ given. Contains given a) end.given there) in
    record { session = end.session; hold = end.hold; here = end.here; held = end.held; only = end.given ∙ ap (λ x. x ∷ []) same; own = ap (λ (x : Answered). x.place) (sym same) ∙ end.own }
is_to before after answers a (inr stays) there = absurd (nowhere a (subst (λ given. Contains given a) stays.none there))

pub to_hold : (before : Option Kept) (answers : List Answered) (a : Answered) (to : IsTo before answers a) → option_and_then (λ (k : Kept). k.held) before ≡ Some to.hold
to_hold before answers a to = ap (λ (o : Option Kept). option_and_then (λ (k : Kept). k.held) o) to.here ∙ to.held

pub held_to : (C : ℕ → Option ConnectState) (S : ℕ → Option Kept) (n : ℕ) (answers : List Answered) (a : Answered) → Agree C S → (to : IsTo (S n) answers a) → held_until (C a.place) n ≡ Some (deadline_of to.hold)
held_to C S n answers a agree to = agree a.place n ∙ ap (λ o. holds_until o a.place) to.here ∙ ap (holds_until (Some to.session)) to.own ∙ holds_own to.session to.hold to.held

pub filed_only : (place n : ℕ) (answers : List Answered) (a : Answered) (C : ℕ → Option ConnectState) → answers ≡ a ∷ [] → session_at (C a.place) ≡ Some n → filing_each place answers C a.place ≡ Some (Filed n place a.answer)
filed_only place n answers a C only known =
    ap (λ given. filing_each place given C a.place) only
    ∙ ap (λ b. cond b (filed_as place a.answer (C a.place)) (C a.place)) (eq-eqb a.place a.place refl)
    ∙ filed_known place n a.answer (C a.place) known

pub filed_to : (C : ℕ → Option ConnectState) (S : ℕ → Option Kept) (place n : ℕ) (answers : List Answered) (a : Answered) → Agree C S → IsTo (S n) answers a → filing_each place answers C a.place ≡ Some (Filed n place a.answer)
filed_to C S place n answers a agree to = filed_only place n answers a C to.only (held_session (C a.place) n (deadline_of to.hold) (held_to C S n answers a agree to))

-- ---- what is filed or forgotten

nobody_filed : (place : ℕ) (a : Answer) (o : Option ConnectState) → IsNobody (filed_as place a o)
nobody_filed place a o n = grind arith

module _ (C D : ℕ → Option ConnectState) (S T : ℕ → Option Kept) (m : ℕ) (after : Option Kept) where
  pub kept_sessions : (answers : List Answered) → ((n : ℕ) → T n ≡ cond (nat_eq m n) after (S n)) → IsKept (S m) after answers → (n p : ℕ) → holds_until (T n) p ≡ holds_until (S n) p
  kept_sessions answers on kept n p = grind arith

  pub filing_agrees : (answers : List Answered) (place : ℕ) → Agree C S → ((n : ℕ) → T n ≡ cond (nat_eq m n) after (S n)) → ((p : ℕ) → D p ≡ filing_each place answers C p) → Settles (S m) after answers → Agree D T
  filing_agrees answers place agree on at (inl end) =
      ended C D S T m end.session end.hold (filed_as place end.answer.answer (C end.answer.place)) after agree end.here end.held
      (λ p. at p ∙ ap (λ given. filing_each place given C p) end.given ∙ ap (λ q. cond (nat_eq q p) (filed_as place end.answer.answer (C end.answer.place)) (C p)) end.own)
      (nobody_filed place end.answer.answer (C end.answer.place)) on end.free
  filing_agrees answers place agree on at (inr kept) =
      still C D S T agree (λ p n. ap (λ o. held_until o n) (at p ∙ ap (λ given. filing_each place given C p) kept.none)) (kept_sessions answers on kept)

  pub forgetting_agrees : Agree C S → ((n : ℕ) → T n ≡ cond (nat_eq m n) after (S n)) → ((p : ℕ) → D p ≡ forgetting (held_in (S m)) C p) → IsFree after → Agree D T
  forgetting_agrees agree on at free = by (S m) refl
    where
      held : (k : Kept) → S m ≡ Some k → (h : Option Pending) → k.held ≡ h → Agree D T
      held k here None e = still C D S T agree (λ p n. ap (λ o. held_until o n) (at p ∙ ap (λ o. forgetting (held_in o) C p) here ∙ ap (λ (h : Option Pending). forgetting (option_map (λ (x : Pending). x.place) h) C p) e))
          (kept_sessions [] on (record { none = refl; same = λ p. free p ∙ sym (ap (λ o. holds_until o p) here ∙ ap (λ h. ends_for h p) e) }))
      held k here (Some q) e =
          ended C D S T m k q None after agree here e (λ p. at p ∙ ap (λ o. forgetting (held_in o) C p) here ∙ ap (λ (h : Option Pending). forgetting (option_map (λ (x : Pending). x.place) h) C p) e) (λ n. refl) on free

      by : (o : Option Kept) → S m ≡ o → Agree D T
      by None here = still C D S T agree (λ p n. ap (λ o. held_until o n) (at p ∙ ap (λ o. forgetting (held_in o) C p) here))
          (kept_sessions [] on (record { none = refl; same = λ p. free p ∙ sym (ap (λ o. holds_until o p) here) }))
      by (Some k) here = held k here k.held refl

-- ---- the changes of one session

abbrev pub From : Kept → Session → Type 0
From k s = Settles (Some k) (Some (kept s)) (map answered_of s.answers)

unchanged : (k : Kept) (s : Session) → s.answers ≡ [] → s.held ≡ k.held → From k s
unchanged k s none same = inr (record { none = ap (map answered_of) none; same = λ p. ap (λ h. ends_for h p) same })

ended_by : (k : Kept) (s : Session) (q : Pending) (a : Answered) → k.held ≡ Some q → map answered_of s.answers ≡ a ∷ [] → a.place ≡ q.place → s.held ≡ None → From k s
ended_by k s q a held given own free = inl (record { session = k; hold = q; answer = a; here = refl; held = held; given = given; own = own; free = λ p. ap (λ h. ends_for h p) free })

released_from_e : (config : Config) (place : ℕ) (outcome : Outcome) (k : Kept) (held : Option Pending) → k.held ≡ held → From k (released_from config place outcome (resumed k) held)
released_from_e config place outcome k held e = grind (arith, common_steps)

pub released_e : (config : Config) (place : ℕ) (outcome : Outcome) (k : Kept) → From k (released config place outcome (resumed k))
released_e config place outcome k = released_from_e config place outcome k k.held refl

expired_from_e : (config : Config) (place moment : ℕ) (k : Kept) (held : Option Pending) → k.held ≡ held → From k (expired_from config place moment (resumed k) held)
expired_from_e config place moment k held e = grind (arith, common_steps)

pub expired_e : (config : Config) (place moment : ℕ) (k : Kept) → From k (expired config place moment (resumed k))
expired_e config place moment k = expired_from_e config place moment k k.held refl

pub received_e : (config : Config) (e : Publication) (k : Kept) → From k (received config e (resumed k))
received_e config e k = grind (arith, common_steps)

-- ---- a connect while none is held

record Quiet (s t : Session) : Type 0 where
  held : t.held ≡ s.held
  answers : t.answers ≡ s.answers

acknowledged_q : (acked : Option ℕ) (s : Session) → Quiet s (acknowledged acked s)
acknowledged_q acked s = grind (arith, common_steps)

abbrev pub with_hold : Pending → Kept → Kept
with_hold p k = record k { held = Some p }

module _ (config : Config) (p : Pending) (k : Kept) (free : k.held ≡ None) where
  answered_e : (events : List Publication) (outcome : Outcome) (t : Session) → Quiet (resumed k) t → From (with_hold p k) (answered config p p.place events outcome t)
  answered_e events outcome t q = grind (arith, common_steps)

  settled_e : (t : Session) → Quiet (resumed k) t → From (with_hold p k) (answered_or_held config p t)
  settled_e t q = grind (arith, common_steps)

  pub admitted_e : (acked : Option ℕ) (overflow : Bool) → From (with_hold p k) (admitted config p acked overflow (resumed k))
  admitted_e acked overflow =
      cond_both overflow (answered config p p.place [] (Failed QueueOverflow) (resumed k)) (answered_or_held config p (acknowledged acked (resumed k))) (From (with_hold p k))
      (λ h. answered_e [] (Failed QueueOverflow) (resumed k) (record { held = refl; answers = refl }))
      (λ h. settled_e (acknowledged acked (resumed k)) (acknowledged_q acked (resumed k)))

-- ---- changes of a session that may be in another shard

pub settles_each : (change : Session → Session) → ((k : Kept) → From k (change (resumed k))) → (o : Option Kept) → Settles o (option_map (after change) o) (answers_by change o)
settles_each change each o = grind arith

pub tick_settles : (config : Config) (place moment : ℕ) (o : Option Kept) → Settles o (option_map (after (expired config place moment)) o) (answers_by (expired config place moment) o)
tick_settles config place moment = settles_each (expired config place moment) (expired_e config place moment)

pub release_settles : (config : Config) (place : ℕ) (o : Option Kept) → Settles o None (answers_by (released config place Disconnected) o)
release_settles config place o = grind arith
