-- An entry answers only connects that were not answered before.
use Rattle.std.proofs.Common.{◌≡◌, ℕ, ◌⊎◌, ⊎_elim, inl, inr, Bool, true, false, cond, is_some, Option, Some, None, List, [], ◌∷◌, map, ◌==◌, refl, sym, ap, ◌∙◌, subst, arith}
use Rattle.std.proofs.lemmas.{Bool.cond_both, Grind.common_steps, List.map-append, List.Elements.Contains-append_cases}
use Rattle.std.specs.List.{All, Contains}
use Rattle.bx_advice.specs.declared.config.Config.{Config}
use Rattle.bx_advice.specs.declared.advice.Outcome.TheVariants.{Failed}
use Rattle.bx_advice.specs.declared.error.Error.TheVariants.{SupersededConnect}
use Rattle.bx_entry.specs.declared.entry.{Entry.Entry, EntryKind.EntryKind, Rider.Rider}
use Rattle.bx_entry.specs.declared.entry.EntryKind.TheVariants.{Connect}
use Rattle.bx_entry.specs.Keeping.{Kept, after, answers_of, kept, resumed}
use Rattle.bx_entry.specs.Sessions.{Pending, Session, admitted, connected, is_riding, released, ridden, ridden_by, ride_filing, rider_of, step, step_by, unheld}
use Rattle.bx_session.specs.declared.answered.Answered.{Answered}
use Rattle.bx_session.specs.Views.{answered_of, pending}
use Rattle.bx_session.proofs.ConnectLemmas.{connected_answers}
use Rattle.bx_connects.specs.declared.connects.ConnectState.{ConnectState}
use Rattle.bx_shard.specs.Effects.{answers_by}
use Rattle.bx_shard.specs.Words.{filed_with_place, ends_for, held_until, holds_until, IsGiven, IsSound, State, connect_in, session_in}
use Rattle.bx_theory.proofs.Places.{is_connecting}
use Rattle.bx_shard.proofs.{Cases.by_option, Singles.nowhere, Singles.only_one}
use Rattle.bx_shard.proofs.Ends.{From, IsTo, is_to, to_hold, admitted_e, released_e, with_hold}

-- ---- the connects that a session answers

abbrev pub HoldsIt : Option Pending → ℕ → Type 0
HoldsIt None p = ⊥
HoldsIt (Some q) p = q.place ≡ p

abbrev Due : ℕ → Option Pending → Answered → Type 0
Due place held a = (a.place ≡ place) ⊎ HoldsIt held a.place

held_due : (k : Kept) (t : Session) (a : Answered) → From k t → Contains (map answered_of t.answers) a → HoldsIt k.held a.place
held_due k t a from there =
    let to : IsTo (Some k) (map answered_of t.answers) a = is_to (Some k) (Some (kept t)) (map answered_of t.answers) a from there in
    subst (λ (h : Option Pending). HoldsIt h a.place) (sym (to_hold (Some k) (map answered_of t.answers) a to)) (sym to.own)

of_own : (b : Bool) (k : Kept) (t : Session) (a : Answered) → Contains (map answered_of (cond b t (resumed k)).answers) a → Contains (map answered_of t.answers) a
of_own b k t a there = grind arith

connected_due : (config : Config) (p : Pending) (acked : Option ℕ) (k : Kept) (a : Answered) → Contains (map answered_of (connected config p acked (resumed k)).answers) a → Due p.place k.held a
connected_due config p acked k a there =
    let first : List Answered = map answered_of (answers_of (released config p.place (Failed SupersededConnect)) k) in
    let own : List Answered = map answered_of (answers_of (admitted config p acked k.overflow) (after unheld k)) in
    by (Contains-append_cases first own a (subst (λ given. Contains given a) (sym (connected_answers config p acked k first own refl refl)) there))
  where
    by : Contains (map answered_of (answers_of (released config p.place (Failed SupersededConnect)) k)) a ⊎ Contains (map answered_of (answers_of (admitted config p acked k.overflow) (after unheld k))) a → Due p.place k.held a
    by (inl earlier) = inr (held_due k (released config p.place (Failed SupersededConnect) (resumed k)) a (released_e config p.place (Failed SupersededConnect) k) earlier)
    by (inr its_own) = inl (sym (held_due (with_hold p (after unheld k)) (admitted config p acked k.overflow (resumed (after unheld k))) a (admitted_e config p (after unheld k) refl acked k.overflow) its_own))

other_e : (config : Config) (place moment : ℕ) (k : Kept) (kind : EntryKind) → is_connecting kind ≡ false → From k (step_by config place moment (resumed k) kind)
other_e config place moment k kind other = grind (arith, common_steps)

other_due : (config : Config) (place moment : ℕ) (k : Kept) (a : Answered) (kind : EntryKind) → is_connecting kind ≡ false → Contains (map answered_of (step_by config place moment (resumed k) kind).answers) a → HoldsIt k.held a.place
other_due config place moment k a kind other there = held_due k (step_by config place moment (resumed k) kind) a (other_e config place moment k kind other) there

answers_due : (config : Config) (place moment : ℕ) (k : Kept) (a : Answered) (kind : EntryKind) → Contains (map answered_of (step_by config place moment (resumed k) kind).answers) a → Due place k.held a
answers_due config place moment k a (Connect m client id acked hold) there =
    let p : Pending = pending place client id moment hold in
    connected_due config p acked k a (of_own (m == k.number) k (connected config p acked (resumed k)) a there)
answers_due config place moment k a kind there = inr (other_due config place moment k a kind refl there)

no_connect : (kind : EntryKind) (rides : Option Rider) (rider : Rider) → rider_of kind rides ≡ Some rider → is_connecting kind ≡ false
no_connect kind rides rider is = grind arith

pub rider_due : (config : Config) (place moment : ℕ) (k : Kept) (a : Answered) (kind : EntryKind) (rides : Option Rider) (rider : Rider) → rider_of kind rides ≡ Some rider →
    Contains (map answered_of (step_by config place moment (resumed k) kind).answers) a → HoldsIt k.held a.place
rider_due config place moment k a kind rides rider is there = other_due config place moment k a kind (no_connect kind rides rider is) there

ridden_due : (config : Config) (place : ℕ) (k : Kept) (a : Answered) (t : Session) (rides : Option Rider) → (Contains (map answered_of t.answers) a → Due place k.held a) → Contains (map answered_of (ridden_by config place t rides).answers) a → Due place k.held a
ridden_due config place k a t None own there = own there
ridden_due config place k a t (Some rider) own there = cond_both (is_riding rider t) (ridden config place rider.reply t) t (λ (u : Session). Contains (map answered_of u.answers) a → Due place k.held a)
    (λ h there.
    ⊎_elim own (λ last. inl (sym (ap (λ (x : Answered). x.place) (only_one (answered_of (ride_filing config place rider.reply t)) a last))))
    (Contains-append_cases (map answered_of t.answers) (answered_of (ride_filing config place rider.reply t) ∷ []) a
    (subst (λ (xs : List Answered). Contains xs a) (map-append answered_of t.answers (ride_filing config place rider.reply t ∷ [])) there)))
    (λ h. own) there

-- ---- what the shard knows of these connects

pub all_contains : {X : Type 0} (P : X → Type 0) (xs : List X) (x : X) → All P xs → Contains xs x → P x
all_contains P xs x h c = subst P c.2 (h c.0 x c.1)

pub record Unanswered (place p : ℕ) (o : Option ConnectState) : Type 0 where
  pub filed : filed_with_place o ≡ None
  pub own : o ≡ None → p ≡ place

held_unanswered : (place p n : ℕ) (o : Option ConnectState) (deadline : Option ℕ) → held_until o n ≡ Some deadline → Unanswered place p o
held_unanswered place p n o deadline h = grind arith

pub holds_ends : (held : Option Pending) (p : ℕ) → HoldsIt held p → is_some (ends_for held p) ≡ true
holds_ends held p h = grind arith

due_unanswered : (s : State) (place n : ℕ) (u : Kept) (a : Answered) → IsSound s → s.place ≡ place → session_in s n ≡ Some u → Due place u.held a → Unanswered place a.place (connect_in s a.place)
due_unanswered s place n u a sound here known due =
    ⊎_elim
    (λ h. let none : connect_in s a.place ≡ None = sound.fresh a.place (omega (arith, h, here)) in record { filed = ap filed_with_place none; own = λ e. h })
    (λ h.
    let tied : held_until (connect_in s a.place) n ≡ ends_for u.held a.place = sound.tied.holds a.place n ∙ ap (λ (o : Option Kept). holds_until o a.place) known in
    by_option (λ o. is_some o ≡ true → Unanswered place a.place (connect_in s a.place)) (ends_for u.held a.place)
    (λ e f. absurd (let no : false ≡ true = f in cc)) (λ deadline e f. held_unanswered place a.place n (connect_in s a.place) deadline (tied ∙ e)) (holds_ends u.held a.place h))
    due

pub given_unanswered : (s : State) (e : Entry) (n : ℕ) (a : Answered) → IsSound s → s.place ≡ e.place → IsGiven s.setup.config (session_in s) e n a → Unanswered e.place a.place (connect_in s a.place)
given_unanswered s e n a sound here g = by (session_in s n) refl g
  where
    by : (o : Option Kept) → session_in s n ≡ o → Contains (answers_by (λ t. step s.setup.config t e) o) a → Unanswered e.place a.place (connect_in s a.place)
    by None none there = absurd (nowhere a there)
    by (Some k) known there = due_unanswered s e.place n k a sound here known
        (ridden_due s.setup.config e.place k a (step_by s.setup.config e.place e.moment (resumed k) e.kind) (rider_of e.kind e.rides) (λ h. answers_due s.setup.config e.place e.moment k a e.kind h) there)
