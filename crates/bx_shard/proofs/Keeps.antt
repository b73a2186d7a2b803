-- A connect keeps its session when answers are filed or dropped.
use Rattle.std.proofs.Common.{arith, Contains, ◌≡◌, ◌≢◌, ℕ, Bool, cond, Option, Some, option_map, List, [], ◌∷◌, refl, ap, ◌∙◌}
use Rattle.std.proofs.lemmas.{Bool.ne_eqb, List.Elements.Contains-append_left, List.Elements.Contains-append_right}
use Rattle.bx_message.specs.declared.reply.Answer.{Answer}
use Rattle.futures.specs.declared.task.waker.Waker.{Waker}
use Rattle.bx_session.specs.declared.answered.Answered.{Answered}
use Rattle.bx_connects.specs.declared.connects.ConnectState.{ConnectState}
use Rattle.bx_connects.specs.declared.connects.ConnectState.TheVariants.{Filed}
use Rattle.bx_connects.specs.Connects.{filed_as, filing, session_at, unwatched, with_waker}
use Rattle.bx_shard.specs.Words.{filing_each, held_until, dropped_by}
use Rattle.bx_shard.proofs.Singles.{the_one}

pub filing_session : (place : ℕ) (o : Option Answered) (C : ℕ → Option ConnectState) (p : ℕ) → session_at (filing place o C p) ≡ session_at (C p)
filing_session place o C p = grind arith

pub filing_each_session : (place : ℕ) (answers : List Answered) (C : ℕ → Option ConnectState) (p : ℕ) → session_at (filing_each place answers C p) ≡ session_at (C p)
filing_each_session place [] C p = refl
filing_each_session place (a ∷ rest) C p = filing_each_session place rest (filing place (Some a) C) p ∙ filing_session place (Some a) C p

abbrev pub AreElsewhere : ℕ → List Answered → Type 0
AreElsewhere p answers = (a : Answered) → Contains answers a → a.place ≢ p

pub unfiled : (place : ℕ) (answers : List Answered) (C : ℕ → Option ConnectState) (p : ℕ) → AreElsewhere p answers → filing_each place answers C p ≡ C p
unfiled place [] C p never = refl
unfiled place (a ∷ rest) C p never =
    unfiled place rest (filing place (Some a) C) p (λ b there. never b (Contains-append_right (a ∷ []) rest b there))
    ∙ ap (λ b. cond b (filed_as place a.answer (C a.place)) (C p)) (ne_eqb a.place p (never a (Contains-append_left (a ∷ []) rest a (the_one a))))

pub dropped_by_session : (numbers : List ℕ) (o : Option ConnectState) (m : ℕ) → session_at (dropped_by numbers o) ≡ Some m → session_at o ≡ Some m
dropped_by_session numbers o m h = grind arith

pub held_session : (o : Option ConnectState) (n : ℕ) (deadline : Option ℕ) → held_until o n ≡ Some deadline → session_at o ≡ Some n
held_session o n deadline h = grind arith

pub filed_known : (place n : ℕ) (answer : Answer) (o : Option ConnectState) → session_at o ≡ Some n → filed_as place answer o ≡ Some (Filed n place answer)
filed_known place n answer o h = grind arith

pub watched_session : (shut : Bool) (waker : Waker) (o : Option ConnectState) → session_at (with_waker shut waker o) ≡ session_at o
watched_session shut waker o = grind arith

pub unwatched_session : (o : Option ConnectState) → session_at (option_map unwatched o) ≡ session_at o
unwatched_session o = grind arith
