-- A taken answer is the list's, and repeats no permanently sent event.
use Rattle.std.proofs.Common.{◌≡◌, ℕ, ⊎_elim, Option, Some, None, List, [], ◌∷◌, option_map, refl, sym, ap, ◌∙◌, arith, append-nil}
use Rattle.bx_advice.specs.declared.config.Config.{Config}
use Rattle.bx_message.specs.declared.reply.Answer.{Answer}
use Rattle.bx_entry.specs.Words.{Listed, PlacedAnswer, answer}
use Rattle.bx_entry.specs.declared.entry.Ticket.{Ticket}
use Rattle.bx_theory.specs.Fronts as fronts
use Rattle.bx_theory.specs.Fronts.{WasGiven}
use Rattle.bx_theory.proofs.Fronts.{acknowledged_events_are_not_given_again}
use Rattle.bx_shard.specs.Refining.{given_of}
use Rattle.bx_world.specs.Words.{EachTook, Gave, GaveIn, NoneGivenAgain}
use Rattle.bx_world.specs.declared.step.{Step.Step, StepOut.StepOut}
use Rattle.bx_world.specs.declared.step.Step.TheVariants.{Take}
use Rattle.bx_world.specs.declared.step.StepOut.TheVariants.{Taken}
use Rattle.bx_world.proofs.Takes.{taken_answers_match_one_thread}

-- ---- taken answers are the list's

gave_in : (config : Config) (list : List Listed) (t : Ticket) (place : ℕ) (a : Answer) (out : StepOut) → t.place ≡ place → EachTook config list (Take t ∷ []) (out ∷ []) → GaveIn a out → option_map given_of (answer config list place) ≡ Some a
gave_in config list t place a (Taken (Some b)) h d g = sym (ap (λ (n : ℕ). option_map given_of (answer config list n)) h) ∙ d.0 ∙ ap Some g
gave_in config list t place a _ h d g = absurd g

pub gave_answer : (config : Config) (list : List Listed) (steps : List Step) (outs : List StepOut) (place : ℕ) (a : Answer) → EachTook config list steps outs → Gave steps outs place a → option_map given_of (answer config list place) ≡ Some a
gave_answer config list [] outs place a d g = absurd g
gave_answer config list (step ∷ steps) [] place a d g = absurd g
gave_answer config list (Take t ∷ steps) (out ∷ outs) place a d g = ⊎_elim (λ h. gave_in config list t place a out h.0 (d.0, tt) h.1) (λ h. gave_answer config list steps outs place a d.1 h) g
gave_answer config list (_ ∷ steps) (out ∷ outs) place a d g = ⊎_elim (λ h. absurd h) (λ h. gave_answer config list steps outs place a d.1 h) g

-- ---- the answer with its place

pub record GivenAs (config : Config) (list : List Listed) (place : ℕ) (a : Answer) : Type 0 where
  pub placed : PlacedAnswer
  pub is : given_of placed ≡ a
  pub given : WasGiven config list place placed

given_as : (config : Config) (list : List Listed) (place : ℕ) (a : Answer) (o : Option PlacedAnswer) → answer config list place ≡ o → option_map given_of o ≡ Some a → GivenAs config list place a
given_as config list place a None h e = cc
given_as config list place a (Some b) h e = record {
  placed = b;
  is = (let s : given_of b ≡ a = cc in s);
  given = record { front = list; begins = ([], append-nil list); answered = h };
}

pub gave_as : (config : Config) (list : List Listed) (steps : List Step) (outs : List StepOut) (place : ℕ) (a : Answer) → EachTook config list steps outs → Gave steps outs place a → GivenAs config list place a
gave_as config list steps outs place a d g = given_as config list place a (answer config list place) refl (gave_answer config list steps outs place a d g)

-- ---- the law

pub no_event_given_again : NoneGivenAgain
no_event_given_again setup first steps outs last room r number place a w g =
    let x : GivenAs setup.config last.list place a = gave_as setup.config last.list steps outs place a (taken_answers_match_one_thread setup first steps outs last room r) g in
    let t : fronts.GivenLater setup.config last.list number place x.placed = acknowledged_events_are_not_given_again setup.config last.list number place x.placed room w x.given in
    let at : x.placed.place ≡ t.filed.place = ap (λ (b : PlacedAnswer). b.place) t.filed_is.is in
    record {
      filed = t.filed;
      found = t.filed_is.found;
      given = sym x.is ∙ ap given_of t.filed_is.is;
      later = λ n l. t.later n (omega (arith, l, at));
    }
