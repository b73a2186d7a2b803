-- A connect in two steps: it ends the earlier hold, and is then answered or held.
use Rattle.std.proofs.Common.{◌≡◌, ℕ, Option, List, ◌++◌, map, take, drop, sym, ap, ◌∙◌, arith}
use Rattle.std.proofs.lemmas.{Grind.common_steps, List.drop-map, List.take-map, List.map-append}
use Rattle.bx_advice.specs.declared.{config.Config.Config, advice.Outcome.Outcome}
use Rattle.bx_advice.specs.declared.advice.Outcome.TheVariants.{Failed}
use Rattle.bx_advice.specs.declared.error.Error.TheVariants.{SupersededConnect}
use Rattle.bx_message.specs.declared.event.Event.{Event}
use Rattle.bx_entry.specs.Words.{events_of, Kept, after, answers_of, kept, resumed}
use Rattle.bx_entry.specs.Sessions.{Filed, Pending, Publication, Session, admitted, connected, released, unheld}
use Rattle.bx_entry.proofs.Settled.{admitted_s}
use Rattle.bx_session.specs.declared.answered.Answered.{Answered}
use Rattle.bx_session.specs.Views.{answered_of}

abbrev event_in : Publication → Event
event_in p = p.event

pub part_events : (done count : ℕ) (queue given : List Publication) (rest : List Event) → rest ≡ events_of queue → take count (drop done queue) ≡ given → take count (drop done rest) ≡ events_of given
part_events done count queue given rest all part =
    ap (λ (es : List Event). take count (drop done es)) all ∙ ap (take count) (drop-map event_in done queue) ∙ take-map event_in count (drop done queue) ∙ ap events_of part

pub released_unheld : (config : Config) (place : ℕ) (outcome : Outcome) (k : Kept) → after (released config place outcome) k ≡ after unheld k
released_unheld config place outcome k = grind (arith, common_steps)

module _ (config : Config) (p : Pending) (acked : Option ℕ) (k : Kept) where
  abbrev freed : Session
  freed = released config p.place (Failed SupersededConnect) (resumed k)

  pub connected_kept : after (admitted config p acked k.overflow) (after unheld k) ≡ after (connected config p acked) k
  connected_kept =
      ap (after (admitted config p acked k.overflow)) (sym (released_unheld config p.place (Failed SupersededConnect) k))
      ∙ sym ((admitted_s config p acked k.overflow).state freed)

  pub connected_answers : (superseded own : List Answered) → superseded ≡ map answered_of (answers_of (released config p.place (Failed SupersededConnect)) k)
      → own ≡ map answered_of (answers_of (admitted config p acked k.overflow) (after unheld k))
      → superseded ++ own ≡ map answered_of (answers_of (connected config p acked) k)
  connected_answers superseded own first second =
      let rest : Kept → List Filed = answers_of (admitted config p acked k.overflow) in
      ap (λ (xs : List Answered). xs ++ own) first
      ∙ ap (λ (xs : List Answered). map answered_of freed.answers ++ xs) (second ∙ ap (λ (l : Kept). map answered_of (rest l)) (sym (released_unheld config p.place (Failed SupersededConnect) k)))
      ∙ sym (map-append answered_of freed.answers (rest (kept freed)))
      ∙ ap (map answered_of) (sym ((admitted_s config p acked k.overflow).answers freed))
