-- Each answer has the place of the entry that gives it.
use Rattle.std.proofs.Common.{◌≡◌, ℕ, Bool, Option, List, [], ◌∷◌, ◌++◌, map, ◌==◌, refl, sym, ap, ◌∙◌, arith}
use Rattle.std.proofs.lemmas.{Bool.cond_both, Grind.common_steps, List.map-append}
use Rattle.bx_advice.specs.declared.{config.Config.Config, advice.Outcome.Outcome}
use Rattle.bx_advice.specs.declared.advice.Outcome.TheVariants.{Failed}
use Rattle.bx_advice.specs.declared.error.Error.TheVariants.{SupersededConnect}
use Rattle.bx_entry.specs.declared.entry.{Entry.Entry, EntryKind.EntryKind, Rider.Rider}
use Rattle.bx_entry.specs.declared.entry.EntryKind.TheVariants.{Connect, Publish}
use Rattle.bx_entry.specs.Words.{PlacedAnswer, events_of, Kept, resumed, kept_answers}
use Rattle.bx_entry.specs.Sessions.{Session, Publication, Pending, Filed, released, admitted, connected, published, step_by, ridden_by, rider_of}
use Rattle.bx_session.specs.Views.{answered_of}
use Rattle.bx_session.specs.Filing.{filed_as, filed_at}

abbrev Here : ℕ → List Filed → Type 0
Here place fs = map filed_as fs ≡ map (filed_at place) (map answered_of fs)

abbrev HereIn : ℕ → Session → Type 0
HereIn place t = Here place t.answers

pushed : (place : ℕ) (fs : List Filed) (f : Filed) → f.place ≡ place → Here place fs → Here place (fs ++ f ∷ [])
pushed place fs f e h =
    map-append filed_as fs (f ∷ [])
    ∙ ap (λ (xs : List (ℕ × PlacedAnswer)). xs ++ filed_as f ∷ []) h
    ∙ ap (λ (p : ℕ). map (filed_at place) (map answered_of fs) ++ (f.connect, record { place = p; events = events_of f.publications; reply = f.reply }) ∷ []) e
    ∙ sym (map-append (filed_at place) (map answered_of fs) (answered_of f ∷ []))
    ∙ ap (map (filed_at place)) (sym (map-append answered_of fs (f ∷ [])))

released_h : (config : Config) (place : ℕ) (outcome : Outcome) (t : Session) → HereIn place t → HereIn place (released config place outcome t)
released_h config place outcome t h = grind (arith, common_steps, pushed)

admitted_h : (config : Config) (p : Pending) (acked : Option ℕ) (overflow : Bool) (t : Session) → HereIn p.place t → HereIn p.place (admitted config p acked overflow t)
admitted_h config p acked overflow t h = grind (arith, common_steps, pushed)

connected_h : (config : Config) (p : Pending) (acked : Option ℕ) (t : Session) → HereIn p.place t → HereIn p.place (connected config p acked t)
connected_h config p acked t h =
    admitted_h config p acked t.overflow (released config p.place (Failed SupersededConnect) t) (released_h config p.place (Failed SupersededConnect) t h)

published_h : (config : Config) (e : Publication) (t : Session) → HereIn e.place t → HereIn e.place (published config e t)
published_h config e t h = grind (arith, common_steps, pushed)

step_h : (config : Config) (place moment : ℕ) (t : Session) (kind : EntryKind) → HereIn place t → HereIn place (step_by config place moment t kind)
step_h config place moment t (Connect n client id acked hold) h =
    let p : Pending = record { place = place; client = client; id = id; moment = moment; hold = hold } in
    cond_both (n == t.number) (connected config p acked t) t (HereIn place) (λ g. connected_h config p acked t h) (λ g. h)
step_h config place moment t (Publish e) h = published_h config (record { place = place; event = e }) t h
step_h config place moment t _ h = grind (arith, common_steps, pushed)

ridden_h : (config : Config) (place : ℕ) (rides : Option Rider) (t : Session) → HereIn place t → HereIn place (ridden_by config place t rides)
ridden_h config place rides t h = grind (arith, common_steps, pushed)

pub answer_has_place_of_its_entry : (config : Config) (k : Kept) (e : Entry) → map filed_as (kept_answers config k e) ≡ map (filed_at e.place) (map answered_of (kept_answers config k e))
answer_has_place_of_its_entry config k e = ridden_h config e.place (rider_of e.kind e.rides) (step_by config e.place e.moment (resumed k) e.kind) (step_h config e.place e.moment (resumed k) e.kind refl)
