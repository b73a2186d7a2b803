-- Each answer of a session is to one of its connects or riders.
use Rattle.std.proofs.Common.{◌≡◌, refl, false, sym, ◌∙◌, true, ◌≤◌, ℕ, ◌+◌, ◌<◌, Bool, cond, Option, Some, None, List, [], ◌∷◌, ◌++◌, length, fold, ◌==◌, subst, arith}
use Rattle.std.proofs.lemmas.{Bool.cond_both, Grind.common_steps}
use Rattle.bx_advice.specs.declared.{config.Config.Config, advice.Outcome.Outcome, advice.Outcome.TheVariants.Failed, error.Error.TheVariants.SupersededConnect, error.Error.TheVariants.QueueOverflow}
use Rattle.bx_entry.specs.declared.entry.{Entry.Entry, EntryKind.EntryKind, Rider.Rider}
use Rattle.bx_entry.specs.declared.entry.EntryKind.TheVariants.{Connect}
use Rattle.bx_entry.specs.Sessions.{Session, Pending, answered, released, acknowledged, answered_or_held, connected, step_by, step, unopened, ridden_by, rider_of, Filed}
use Rattle.bx_theory.specs.Laws.{Each, PlacesFrom}
use Rattle.bx_theory.proofs.{Counts.rider_of_both, Moves.each_append, Runs.EachEntry, Stages.step_number, Stages.step_by_next}

abbrev HeldOnly : (ℕ → Type 0) → Option Pending → Type 0
HeldOnly P None = Unit {0}
HeldOnly P (Some p) = P p.place

pub record Only (P : ℕ → Type 0) (s : Session) : Type 0 where
  pub held : HeldOnly P s.held
  pub answers : Each (λ f. P f.connect) s.answers

one_answer : (P : ℕ → Type 0) (fs : List Filed) (f : Filed) → Each (λ g. P g.connect) fs → P f.connect → Each (λ g. P g.connect) (fs ++ f ∷ [])
one_answer P fs f d h = each_append (λ g. P g.connect) fs (f ∷ []) d (h, tt)

abbrev pub Allowed : (ℕ → Type 0) → ℕ → ℕ → EntryKind → Type 0
Allowed P number place (Connect n client id acked hold) = (n == number) ≡ true → P place
Allowed P number place _ = Unit {0}

released_b : (P : ℕ → Type 0) (config : Config) (place : ℕ) (outcome : Outcome) (s : Session) → Only P s → Only P (released config place outcome s)
released_b P config place outcome s b = record { held = grind (arith, common_steps); answers = grind (arith, common_steps, one_answer) }

freed_b : (P : ℕ → Type 0) (config : Config) (p : Pending) (acked : Option ℕ) (s t : Session) → P p.place → Only P t →
    Only P (cond s.overflow (answered config p p.place [] (Failed QueueOverflow) t) (answered_or_held config p (acknowledged acked t)))
freed_b P config p acked s t h b = record { held = grind (arith, common_steps); answers = grind (arith, common_steps, one_answer) }

abbrev pub is_connecting : EntryKind → Bool
is_connecting (Connect n client id acked hold) = true
is_connecting _ = false

other_b : (P : ℕ → Type 0) (config : Config) (place moment : ℕ) (s : Session) (k : EntryKind) → is_connecting k ≡ false → Only P s → Only P (step_by config place moment s k)
other_b P config place moment s k other b = record { held = grind (arith, common_steps); answers = grind (arith, common_steps, one_answer) }

step_by_b : (P : ℕ → Type 0) (config : Config) (place moment : ℕ) (s : Session) (k : EntryKind) → Allowed P s.number place k → Only P s → Only P (step_by config place moment s k)
step_by_b P config place moment s (Connect m client id acked hold) l b =
    let p : Pending = record { place = place; client = client; id = id; moment = moment; hold = hold } in
    cond_both (m == s.number) (connected config p acked s) s (Only P) (λ h. freed_b P config p acked s (released config place (Failed SupersededConnect) s) (l h) (released_b P config place (Failed SupersededConnect) s b)) (λ h. b)
step_by_b P config place moment s k l b = other_b P config place moment s k refl b

abbrev pub AllowedRide : (ℕ → Type 0) → ℕ → ℕ → Option Rider → Type 0
AllowedRide P number place None = Unit {0}
AllowedRide P number place (Some rider) = (rider.session == number) ≡ true → P place

ride_b : (P : ℕ → Type 0) (config : Config) (place : ℕ) (s : Session) (rides : Option Rider) → AllowedRide P s.number place rides → Only P s → Only P (ridden_by config place s rides)
ride_b P config place s rides l b = record { held = grind (arith, common_steps); answers = grind (arith, common_steps, one_answer) }

pub run_only : (config : Config) (P : ℕ → Type 0) (number : ℕ) (s : Session) (es : List Entry) → s.number ≡ number → EachEntry (λ e. Allowed P number e.place e.kind × AllowedRide P number e.place e.rides) es → Only P s → Only P (fold (step config) s es)
run_only config P number s [] h d b = b
run_only config P number s (e ∷ es) h d b =
    run_only config P number (step config s e) es (step_number config s e ∙ h) d.1
    (ride_b P config e.place (step_by config e.place e.moment s e.kind) (rider_of e.kind e.rides)
    (subst (λ (n : ℕ). AllowedRide P n e.place (rider_of e.kind e.rides)) (sym ((step_by_next config e.place e.moment s e.kind).number ∙ h)) (rider_of_both e.kind e.rides (AllowedRide P number e.place) tt d.0.1))
    (step_by_b P config e.place e.moment s e.kind (subst (λ (n : ℕ). Allowed P n e.place e.kind) (sym h) d.0.0) b))

pub only_unopened : (P : ℕ → Type 0) (number : ℕ) → Only P (unopened number)
only_unopened P number = record { held = tt; answers = tt }

below_allowed : (bound number place : ℕ) (k : EntryKind) → place < bound → Allowed (λ n. n < bound) number place k
below_allowed bound number place (Connect n client id acked hold) h = λ e. h
below_allowed bound number place _ h = tt

below_rides : (bound number place : ℕ) (rides : Option Rider) → place < bound → AllowedRide (λ n. n < bound) number place rides
below_rides bound number place None h = tt
below_rides bound number place (Some rider) h = λ e. h

pub all_allowed : (bound number n : ℕ) (es : List Entry) → n + length es ≤ bound → PlacesFrom n es → EachEntry (λ e. Allowed (λ k. k < bound) number e.place e.kind × AllowedRide (λ k. k < bound) number e.place e.rides) es
all_allowed bound number n [] h d = tt
all_allowed bound number n (e ∷ es) h d = ((below_allowed bound number e.place e.kind (omega (arith, h, d.0)), below_rides bound number e.place e.rides (omega (arith, h, d.0))), all_allowed bound number (n + 1) es (omega (arith, h)) d.1)
