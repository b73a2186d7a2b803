-- What is kept of a session determines what is kept after an entry, and the answers that it adds.
use Rattle.std.proofs.Common.{◌≡◌, ℕ, Bool, true, false, cond, Option, List, ◌++◌, ◌==◌, refl, sym, ap, ◌∙◌, append-nil, append_assoc, arith}
use Rattle.std.proofs.lemmas.Grind.{common_steps}
use Rattle.bx_advice.specs.declared.{config.Config.Config, advice.Outcome.Outcome, advice.Outcome.TheVariants.Failed, error.Error.TheVariants.SupersededConnect}
use Rattle.bx_entry.specs.declared.entry.{Entry.Entry, EntryKind.EntryKind, Rider.Rider}
use Rattle.bx_entry.specs.declared.entry.EntryKind.TheVariants.{Connect}
use Rattle.bx_entry.specs.Words.{Session, Pending, Filed, released, admitted, connected, step_by, ridden_by, rider_of, step, Kept, kept, resumed}

pub record Settled (f : Session → Session) : Type 0 where
  pub state : (s : Session) → kept (f s) ≡ kept (f (resumed (kept s)))
  pub answers : (s : Session) → (f s).answers ≡ s.answers ++ (f (resumed (kept s))).answers

in_turn : (f : Session → Session) (g : Bool → Session → Session) → Settled f → ((overflow : Bool) → Settled (g overflow)) → Settled (λ s. g s.overflow (f s))
in_turn f g a b = record {
  state = λ s. (b s.overflow).state (f s) ∙ ap (λ (k : Kept). kept (g s.overflow (resumed k))) (a.state s) ∙ sym ((b s.overflow).state (f (resumed (kept s))));
  answers = λ s. let r : Session = f (resumed (kept s)) in
      (b s.overflow).answers (f s)
      ∙ ap (λ (fs : List Filed). fs ++ (g s.overflow (resumed (kept (f s)))).answers) (a.answers s)
      ∙ append_assoc s.answers r.answers (g s.overflow (resumed (kept (f s)))).answers
      ∙ ap (λ (k : Kept). s.answers ++ (r.answers ++ (g s.overflow (resumed k)).answers)) (a.state s)
      ∙ ap (λ (fs : List Filed). s.answers ++ fs) (sym ((b s.overflow).answers r));
}

-- ---- Connects

released_s : (config : Config) (place : ℕ) (outcome : Outcome) → Settled (released config place outcome)
released_s config place outcome = record { state = λ s. grind (arith, common_steps); answers = λ s. grind (arith, common_steps) }

pub admitted_s : (config : Config) (p : Pending) (acked : Option ℕ) (overflow : Bool) → Settled (admitted config p acked overflow)
admitted_s config p acked overflow = record { state = λ s. grind (arith, common_steps); answers = λ s. grind (arith, common_steps) }

connected_s : (config : Config) (p : Pending) (acked : Option ℕ) → Settled (connected config p acked)
connected_s config p acked =
    let a : Settled (λ s. admitted config p acked s.overflow (released config p.place (Failed SupersededConnect) s)) =
    in_turn (released config p.place (Failed SupersededConnect)) (admitted config p acked) (released_s config p.place (Failed SupersededConnect)) (admitted_s config p acked) in
    record { state = a.state; answers = a.answers }

-- ---- Entries

step_by_s : (config : Config) (place moment : ℕ) (k : EntryKind) → Settled (λ s. step_by config place moment s k)
step_by_s config place moment (Connect n client id acked hold) =
    let p : Pending = record { place = place; client = client; id = id; moment = moment; hold = hold } in
    let c : Settled (connected config p acked) = connected_s config p acked in
    record {
      state = λ s. let r : Session = resumed (kept s) in
          elim (n == s.number) as (λ b. kept (cond b (connected config p acked s) s) ≡ kept (cond b (connected config p acked r) r)) [ true ↦ c.state s | false ↦ refl ];
      answers = λ s. let r : Session = resumed (kept s) in
          elim (n == s.number) as (λ b. (cond b (connected config p acked s) s).answers ≡ s.answers ++ (cond b (connected config p acked r) r).answers) [ true ↦ c.answers s | false ↦ sym (append-nil s.answers) ];
    }
step_by_s config place moment k = record { state = λ s. grind (arith, common_steps); answers = λ s. grind (arith, common_steps) }

ridden_by_s : (config : Config) (place : ℕ) (rides : Option Rider) → Settled (λ s. ridden_by config place s rides)
ridden_by_s config place rides = record { state = λ s. grind (arith, common_steps); answers = λ s. grind (arith, common_steps) }

pub step_s : (config : Config) (e : Entry) → Settled (λ s. step config s e)
step_s config e =
    let rides : Option Rider = rider_of e.kind e.rides in
    in_turn (λ s. step_by config e.place e.moment s e.kind) (λ overflow s. ridden_by config e.place s rides) (step_by_s config e.place e.moment e.kind) (λ overflow. ridden_by_s config e.place rides)
