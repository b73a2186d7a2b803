-- The queue, the batch and the counts of a session always agree.
--
-- In the files about one session, `grind` splits a claim about an entry by the kind of the entry. A
-- connect has too many cases, so it is split first (`connected_by`).
use Rattle.std.proofs.Common.{◌≡◌, ℕ, ◌<◌, ◌≤◌, true, false, Option, Some, None, List, [], ◌∷◌, ◌++◌, length, drop, fold, ◌==◌, refl, ◌∙◌, arith}
use Rattle.std.proofs.lemmas.{Bool.cond_both, Grind.common_steps}
use Rattle.std.proofs.Math.Seq.{drop-append_seam}
use Rattle.bx_advice.specs.declared.{config.Config.Config, advice.Outcome.Outcome, advice.Outcome.TheVariants.Failed, error.Error.TheVariants.SupersededConnect, error.Error.TheVariants.QueueOverflow}
use Rattle.bx_names.specs.Words.{Glob, without_pattern}
use Rattle.bx_entry.specs.declared.entry.{Entry.Entry, EntryKind.EntryKind, Rider.Rider}
use Rattle.bx_entry.specs.declared.entry.EntryKind.TheVariants.{Connect, Subscribe, Unsubscribe, Publish}
use Rattle.bx_entry.specs.Sessions.{Session, Publication, Pending, Filed, answered, released, acknowledged, answered_or_held, connected, published, step_by, step, unopened, ridden, is_riding, ridden_by, rider_of}
use Rattle.bx_theory.specs.Laws.{InStep, CountsAgree, Each}

-- ---- Connects

pub released_in : (config : Config) (place : ℕ) (outcome : Outcome) (s : Session) → InStep config s → InStep config (released config place outcome s)
released_in config place outcome s i = grind (arith, common_steps)

acknowledged_in : (config : Config) (acked : Option ℕ) (s : Session) → InStep config s → InStep config (acknowledged acked s)
acknowledged_in config acked s i = grind (arith, common_steps)

answered_or_held_in : (config : Config) (p : Pending) (s : Session) → 0 < config.limits.batch → s.overflow ≡ false → s.held ≡ None → InStep config s → InStep config (answered_or_held config p s)
answered_or_held_in config p s room full free i = grind (arith, common_steps)

abbrev pub freed : Config → Pending → Option ℕ → Session → Session
freed config p acked s = acknowledged acked (released config p.place (Failed SupersededConnect) s)

abbrev pub behind : Session → Session → List Filed
behind s t = drop (length s.answers) t.answers

abbrev pub Empty : ℕ → List Filed → Type 0
Empty place fs = Each (λ f. (f.place ≡ place) × (f.publications ≡ [])) fs

pub record Quiet (place : ℕ) (s t : Session) : Type 0 where
  pub done : s.done ≤ t.done
  pub answers : t.answers ≡ s.answers ++ behind s t
  pub empty : Empty place (behind s t)

pub record Freed (place : ℕ) (s u : Session) : Type 0 where
  pub overflow : u.overflow ≡ s.overflow
  pub held : u.held ≡ None
  pub num : u.num ≡ s.num
  pub still : 0 < u.out → (u.out ≡ s.out) × (u.done ≡ s.done)
  pub quiet : Quiet place s u

pub freed_leaves : (config : Config) (p : Pending) (acked : Option ℕ) (s : Session) → Freed p.place s (freed config p acked s)
freed_leaves config p acked s = grind (arith, common_steps, drop-append_seam)

pub freed_in : (config : Config) (p : Pending) (acked : Option ℕ) (s : Session) → InStep config s → InStep config (freed config p acked s)
freed_in config p acked s i = let free : Session = released config p.place (Failed SupersededConnect) s in acknowledged_in config acked free (released_in config p.place (Failed SupersededConnect) s i)

pub connected_by : (config : Config) (p : Pending) (acked : Option ℕ) (s : Session) (P : Session → Type 0) →
    (s.overflow ≡ true → P (answered config p p.place [] (Failed QueueOverflow) (released config p.place (Failed SupersededConnect) s))) →
    (s.overflow ≡ false → P (answered_or_held config p (freed config p acked s))) → P (connected config p acked s)
connected_by config p acked s P = cond_both s.overflow (answered config p p.place [] (Failed QueueOverflow) (released config p.place (Failed SupersededConnect) s)) (answered_or_held config p (freed config p acked s)) P

connected_in : (config : Config) (p : Pending) (acked : Option ℕ) (s : Session) → 0 < config.limits.batch → InStep config s → InStep config (connected config p acked s)
connected_in config p acked s room i =
    let f : Freed p.place s (freed config p acked s) = freed_leaves config p acked s in
    connected_by config p acked s (InStep config) (λ h. grind (arith, common_steps))
    (λ h. answered_or_held_in config p (freed config p acked s) room (f.overflow ∙ h) f.held (freed_in config p acked s i))

-- ---- Entries

none_left : (ps : List Glob) → fold without_pattern [] ps ≡ []
none_left [] = refl
none_left (p ∷ ps) = none_left ps

published_in : (config : Config) (e : Publication) (s : Session) → 0 < config.limits.batch → InStep config s → InStep config (published config e s)
published_in config e s room i = grind (arith, common_steps)

pub step_by_in : (config : Config) (place moment : ℕ) (s : Session) (k : EntryKind) → 0 < config.limits.batch → InStep config s → InStep config (step_by config place moment s k)
step_by_in config place moment s (Connect n client id acked hold) room i =
    let p : Pending = record { place = place; client = client; id = id; moment = moment; hold = hold } in
    cond_both (n == s.number) (connected config p acked s) s (InStep config) (λ h. connected_in config p acked s room i) (λ h. i)
step_by_in config place moment s (Publish e) room i = published_in config (record { place = place; event = e }) s room i
step_by_in config place moment s _ room i = grind (arith, common_steps, none_left)

-- ---- Riders

pub ride_both : (config : Config) (place : ℕ) (s : Session) (rides : Option Rider) (P : Session → Type 0) → P s → ((rider : Rider) → is_riding rider s ≡ true → P (ridden config place rider.reply s)) → P (ridden_by config place s rides)
ride_both config place s None P same rides = same
ride_both config place s (Some rider) P same rides = cond_both (is_riding rider s) (ridden config place rider.reply s) s P (λ h. rides rider h) (λ h. same)

pub rider_of_both : (k : EntryKind) (rides : Option Rider) (P : Option Rider → Type 0) → P None → P rides → P (rider_of k rides)
rider_of_both (Subscribe n ps) rides P none some = some
rider_of_both (Unsubscribe n ps) rides P none some = some
rider_of_both (Publish e) rides P none some = some
rider_of_both _ rides P none some = none

ride_in : (config : Config) (place : ℕ) (s : Session) (rides : Option Rider) → InStep config s → InStep config (ridden_by config place s rides)
ride_in config place s rides i = grind (arith, common_steps)

-- ---- Lists of entries

pub stays_in_step : (config : Config) (s : Session) (e : Entry) → 0 < config.limits.batch → InStep config s → InStep config (step config s e)
stays_in_step config s e room i = ride_in config e.place (step_by config e.place e.moment s e.kind) (rider_of e.kind e.rides) (step_by_in config e.place e.moment s e.kind room i)

pub all_in_step : (config : Config) (s : Session) (es : List Entry) → 0 < config.limits.batch → InStep config s → InStep config (fold (step config) s es)
all_in_step config s [] room i = i
all_in_step config s (e ∷ es) room i = all_in_step config (step config s e) es room (stays_in_step config s e room i)

pub unopened_in_step : (config : Config) (number : ℕ) → InStep config (unopened number)
unopened_in_step config number = grind (arith, common_steps)

pub queue_batch_and_counts_agree : CountsAgree
queue_batch_and_counts_agree config number es room = all_in_step config (unopened number) es room (unopened_in_step config number)
