-- A session is live from its opening to the first entry that closes it.
use Rattle.std.proofs.Common.{◌≡◌, ℕ, Bool, false, cond, not, Some, List, [], ◌∷◌, fold, ap, ◌∙◌, arith}
use Rattle.std.proofs.lemmas.Grind.{common_steps}
use Rattle.std.specs.List.{list_any}
use Rattle.bx_advice.specs.declared.config.Config.{Config}
use Rattle.bx_entry.specs.declared.entry.{Entry.Entry, EntryKind.EntryKind}
use Rattle.bx_entry.specs.declared.entry.EntryKind.TheVariants.{Connect}
use Rattle.bx_entry.specs.declared.entry.EntryKind.TheVariants as entries
use Rattle.bx_entry.specs.Sessions.{Session, Stage, Unopened, Live, Closed, is_live, stage_after, step_by, step, unopened, rider_of}
use Rattle.bx_theory.specs.Readings.{opens_by, closes_by, closes, since_opening, unclosed, LiveReading}
use Rattle.bx_theory.proofs.Keeps.{Keeps, ride_k}

pub stage_of_opening : Stage → Stage
stage_of_opening Unopened = Live
stage_of_opening Live = Live
stage_of_opening Closed = Closed

abbrev pub next_by : ℕ → Stage → EntryKind → Stage
next_by number stage k = cond (opens_by number k) (stage_of_opening stage) (cond (closes_by number k) (stage_after stage) stage)

pub record Next (s : Session) (k : EntryKind) (t : Session) : Type 0 where
  pub number : t.number ≡ s.number
  pub stage : t.stage ≡ next_by s.number s.stage k

step_by_number : (config : Config) (place moment : ℕ) (s : Session) (k : EntryKind) → (step_by config place moment s k).number ≡ s.number
step_by_number config place moment s k = let same : Some (step_by config place moment s k).number ≡ Some s.number = grind (arith, common_steps) in cc

step_by_stage : (config : Config) (place moment : ℕ) (s : Session) (k : EntryKind) → (step_by config place moment s k).stage ≡ next_by s.number s.stage k
unfolding stage_of_opening
step_by_stage config place moment s (entries.Opened n ack) = grind (arith, common_steps)
step_by_stage config place moment s (Connect n client id acked hold) = grind (arith, common_steps)
step_by_stage config place moment s _ = grind (arith, common_steps)

pub step_by_next : (config : Config) (place moment : ℕ) (s : Session) (k : EntryKind) → Next s k (step_by config place moment s k)
step_by_next config place moment s k = record { number = step_by_number config place moment s k; stage = step_by_stage config place moment s k }

pub step_next : (config : Config) (s : Session) (e : Entry) → Next s e.kind (step config s e)
step_next config s e =
    let n : Next s e.kind (step_by config e.place e.moment s e.kind) = step_by_next config e.place e.moment s e.kind in
    let k : Keeps (step_by config e.place e.moment s e.kind) (step config s e) = ride_k config e.place (step_by config e.place e.moment s e.kind) (rider_of e.kind e.rides) in
    record { number = k.number ∙ n.number; stage = k.stage ∙ n.stage }

pub step_number : (config : Config) (s : Session) (e : Entry) → (step config s e).number ≡ s.number
step_number config s e = (step_next config s e).number

pub next_opened : (stage : Stage) (opens shuts : Bool) → (stage ≡ Unopened → ⊥) → cond opens (stage_of_opening stage) (cond shuts (stage_after stage) stage) ≡ Unopened → ⊥
unfolding stage_of_opening
next_opened stage opens shuts w h = grind (arith, common_steps)

pub next_unopened : (stage : Stage) (opens shuts : Bool) → opens ≡ false → stage ≡ Unopened → cond opens (stage_of_opening stage) (cond shuts (stage_after stage) stage) ≡ Unopened
next_unopened stage opens shuts o h = grind (arith, common_steps)

abbrev reads : ℕ → Stage → List Entry → Bool
reads number Unopened es = unclosed number (since_opening number es)
reads number Live es = not (list_any (closes number) es)
reads number Closed es = false

reads_step : (number : ℕ) (stage : Stage) (e : Entry) (es : List Entry) → reads number (next_by number stage e.kind) es ≡ reads number stage (e ∷ es)
unfolding stage_of_opening
reads_step number stage e es = grind (arith, common_steps)

live_none : (number : ℕ) (stage : Stage) → is_live stage ≡ reads number stage []
live_none number stage = grind (arith, common_steps)

live_run : (config : Config) (s : Session) (es : List Entry) → is_live (fold (step config) s es).stage ≡ reads s.number s.stage es
live_run config s [] = live_none s.number s.stage
live_run config s (e ∷ es) =
    let n = step_next config s e in
    live_run config (step config s e) es
    ∙ ap (λ (m : ℕ). reads m (step config s e).stage es) n.number
    ∙ ap (λ (st : Stage). reads s.number st es) n.stage
    ∙ reads_step s.number s.stage e es

pub live_from_opening_to_first_close : LiveReading
live_from_opening_to_first_close config number es = live_run config (unopened number) es
