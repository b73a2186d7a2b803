-- A session that does not acknowledge sends its first `done` events, in order, each once.
use Rattle.std.proofs.Common.{◌≡◌, ℕ, ◌<◌, false, Option, List, [], ◌∷◌, ◌++◌, take, fold, ◌==◌, refl, ap, ◌∙◌, arith, append-nil}
use Rattle.std.proofs.lemmas.{Bool.cond_both, List.take-append-le, List.drop_at, Grind.common_steps, Grind.flat_map-append}
use Rattle.std.proofs.Math.Seq.{take-add}
use Rattle.bx_advice.specs.declared.config.Config.{Config}
use Rattle.bx_entry.specs.declared.entry.{Entry.Entry, EntryKind.EntryKind, Rider.Rider}
use Rattle.bx_entry.specs.declared.entry.EntryKind.TheVariants.{Connect, Publish}
use Rattle.bx_entry.specs.Sessions.{Session, Publication, Pending, Filed, answered_or_held, connected, published, step_by, step, unopened, ridden_by, rider_of}
use Rattle.bx_theory.specs.Laws.{InStep, given_in, GivenOnce}
use Rattle.bx_theory.proofs.Counts.{Freed, freed, freed_leaves, freed_in, connected_by, step_by_in, stays_in_step, unopened_in_step}

abbrev Once : Session → Type 0
Once s = s.ack ≡ false → given_in s.answers ≡ take s.done s.events

given_push : (answers : List Filed) (f : Filed) → given_in (answers ++ f ∷ []) ≡ given_in answers ++ f.publications
given_push answers f = flat_map-append (λ (g : Filed). g.publications) answers (f ∷ []) ∙ ap (λ (ps : List Publication). given_in answers ++ ps) (append-nil f.publications)

freed_o : (config : Config) (p : Pending) (acked : Option ℕ) (s : Session) → Once s → Once (freed config p acked s)
freed_o config p acked s o a = grind (arith, common_steps, given_push, append-nil, o)

answered_or_held_o : (config : Config) (p : Pending) (s : Session) → s.overflow ≡ false → InStep config s → Once s → Once (answered_or_held config p s)
answered_or_held_o config p s full i o a = grind (arith, common_steps, given_push, append-nil, take-add, o)

connected_o : (config : Config) (p : Pending) (acked : Option ℕ) (s : Session) → InStep config s → Once s → Once (connected config p acked s)
connected_o config p acked s i o =
    let f : Freed p.place s (freed config p acked s) = freed_leaves config p acked s in
    connected_by config p acked s Once (λ h a. grind (arith, common_steps, given_push, append-nil, o))
    (λ h. answered_or_held_o config p (freed config p acked s) (f.overflow ∙ h) (freed_in config p acked s i) (freed_o config p acked s o))

published_o : (config : Config) (e : Publication) (s : Session) → InStep config s → Once s → Once (published config e s)
published_o config e s i o a = grind (arith, common_steps, given_push, append-nil, take-add, take-append-le, drop_at, o)

step_by_o : (config : Config) (place moment : ℕ) (s : Session) (k : EntryKind) → InStep config s → Once s → Once (step_by config place moment s k)
step_by_o config place moment s (Connect n client id acked hold) i o =
    let p : Pending = record { place = place; client = client; id = id; moment = moment; hold = hold } in
    cond_both (n == s.number) (connected config p acked s) s Once (λ h. connected_o config p acked s i o) (λ h. o)
step_by_o config place moment s (Publish e) i o = published_o config (record { place = place; event = e }) s i o
step_by_o config place moment s _ i o = λ a. grind (arith, common_steps, given_push, append-nil, o)

ride_o : (config : Config) (place : ℕ) (s : Session) (rides : Option Rider) → InStep config s → Once s → Once (ridden_by config place s rides)
ride_o config place s rides i o a = grind (arith, common_steps, given_push, append-nil, take-add, o)

step_o : (config : Config) (s : Session) (e : Entry) → 0 < config.limits.batch → InStep config s → Once s → Once (step config s e)
step_o config s e room i o =
    let u : Session = step_by config e.place e.moment s e.kind in
    ride_o config e.place u (rider_of e.kind e.rides) (step_by_in config e.place e.moment s e.kind room i) (step_by_o config e.place e.moment s e.kind i o)

run_o : (config : Config) (s : Session) (es : List Entry) → 0 < config.limits.batch → InStep config s → Once s → Once (fold (step config) s es)
run_o config s [] room i o = o
run_o config s (e ∷ es) room i o = run_o config (step config s e) es room (stays_in_step config s e room i) (step_o config s e room i o)

pub given_once : GivenOnce
given_once config number es room = run_o config (unopened number) es room (unopened_in_step config number) (λ a. refl)
