-- What connects, deliveries and ticks do not change in a session, and the bounds of its queue.
use Rattle.std.proofs.Common.{◌≡◌, ℕ, ◌≤◌, Bool, true, false, ◌||◌, Option, List, [], ◌∷◌, ◌++◌, ◌==◌, length, fold, refl, ap, ◌∙◌, arith, append_assoc}
use Rattle.std.proofs.lemmas.{Bool.cond_both, Grind.common_steps, List.length-append}
use Rattle.std.proofs.Math.Seq.{drop-append_seam}
use Rattle.bx_history.proofs.Tests.{or_assoc}
use Rattle.bx_advice.specs.declared.{config.Config.Config, advice.Outcome.Outcome, advice.Outcome.TheVariants.Failed, error.Error.TheVariants.SupersededConnect}
use Rattle.bx_names.specs.Globs.{Glob}
use Rattle.bx_entry.specs.declared.entry.{Entry.Entry, EntryKind.EntryKind, Rider.Rider}
use Rattle.bx_entry.specs.declared.entry.EntryKind.TheVariants.{Connect, Publish}
use Rattle.bx_entry.specs.Windows.{bytes_of}
use Rattle.bx_entry.proofs.Rooms.{bytes_of_none, bytes_of_push, bytes_of_drop, bytes_of_rest, room_count, room_bytes}
use Rattle.bx_entry.specs.Sessions.{Session, Publication, Pending, Filed, Stage, released_from, released, connected, is_hit, has_room, received, overflowed, with_event, delivered, delivered_to, expired_from, step_by, step, unopened, ridden_by, rider_of, window_in}
use Rattle.bx_theory.proofs.Counts.{behind}
use Rattle.bx_theory.specs.Readings.{Bounded, overfills_by, some_overfills, OverflowReading, QueueBounded}

record Lasting : Type 0 where
  number : ℕ
  stage : Stage
  ack : Bool
  overflow : Bool
  patterns : List Glob
  events : List Publication

abbrev lasting : Session → Lasting
lasting s = record { number = s.number; stage = s.stage; ack = s.ack; overflow = s.overflow; patterns = s.patterns; events = s.events }

pub record Keeps (s t : Session) : Type 0 where
  pub number : t.number ≡ s.number
  pub stage : t.stage ≡ s.stage
  pub ack : t.ack ≡ s.ack
  pub overflow : t.overflow ≡ s.overflow
  pub patterns : t.patterns ≡ s.patterns
  pub events : t.events ≡ s.events
  pub shorter : length t.queue ≤ length s.queue
  pub lighter : bytes_of t.queue ≤ bytes_of s.queue
  pub more : List Filed
  pub answers : t.answers ≡ s.answers ++ more

keeps : (s t : Session) → lasting t ≡ lasting s → length t.queue ≤ length s.queue → bytes_of t.queue ≤ bytes_of s.queue → t.answers ≡ s.answers ++ behind s t → Keeps s t
keeps s t same shorter lighter answers = record {
  number = ap (λ (l : Lasting). l.number) same;
  stage = ap (λ (l : Lasting). l.stage) same;
  ack = ap (λ (l : Lasting). l.ack) same;
  overflow = ap (λ (l : Lasting). l.overflow) same;
  patterns = ap (λ (l : Lasting). l.patterns) same;
  events = ap (λ (l : Lasting). l.events) same;
  shorter = shorter;
  lighter = lighter;
  more = behind s t;
  answers = answers;
}

keeps_after : (s t u : Session) → Keeps s t → Keeps t u → Keeps s u
keeps_after s t u k l = record {
  number = l.number ∙ k.number;
  stage = l.stage ∙ k.stage;
  ack = l.ack ∙ k.ack;
  overflow = l.overflow ∙ k.overflow;
  patterns = l.patterns ∙ k.patterns;
  events = l.events ∙ k.events;
  shorter = omega (arith, k.shorter, l.shorter);
  lighter = omega (arith, k.lighter, l.lighter);
  more = k.more ++ l.more;
  answers = l.answers ∙ ap (λ (fs : List Filed). fs ++ l.more) k.answers ∙ append_assoc s.answers k.more l.more;
}

pub released_from_k : (config : Config) (place : ℕ) (outcome : Outcome) (s : Session) (held : Option Pending) → Keeps s (released_from config place outcome s held)
released_from_k config place outcome s held = keeps s _ (grind (arith, common_steps)) (grind (arith, common_steps)) (grind (arith, common_steps, bytes_of_none, bytes_of_drop)) (grind (arith, common_steps, drop-append_seam))

pub freed_k : (config : Config) (p : Pending) (acked : Option ℕ) (s : Session) → Keeps (released config p.place (Failed SupersededConnect) s) (connected config p acked s)
freed_k config p acked s = keeps _ _ (grind (arith, common_steps)) (grind (arith, common_steps)) (grind (arith, common_steps, bytes_of_none, bytes_of_drop)) (grind (arith, common_steps, drop-append_seam))

pub connected_k : (config : Config) (p : Pending) (acked : Option ℕ) (s : Session) → Keeps s (connected config p acked s)
connected_k config p acked s = keeps_after s (released config p.place (Failed SupersededConnect) s) _ (released_from_k config p.place (Failed SupersededConnect) s s.held) (freed_k config p acked s)

pub delivered_to_k : (config : Config) (e : Publication) (s : Session) (held : Option Pending) → Keeps s (delivered_to config e s held)
delivered_to_k config e s held = keeps s _ (grind (arith, common_steps)) (grind (arith, common_steps)) (grind (arith, common_steps, bytes_of_rest)) (grind (arith, common_steps, drop-append_seam))

pub expired_from_k : (config : Config) (place moment : ℕ) (s : Session) (held : Option Pending) → Keeps s (expired_from config place moment s held)
expired_from_k config place moment s held = keeps s _ (grind (arith, common_steps)) (grind (arith, common_steps)) (grind (arith, common_steps, bytes_of_none, bytes_of_drop)) (grind (arith, common_steps, drop-append_seam))

pub ride_k : (config : Config) (place : ℕ) (s : Session) (rides : Option Rider) → Keeps s (ridden_by config place s rides)
ride_k config place s rides = keeps s _ (grind (arith, common_steps)) (grind (arith, common_steps)) (grind (arith, common_steps, bytes_of_none, bytes_of_drop)) (grind (arith, common_steps, drop-append_seam))

-- ---- Overflow

pub or_false : (b : Bool) → b ≡ (b || false)
or_false true = refl
or_false false = refl

pub or_true : (b : Bool) → true ≡ (b || true)
or_true true = refl
or_true false = refl

step_by_overflow : (config : Config) (place moment : ℕ) (s : Session) (k : EntryKind) → (step_by config place moment s k).overflow ≡ (s.overflow || overfills_by config s k)
step_by_overflow config place moment s k = grind (arith, common_steps)

pub overflowed_if_entry_found_no_room : OverflowReading
overflowed_if_entry_found_no_room config s [] = or_false s.overflow
overflowed_if_entry_found_no_room config s (e ∷ es) = overflowed_if_entry_found_no_room config (step config s e) es
    ∙ ap (λ (b : Bool). b || some_overfills config (step config s e) es) ((ride_k config e.place (step_by config e.place e.moment s e.kind) (rider_of e.kind e.rides)).overflow ∙ step_by_overflow config e.place e.moment s e.kind)
    ∙ or_assoc s.overflow (overfills_by config s e.kind) (some_overfills config (step config s e) es)

-- ---- The bounds of the queue

lessened : (config : Config) (s t : Session) → Keeps s t → Bounded config s → Bounded config t
lessened config s t k b = record { events = omega (arith, k.shorter, b.events); bytes = omega (arith, k.lighter, b.bytes) }

received_bound : (config : Config) (p : Publication) (s : Session) → Bounded config s → Bounded config (received config p s)
received_bound config p s b =
    let events = config.limits.events in
    let bytes = config.limits.bytes in
    cond_both (has_room config p.event s) (delivered config p s) (overflowed s) (Bounded config)
    (λ room. let k = delivered_to_k config p (with_event p s) s.held in
    let few = room_count events bytes p.event (window_in s) room in
    let light = room_bytes events bytes p.event (window_in s) room in
    record { events = omega (arith, k.shorter, few, length-append s.queue (p ∷ [])); bytes = omega (arith, k.lighter, light, bytes_of_push s.queue p) })
    (λ none. record { events = omega arith; bytes = omega (arith, bytes_of_none) })

step_by_bound : (config : Config) (place moment : ℕ) (s : Session) (k : EntryKind) → Bounded config s → Bounded config (step_by config place moment s k)
step_by_bound config place moment s (Connect n client id acked hold) b =
    let p : Pending = record { place = place; client = client; id = id; moment = moment; hold = hold } in
    cond_both (n == s.number) (connected config p acked s) s (Bounded config) (λ h. lessened config s (connected config p acked s) (connected_k config p acked s) b) (λ h. b)
step_by_bound config place moment s (Publish e) b =
    let p : Publication = record { place = place; event = e } in
    cond_both (is_hit s e) (received config p s) s (Bounded config) (λ h. received_bound config p s b) (λ h. b)
step_by_bound config place moment s k b = record {
  events = let few = b.events in grind (arith, common_steps);
  bytes = let light = b.bytes in grind (arith, common_steps, bytes_of_none);
}

step_bound : (config : Config) (s : Session) (e : Entry) → Bounded config s → Bounded config (step config s e)
step_bound config s e b =
    let u : Session = step_by config e.place e.moment s e.kind in
    lessened config u (step config s e) (ride_k config e.place u (rider_of e.kind e.rides)) (step_by_bound config e.place e.moment s e.kind b)

run_bound : (config : Config) (s : Session) (es : List Entry) → Bounded config s → Bounded config (fold (step config) s es)
run_bound config s [] b = b
run_bound config s (e ∷ es) b = run_bound config (step config s e) es (step_bound config s e b)

pub queue_bounded : QueueBounded
queue_bounded config number es = run_bound config (unopened number) es (record { events = omega arith; bytes = omega (arith, bytes_of_none) })
