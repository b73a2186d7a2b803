-- What one entry changes in a session. Events and answers are appended, and counts grow.
use Rattle.std.proofs.Common.{◌≡◌, ℕ, ◌+◌, ◌<◌, ◌≤◌, true, false, cond, Option, Some, None, List, [], ◌∷◌, ◌++◌, length, take, drop, ◌==◌, refl, sym, ap, ◌∙◌, subst, arith, length-append, length-drop, append-nil, append_assoc}
use Rattle.std.proofs.lemmas.{Bool.cond_both, Grind.common_steps, List.drop-append-le, List.take-append-le, List.drop_at, List.length_push}
use Rattle.std.proofs.{Math.Seq.drop-append_seam, ByRecursion.All-weaker}
pub use Rattle.std.proofs.ByRecursion.{All-append as each_append}
use Rattle.bx_advice.specs.declared.{config.Config.Config, advice.Outcome.TheVariants.Connected}
use Rattle.bx_entry.specs.declared.entry.{Entry.Entry, EntryKind.EntryKind, Rider.Rider}
use Rattle.bx_entry.specs.declared.entry.EntryKind.TheVariants.{Connect, Publish}
use Rattle.bx_entry.specs.Sessions.{Session, Publication, Pending, Filed, filing, answered, unheld, gives, given, idle, answered_or_held, connected, overflowed, gives_one, with_event, delivered_to, delivered, is_hit, has_room, published, step_by, step, ride_portion, ride_filing, ridden_by, rider_of}
use Rattle.bx_theory.specs.Laws.{InStep, Each, Slice}
use Rattle.bx_theory.proofs.Counts.{behind, Quiet, Freed, freed, freed_leaves, freed_in, connected_by, ride_both, step_by_in}
use Rattle.bx_theory.proofs.{Done.done_by, Done.done_step, Stages.step_number, Gained.gains, Gained.step_gains}

abbrev pub Still : Session → Session → Type 0
Still s t = t.num ≡ s.num → 0 < t.out → (t.out ≡ s.out) × (t.done ≡ s.done)

-- What entries change from `s` to `t`. Each new answer has `At`, and together they have `Gives`.
pub record Goes (At : Filed → Type 0) (Gives : List Filed → Type 0) (s t : Session) : Type 0 where
  pub number : t.number ≡ s.number
  pub done : s.done ≤ t.done
  pub num : s.num ≤ t.num
  pub later : List Publication
  pub events : t.events ≡ s.events ++ later
  pub filed : List Filed
  pub answers : t.answers ≡ s.answers ++ filed
  pub here : Each At filed
  pub slices : Gives filed
  pub still : Still s t

abbrev pub Moved : ℕ → Session → Session → Type 0
Moved place s t =
    Goes (λ f. f.place ≡ place) (λ filed. (low : ℕ) → (t.ack ≡ true → low ≤ t.done) → (t.ack ≡ false → low ≤ s.done) → Each (λ f. Slice t.events low f.publications) filed) s t

-- ---- Lists of answers

pub each_map : (P Q : Filed → Type 0) (fs : List Filed) → ((f : Filed) → P f → Q f) → Each P fs → Each Q fs
each_map P Q fs h e = All-weaker P Q h fs e

-- ---- Slices

pub empty_slice : (events : List Publication) (low : ℕ) → Slice events low []
empty_slice events low = record { from = 0; count = 0; above = λ h. absurd (omega arith); within = omega arith; is = refl }

pub lower_slice : (events given : List Publication) (low high : ℕ) → low ≤ high → Slice events high given → Slice events low given
lower_slice events given low high h s = record { from = s.from; count = s.count; above = λ c. let a : high ≤ s.from = s.above c in omega arith; within = s.within; is = s.is }

pub longer_slice : (events later given : List Publication) (low : ℕ) → Slice events low given → Slice (events ++ later) low given
longer_slice events later given low s = record {
  from = s.from;
  count = s.count;
  above = s.above;
  within = omega (arith, s.within, length-append events later);
  is = s.is ∙ sym (ap (take s.count) (drop-append-le s.from events later (omega (arith, s.within)))
      ∙ take-append-le s.count (drop s.from events) later (omega (arith, s.within, length-drop s.from events)));
}

-- ---- The answers of an entry

record Files (place : ℕ) (s t : Session) : Type 0 where
  filed : List Filed
  answers : t.answers ≡ s.answers ++ filed
  here : Each (λ f. f.place ≡ place) filed
  slices : (low : ℕ) → (t.ack ≡ true → low ≤ t.done) → (t.ack ≡ false → low ≤ s.done) → Each (λ f. Slice t.events low f.publications) filed

files_one : (place : ℕ) (s t : Session) (f : Filed) → t.answers ≡ s.answers ++ f ∷ [] → f.place ≡ place →
    ((low : ℕ) → (t.ack ≡ true → low ≤ t.done) → (t.ack ≡ false → low ≤ s.done) → Slice t.events low f.publications) → Files place s t
files_one place s t f answers here slice = record { filed = f ∷ []; answers = answers; here = (here, tt); slices = λ low a b. (slice low a b, tt) }

files_behind : (place : ℕ) (s u t : Session) → Quiet place s u → Files place u t → Files place s t
files_behind place s u t q m = record {
  filed = behind s u ++ m.filed;
  answers = m.answers ∙ ap (λ (fs : List Filed). fs ++ m.filed) q.answers ∙ append_assoc s.answers (behind s u) m.filed;
  here = each_append (λ f. f.place ≡ place) (behind s u) m.filed (each_map (λ f. (f.place ≡ place) × (f.publications ≡ [])) (λ f. f.place ≡ place) (behind s u) (λ f h. h.0) q.empty) m.here;
  slices = λ low a b. each_append (λ f. Slice t.events low f.publications) (behind s u) m.filed
      (each_map (λ f. (f.place ≡ place) × (f.publications ≡ [])) (λ f. Slice t.events low f.publications) (behind s u) (λ f h. subst (Slice t.events low) (sym h.1) (empty_slice t.events low)) q.empty)
      (m.slices low a (λ h. let l : low ≤ s.done = b h in omega (arith, q.done)));
}

files_none : (place : ℕ) (s t : Session) → Quiet place s t → Files place s t
files_none place s t q = files_behind place s t t q (record { filed = []; answers = sym (append-nil t.answers); here = tt; slices = λ low a b. tt })

given_slice : (config : Config) (s : Session) (low : ℕ) → s.overflow ≡ false → InStep config s → ((gives config s).ack ≡ true → low ≤ (gives config s).done) → ((gives config s).ack ≡ false → low ≤ s.done) →
    Slice (gives config s).events low (given config s)
given_slice config s low full i a b = record { from = s.done; count = length (given config s); above = grind (arith, common_steps); within = grind (arith, common_steps); is = grind (arith, common_steps) }

answered_or_held_files : (config : Config) (p : Pending) (s : Session) → s.overflow ≡ false → InStep config s → Files p.place s (answered_or_held config p s)
answered_or_held_files config p s full i =
    cond_both (length (given config s) == 0) (idle config p s) (answered config p p.place (given config s) Connected (gives config s)) (Files p.place s)
    (λ h. files_none p.place s _ (grind (arith, common_steps, drop-append_seam)))
    (λ h. files_one p.place s _ (filing config p p.place (given config s) Connected (gives config s)) (grind (arith, common_steps)) refl (λ low a b. given_slice config s low full i a b))

connected_files : (config : Config) (p : Pending) (acked : Option ℕ) (s : Session) → InStep config s → Files p.place s (connected config p acked s)
connected_files config p acked s i =
    let f : Freed p.place s (freed config p acked s) = freed_leaves config p acked s in
    connected_by config p acked s (Files p.place s)
    (λ h. files_none p.place s _ (grind (arith, common_steps, drop-append_seam)))
    (λ h. files_behind p.place s (freed config p acked s) _ f.quiet (answered_or_held_files config p (freed config p acked s) (f.overflow ∙ h) (freed_in config p acked s i)))

last_slice : (e : Publication) (events : List Publication) (low : ℕ) → low ≤ length events → Slice (events ++ e ∷ []) low (e ∷ [])
last_slice e events low h = record { from = length events; count = 1; above = λ c. h; within = omega (arith, length_push events e); is = sym (ap (take 1) (drop_at events (e ∷ []) (length events) refl)) }

delivered_to_files : (config : Config) (e : Publication) (s : Session) (held : Option Pending) → InStep config s → Files e.place s (delivered_to config e (with_event e s) held)
delivered_to_files config e s None i = files_none e.place s (with_event e s) (grind (arith, common_steps, drop-append_seam))
delivered_to_files config e s (Some p) i = files_one e.place s _ (filing config p e.place (e ∷ []) Connected (gives_one (unheld (with_event e s)))) (grind (arith, common_steps)) refl
    (λ low a b. grind (arith, common_steps, last_slice e s.events low))

published_files : (config : Config) (e : Publication) (s : Session) → InStep config s → Files e.place s (published config e s)
published_files config e s i =
    cond_both (is_hit s e.event) (cond (has_room config e.event s) (delivered config e s) (overflowed s)) s (Files e.place s)
    (λ h. cond_both (has_room config e.event s) (delivered config e s) (overflowed s) (Files e.place s)
    (λ g. delivered_to_files config e s s.held i) (λ g. files_none e.place s (overflowed s) (grind (arith, common_steps, drop-append_seam))))
    (λ h. files_none e.place s s (grind (arith, common_steps, drop-append_seam)))

step_by_files : (config : Config) (place moment : ℕ) (s : Session) (k : EntryKind) → InStep config s → Files place s (step_by config place moment s k)
step_by_files config place moment s (Connect n client id acked hold) i =
    let p : Pending = record { place = place; client = client; id = id; moment = moment; hold = hold } in
    cond_both (n == s.number) (connected config p acked s) s (Files place s) (λ h. connected_files config p acked s i)
    (λ h. files_none place s s (grind (arith, common_steps, drop-append_seam)))
step_by_files config place moment s (Publish e) i = published_files config (record { place = place; event = e }) s i
step_by_files config place moment s k i = files_none place s _ (grind (arith, common_steps, drop-append_seam))

ride_slice : (config : Config) (s : Session) (low : ℕ) → InStep config s → (s.ack ≡ false → low ≤ s.done) → Slice s.events low (take (ride_portion config s) s.queue)
ride_slice config s low i b = record { from = s.done; count = length (take (ride_portion config s) s.queue); above = grind (arith, common_steps); within = grind (arith, common_steps); is = grind (arith, common_steps) }

ride_files : (config : Config) (place : ℕ) (s t : Session) (rides : Option Rider) → InStep config t → s.done ≤ t.done → Files place s t → Files place s (ridden_by config place t rides)
ride_files config place s t rides i done m = ride_both config place t rides (Files place s) m (λ rider h.
    let f : Filed = ride_filing config place rider.reply t in
    record {
      filed = m.filed ++ f ∷ [];
      answers = ap (λ (fs : List Filed). fs ++ f ∷ []) m.answers ∙ append_assoc s.answers m.filed (f ∷ []);
      here = each_append (λ g. g.place ≡ place) m.filed (f ∷ []) m.here (refl, tt);
      slices = λ low a b. each_append (λ g. Slice t.events low g.publications) m.filed (f ∷ [])
          (m.slices low (λ h. let l : low ≤ t.done + ride_portion config t = a h in grind (arith, common_steps)) b)
          (ride_slice config t low i (λ h. let l : low ≤ s.done = b h in omega (arith, done)), tt);
    })

-- ---- The batch

connected_still : (config : Config) (p : Pending) (acked : Option ℕ) (s : Session) → InStep config s → Still s (connected config p acked s)
connected_still config p acked s i =
    let f : Freed p.place s (freed config p acked s) = freed_leaves config p acked s in
    let j : InStep config (freed config p acked s) = freed_in config p acked s i in
    connected_by config p acked s (Still s) (λ h n o. grind (arith, common_steps))
    (λ h. answered_or_held_still p (freed config p acked s) f j)
  where
    answered_or_held_still : (p : Pending) (u : Session) → Freed p.place s u → InStep config u → Still s (answered_or_held config p u)
    answered_or_held_still p u f j n o = grind (arith, common_steps)

step_by_still : (config : Config) (place moment : ℕ) (s : Session) (k : EntryKind) → InStep config s → Still s (step_by config place moment s k)
step_by_still config place moment s (Connect n client id acked hold) i =
    let p : Pending = record { place = place; client = client; id = id; moment = moment; hold = hold } in
    cond_both (n == s.number) (connected config p acked s) s (Still s) (λ h. connected_still config p acked s i) (λ h n o. (refl, refl))
step_by_still config place moment s _ i = λ n o. grind (arith, common_steps)

ride_still : (config : Config) (place : ℕ) (s t : Session) (rides : Option Rider) → InStep config t → Still s t → Still s (ridden_by config place t rides)
ride_still config place s t rides i still n o = grind (arith, common_steps)

num_by : (config : Config) (place moment : ℕ) (s : Session) (k : EntryKind) → s.num ≤ (step_by config place moment s k).num
num_by config place moment s k = grind (arith, common_steps)

pub ride_num : (config : Config) (place : ℕ) (s : Session) (rides : Option Rider) → (ridden_by config place s rides).num ≡ s.num
ride_num config place s rides = ride_both config place s rides (λ (u : Session). u.num ≡ s.num) refl (λ rider h. refl)

-- ---- Entries

pub step_moved : (config : Config) (s : Session) (e : Entry) → 0 < config.limits.batch → InStep config s → Moved e.place s (step config s e)
step_moved config s e room i =
    let u : Session = step_by config e.place e.moment s e.kind in
    let j : InStep config (step_by config e.place e.moment s e.kind) = step_by_in config e.place e.moment s e.kind room i in
    let f : Files e.place s (step config s e) =
    ride_files config e.place s u (rider_of e.kind e.rides) j (done_by config e.place e.moment s e.kind) (step_by_files config e.place e.moment s e.kind i) in
    record {
      number = step_number config s e;
      done = done_step config s e;
      num = omega (arith, num_by config e.place e.moment s e.kind, ride_num config e.place u (rider_of e.kind e.rides));
      later = gains config s e;
      events = step_gains config s e;
      filed = f.filed;
      answers = f.answers;
      here = f.here;
      slices = f.slices;
      still = ride_still config e.place s u (rider_of e.kind e.rides) j (step_by_still config e.place e.moment s e.kind i);
    }
