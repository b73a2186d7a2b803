-- What many entries change in a session.
use Rattle.std.proofs.Common.{◌≡◌, ℕ, ◌<◌, ◌≤◌, cond, List, [], ◌∷◌, ◌++◌, fold, refl, sym, ap, ◌∙◌, subst, arith, append-nil, append_assoc, le_refl}
use Rattle.std.proofs.lemmas.Bool.{cond_both, cond-false}
use Rattle.bx_advice.specs.declared.config.Config.{Config}
use Rattle.bx_entry.specs.declared.entry.Entry.{Entry}
use Rattle.bx_entry.specs.Sessions.{Session, Publication, Filed, step, session, unopened}
use Rattle.bx_theory.specs.Laws.{InStep, Each, Slice, GivesFrom, NeverGivenAgain}
use Rattle.bx_theory.proofs.Counts.{stays_in_step, all_in_step, unopened_in_step}
use Rattle.bx_theory.proofs.Moves.{Goes, Moved, step_moved, each_map, each_append, lower_slice, longer_slice}

abbrev pub Grown : ℕ → Session → Session → Type 0
Grown first s t = Goes (λ f. first ≤ f.place) (λ filed. Each (λ f. Slice t.events s.done f.publications) filed) s t

abbrev pub EachEntry : (Entry → Type 0) → List Entry → Type 0
EachEntry P [] = Unit {0}
EachEntry P (e ∷ es) = P e × EachEntry P es

pub all_places : (es : List Entry) → EachEntry (λ e. 0 ≤ e.place) es
all_places [] = tt
all_places (e ∷ es) = (omega arith, all_places es)

pub longer : (s t : Session) (later : List Publication) (low : ℕ) (filed : List Filed) → t.events ≡ s.events ++ later →
    Each (λ f. Slice s.events low f.publications) filed → Each (λ f. Slice t.events low f.publications) filed
longer s t later low filed e d =
    subst (λ (es : List Publication). Each (λ f. Slice es low f.publications) filed) (sym e)
    (each_map (λ f. Slice s.events low f.publications) (λ f. Slice (s.events ++ later) low f.publications) filed (λ f h. longer_slice s.events later f.publications low h) d)

pub lower : (events : List Publication) (low high : ℕ) (filed : List Filed) → low ≤ high →
    Each (λ f. Slice events high f.publications) filed → Each (λ f. Slice events low f.publications) filed
lower events low high filed h d = each_map (λ f. Slice events high f.publications) (λ f. Slice events low f.publications) filed (λ f c. lower_slice events f.publications low high h c) d

at_place : (first place : ℕ) (filed : List Filed) → first ≤ place → Each (λ f. f.place ≡ place) filed → Each (λ f. first ≤ f.place) filed
at_place first place filed h d = each_map (λ f. f.place ≡ place) (λ f. first ≤ f.place) filed (λ f e. omega (arith, e, h)) d

moved_grown : (first place : ℕ) (s t : Session) → first ≤ place → Moved place s t → Grown first s t
moved_grown first place s t h m = record {
  number = m.number;
  done = m.done;
  num = m.num;
  later = m.later;
  events = m.events;
  filed = m.filed;
  answers = m.answers;
  here = at_place first place m.filed h m.here;
  slices = m.slices s.done (λ a. m.done) (λ a. omega arith);
  still = m.still;
}

grown_same : (first : ℕ) (s : Session) → Grown first s s
grown_same first s = record { number = refl; done = omega arith; num = omega arith; later = []; events = sym (append-nil s.events); filed = []; answers = sym (append-nil s.answers); here = tt; slices = tt; still = λ n o. (refl, refl) }

grown_after : (first : ℕ) (s t u : Session) → Grown first s t → Grown first t u → Grown first s u
grown_after first s t u g h = record {
  number = h.number ∙ g.number;
  done = omega (arith, g.done, h.done);
  num = omega (arith, g.num, h.num);
  later = g.later ++ h.later;
  events = h.events ∙ ap (λ (es : List Publication). es ++ h.later) g.events ∙ append_assoc s.events g.later h.later;
  filed = g.filed ++ h.filed;
  answers = h.answers ∙ ap (λ (fs : List Filed). fs ++ h.filed) g.answers ∙ append_assoc s.answers g.filed h.filed;
  here = each_append (λ f. first ≤ f.place) g.filed h.filed g.here h.here;
  slices = each_append (λ f. Slice u.events s.done f.publications) g.filed h.filed (longer t u h.later s.done g.filed h.events g.slices) (lower u.events s.done t.done h.filed g.done h.slices);
  still = λ n o.
      let e : u.num ≡ t.num = omega (arith, g.num, h.num, n) in
      let d : t.num ≡ s.num = omega (arith, g.num, h.num, n) in
      let a = h.still e o in let b = g.still d (subst (λ (k : ℕ). 0 < k) a.0 o) in (a.0 ∙ b.0, a.1 ∙ b.1);
}

pub run_grown : (config : Config) (first : ℕ) (s : Session) (es : List Entry) → 0 < config.limits.batch → InStep config s → EachEntry (λ e. first ≤ e.place) es → Grown first s (fold (step config) s es)
run_grown config first s [] room i d = grown_same first s
run_grown config first s (e ∷ es) room i d =
    grown_after first s (step config s e) (fold (step config) (step config s e) es)
    (moved_grown first e.place s (step config s e) d.0 (step_moved config s e room i))
    (run_grown config first (step config s e) es room (stays_in_step config s e room i) d.1)

-- ---- Events that are never sent again

gives_from : (config : Config) (place : ℕ) (s u t : Session) → Moved place s u → Grown 0 u t → GivesFrom config s u t
gives_from config place s u t m g =
    let low : ℕ = cond u.ack u.done s.done in
    let below : cond u.ack u.done s.done ≤ u.done = cond_both u.ack u.done s.done (λ (n : ℕ). n ≤ u.done) (λ h. omega arith) (λ h. m.done) in
    record {
      filed = m.filed ++ g.filed;
      answers = g.answers ∙ ap (λ (fs : List Filed). fs ++ g.filed) m.answers ∙ append_assoc s.answers m.filed g.filed;
      slices = each_append (λ f. Slice t.events (cond u.ack u.done s.done) f.publications) m.filed g.filed
          (longer u t g.later (cond u.ack u.done s.done) m.filed g.events
          (m.slices (cond u.ack u.done s.done) (λ a. below) (λ a. subst (λ (n : ℕ). n ≤ s.done) (sym (cond-false u.ack u.done s.done a)) (le_refl s.done))))
          (lower t.events (cond u.ack u.done s.done) u.done g.filed below g.slices);
    }

pub never_given_again : NeverGivenAgain
never_given_again config number xs e ys room =
    let s = session config number xs in
    let i : InStep config s = all_in_step config (unopened number) xs room (unopened_in_step config number) in
    gives_from config e.place s (step config s e) (fold (step config) (step config s e) ys)
    (step_moved config s e room i)
    (run_grown config 0 (step config s e) ys room (stays_in_step config s e room i) (all_places ys))
