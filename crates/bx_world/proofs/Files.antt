-- Answers that were given and not taken are filed, and no answer is taken twice.
use Rattle.std.proofs.Common.{arith, ◌≡◌, ℕ, zero, suc, max, ⊎_elim, Bool, true, false, ◌||◌, Option, Some, None, List, [], ◌∷◌, ◌++◌, length, take, drop, map, filter, find, flat_map, option_map, slice_get, slice_index, nat_lt, ◌==◌, refl, sym, ap, ◌∙◌, subst, eq-eqb, take-append-drop, true≢false}
use Rattle.std.proofs.lemmas.{Bool.cond-true, Bool.lt-ltb, List.map-append, List.Folds.find-append, List.Folds.list_any-append}
use Rattle.std.specs.{Option.option_or, List.list_any}
use Rattle.bx_advice.specs.declared.config.Config.{Config}
use Rattle.bx_message.specs.declared.{reply.Answer.Answer, message_kind.MessageKind.MessageKind}
use Rattle.bx_entry.specs.Words.{Listed, Posted, due_of, Registry, Registered, Judged, PlaceSlot, Waiting, slot_for, slot_with, rider_for, is_rider, left_by, extended, overdue_closed, hold_of, registry, entries_of, Session, Filed, session, PlacedAnswer, answer_of, answer_by, answer_at}
use Rattle.bx_message.specs.MessageKinds.{message_kind_of}
use Rattle.bx_entry.specs.declared.{input.Input.Input, entry.Ticket.Ticket}
use Rattle.bx_theory.proofs.{Verdicts.each_judge, Verdicts.each_registry, Lists.judged_more, Lists.answer_within, Waits.WaitsAt, Waits.waits_over}
use Rattle.bx_theory.specs.Readings.{EachSession}
use Rattle.bx_shard.specs.Words.{Setup, shard_at, sessions_in, is_placed_in, is_taken, given_of}
use Rattle.bx_world.specs.Words.{WorldState, IsOutput, Runs, after, filed_under, AnswersAreFiled, AnswersCanBeTaken, NoneTakenTwice, SchedulesCompose, EachNew, taken_by, taken_places}
use Rattle.bx_world.specs.declared.step.{Step.Step, StepOut.StepOut}
use Rattle.bx_world.specs.declared.step.Step.TheVariants.{Admit, Apply, Take}
use Rattle.bx_world.specs.declared.step.StepOut.TheVariants.{Taken}
use Rattle.bx_theory.proofs.Dues.{EachJudged, Mapped, each_judged_push, each_judged_map, each_session_map, named_session, served_sessions, overdue_closed_sessions}
use Rattle.bx_shard.proofs.{Elements.numbers, Elements.same_numbers, Untaken.found_kept, Untaken.find_untaken}

or_true : (a b : Bool) → b ≡ true → (a || b) ≡ true
or_true a b e = grind arith

-- ---- sessions that a slot waits for are registered

abbrev has : ℕ → List Registered → Bool
has number rs = list_any (λ n. n == number) (numbers rs)

has_push : (number : ℕ) (rs : List Registered) (r : Registered) → has number rs ≡ true → has number (rs ++ r ∷ []) ≡ true
has_push number rs r h =
    ap (list_any (λ n. n == number)) (map-append (λ (q : Registered). q.number) rs (r ∷ [])) ∙ list_any-append (λ n. n == number) (numbers rs) (r.number ∷ []) ∙ ap (λ (b : Bool). b || has number (r ∷ [])) h

each_has : (rs : List Registered) → EachSession (λ r. has r.number rs ≡ true) rs
each_has [] = tt
each_has (r ∷ rs) = (ap (λ (b : Bool). b || has r.number rs) (eq-eqb r.number r.number refl), each_session_map (λ q. has q.number rs ≡ true) (λ q. has q.number (r ∷ rs) ≡ true) rs (λ q h. or_true (r.number == q.number) (has q.number rs) h) (each_has rs))

abbrev SlotHas : List Registered → PlaceSlot → Type 0
SlotHas rs (Waiting number) = has number rs ≡ true
SlotHas rs _ = Unit {0}

slot_has : (rs ts : List Registered) (slot : PlaceSlot) → ((n : ℕ) → has n rs ≡ true → has n ts ≡ true) → SlotHas rs slot → SlotHas ts slot
slot_has rs ts slot h s = grind (arith, h)

abbrev Waiters : Registry → Type 0
Waiters r = EachJudged (λ j. SlotHas r.sessions j.slot) r.judged

waiters_push : (r : Registry) (ts : List Registered) (j : Judged) → ((n : ℕ) → has n r.sessions ≡ true → has n ts ≡ true) → SlotHas ts j.slot → Waiters r → EachJudged (λ i. SlotHas ts i.slot) (r.judged ++ j ∷ [])
waiters_push r ts j h s w = each_judged_push (λ i. SlotHas ts i.slot) r.judged j (each_judged_map (λ i. SlotHas r.sessions i.slot) (λ i. SlotHas ts i.slot) r.judged (λ i g. slot_has r.sessions ts i.slot h g) w) s

slot_served : (config : Config) (b : Bool) (c : MessageKind) (p : Posted) (s : Registered) (rs : List Registered) → has s.number rs ≡ true →
    SlotHas rs (slot_with (rider_for b s.number (slot_for config c p s)) (slot_for config c p s))
slot_served config b c p s rs h = grind (arith, h)

has_same : (change : Registered → Registered) (rs ts : List Registered) → Mapped change rs ts → (n : ℕ) → has n rs ≡ true → has n ts ≡ true
has_same change rs ts m n h = ap (list_any (λ k. k == n)) (same_numbers change rs ts m) ∙ h

all_waiters : (config : Config) (list : List Listed) → Waiters (registry config list)
all_waiters config list = each_registry config Waiters tt (λ ys x w.
    let r : Registry = registry config ys in
    each_judge config r Waiters (record {
      refuses = λ p sender error. waiters_push r r.sessions _ (λ n g. g) tt w;
      opens = λ p. waiters_push r _ _ (λ n g. has_push n r.sessions _ g) tt w;
      none = λ p. waiters_push r r.sessions _ (λ n g. g) tt w;
      serves = λ p s e.
          let c : MessageKind = message_kind_of p.message.channel in
          let ts : List Registered = left_by c s.number (extended s.number (due_of config (max r.clock p.moment) (hold_of config p)) r.sessions) in
          let same = has_same _ r.sessions ts (served_sessions c s.number (due_of config (max r.clock p.moment) (hold_of config p)) r.sessions) in
          waiters_push r ts _ same (slot_served config (is_rider config r.senders c p s) c p s ts (same s.number (named_session (λ q. has q.number r.sessions ≡ true) r.sessions c p.message s e (each_has r.sessions)))) w;
      ticks = λ moment. waiters_push r (overdue_closed (max r.clock moment) r.sessions) _ (has_same _ r.sessions _ (overdue_closed_sessions (max r.clock moment) r.sessions)) tt w;
    }) x) list

judged_at : (P : Judged → Type 0) (js : List Judged) (k : ℕ) (j : Judged) → slice_get js k ≡ Some j → EachJudged P js → P j
judged_at P [] k j e d = cc
judged_at P (i ∷ js) zero j e d = let same : i ≡ j = cc in subst P same d.0
judged_at P (i ∷ js) (suc k) j e d = judged_at P js k j e d.1

-- ---- look-ups

same_session : (config : Config) (xs : List Listed) (m number place : ℕ) (f : Filed) → WaitsAt (registry config xs).judged number place →
    find (λ (g : Filed). g.connect == place) (session config m (entries_of (registry config xs))).answers ≡ Some f → m ≡ number
same_session config xs m number place f w e =
    let both : Some (Waiting m) ≡ Some (Waiting number) = sym (waits_over config m place xs f e) ∙ w in
    cc

first_found : (o mine rest : Option Filed) (m number : ℕ) (f : Filed) → ((k : Filed) → o ≡ Some k → m ≡ number) → (m ≡ number → o ≡ mine) → mine ≡ Some f → ((m == number) ≡ false → rest ≡ Some f) →
    {whole : Option Filed} → whole ≡ option_or o rest → whole ≡ Some f
first_found o mine rest m number f own same is behind w = grind arith

found_among : (config : Config) (xs : List Listed) (number place : ℕ) (f : Filed) (rs : List Registered) → WaitsAt (registry config xs).judged number place →
    find (λ (g : Filed). g.connect == place) (session config number (entries_of (registry config xs))).answers ≡ Some f → has number rs ≡ true →
    find (λ (g : Filed). g.connect == place) (flat_map (λ (s : Session). s.answers) (map (λ (r : Registered). session config r.number (entries_of (registry config xs))) rs)) ≡ Some f
found_among config xs number place f [] w e h = cc
found_among config xs number place f (r ∷ rs) w e h =
    let test : Filed → Bool = λ g. g.connect == place in
    let g : ℕ → Session = λ n. session config n (entries_of (registry config xs)) in
    let rest : List Filed = flat_map (λ (s : Session). s.answers) (map (λ (q : Registered). session config q.number (entries_of (registry config xs))) rs) in
    let own : (k : Filed) → find test (g r.number).answers ≡ Some k → r.number ≡ number = λ k n. same_session config xs r.number number place k w n in
    first_found (find test (g r.number).answers) (find test (g number).answers) (find test rest) r.number number f own (λ s. ap (λ (m : ℕ). find test (g m).answers) s) e
    (λ k. found_among config xs number place f rs w e (sym (ap (λ (b : Bool). b || has number rs) k) ∙ h)) (find-append test (g r.number).answers rest)

has_standing : (setup : Setup) (shard number : ℕ) (rs : List Registered) → is_placed_in setup shard number ≡ true → has number rs ≡ true → has number (filter (λ (s : Registered). is_placed_in setup shard s.number) rs) ≡ true
has_standing setup shard number [] h e = cc
has_standing setup shard number (r ∷ rs) h e = grind (arith, has_standing setup shard number rs h)

-- ---- the law

record FiledOf (config : Config) (xs : List Listed) (number place : ℕ) (a : PlacedAnswer) : Type 0 where
  waits : WaitsAt (registry config xs).judged number place
  filed : Filed
  found : find (λ (g : Filed). g.connect == place) (session config number (entries_of (registry config xs))).answers ≡ Some filed
  same : answer_of filed ≡ a

filed_by : (config : Config) (xs : List Listed) (number place : ℕ) (a : PlacedAnswer) (o : Option Filed) → WaitsAt (registry config xs).judged number place →
    find (λ (g : Filed). g.connect == place) (session config number (entries_of (registry config xs))).answers ≡ o → option_map answer_of o ≡ Some a → FiledOf config xs number place a
filed_by config xs number place a None w h e = cc
filed_by config xs number place a (Some f) w h e = record { waits = w; filed = f; found = h; same = (let s : answer_of f ≡ a = cc in s) }

filed_at : (config : Config) (list xs rest : List Listed) (number place : ℕ) (a : PlacedAnswer) (o : Option Judged) → xs ++ rest ≡ list → WaitsAt (registry config list).judged number place →
    slice_get (registry config xs).judged place ≡ o → answer_at config (entries_of (registry config xs)) place o ≡ Some a → FiledOf config xs number place a
filed_at config list xs rest number place a None whole w h e = cc
filed_at config list xs rest number place a (Some j) whole w h e =
    let there : slice_get (registry config list).judged place ≡ Some j = subst (λ (ys : List Listed). slice_get (registry config ys).judged place ≡ Some j) whole (judged_more config xs rest place j h) in
    let slot : j.slot ≡ Waiting number = (let both : Some j.slot ≡ Some (Waiting number) = sym (ap (option_map (λ (i : Judged). i.slot)) there) ∙ w in cc) in
    filed_by config xs number place a (find (λ (g : Filed). g.connect == place) (session config number (entries_of (registry config xs))).answers)
    (ap (option_map (λ (i : Judged). i.slot)) h ∙ ap Some slot) refl (sym (ap (answer_by config (entries_of (registry config xs)) place) slot) ∙ e)

pub answers_are_filed : AnswersAreFiled
answers_are_filed setup list taken n place number a room waits e below free =
    let config : Config = setup.config in
    let xs : List Listed = take n list in
    let shard : ℕ = setup.placing number setup.shards in
    let f : FiledOf setup.config (take n list) number place a =
    filed_at setup.config list (take n list) (drop n list) number place a (slice_get (registry setup.config (take n list)).judged place) (take-append-drop n list) waits refl (answer_within setup.config list n place a room below e) in
    let r : Registry = registry setup.config (take n list) in
    let registered : has number (registry setup.config (take n list)).sessions ≡ true = slot_of f (slice_get r.judged place) refl in
    let standing : has number (filter (λ (s : Registered). is_placed_in setup (setup.placing number setup.shards) s.number) (registry setup.config (take n list)).sessions) ≡ true =
    has_standing setup shard number r.sessions (eq-eqb shard shard refl) registered in
    ap (option_map answer_of)
    (find_untaken taken place (flat_map (λ (s : Session). s.answers) (sessions_in setup list shard n)) free
    ∙ found_among setup.config (take n list) number place f.filed (filter (λ (s : Registered). is_placed_in setup (setup.placing number setup.shards) s.number) r.sessions) f.waits f.found standing)
    ∙ ap Some f.same
  where
    slot_of : FiledOf setup.config (take n list) number place a → (o : Option Judged) → slice_get (registry setup.config (take n list)).judged place ≡ o → has number (registry setup.config (take n list)).sessions ≡ true
    slot_of f None h = absurd (let no : None ≡ Some (Waiting number) = sym (ap (option_map (λ (i : Judged). i.slot)) h) ∙ f.waits in cc)
    slot_of f (Some j) h =
        let slot : j.slot ≡ Waiting number = (let both : Some j.slot ≡ Some (Waiting number) = sym (ap (option_map (λ (i : Judged). i.slot)) h) ∙ f.waits in cc) in
        subst (SlotHas (registry setup.config (take n list)).sessions) slot
        (judged_at (λ i. SlotHas (registry setup.config (take n list)).sessions i.slot) (registry setup.config (take n list)).judged place j h (all_waiters setup.config (take n list)))

pub answers_can_be_taken : AnswersCanBeTaken
answers_can_be_taken setup w t number a out room waits shard within e below free i =
    let n : ℕ = slice_index w.applied t.shard in
    let found : Option PlacedAnswer = option_map answer_of (find (λ (f : Filed). f.connect == t.place) (shard_at setup w.list w.taken t.shard (slice_index w.applied t.shard)).filed) in
    let there : option_map answer_of (find (λ (f : Filed). f.connect == t.place) (shard_at setup w.list w.taken t.shard (slice_index w.applied t.shard)).filed) ≡ Some a =
    ap (λ (k : ℕ). option_map answer_of (find (λ (f : Filed). f.connect == t.place) (shard_at setup w.list w.taken k (slice_index w.applied t.shard)).filed)) shard
    ∙ answers_are_filed setup w.list w.taken n t.place number a room waits e below free in
    let given : filed_under setup w t ≡ Some a = cond-true (nat_lt t.shard (length w.applied)) found None (lt-ltb t.shard (length w.applied) within) ∙ there in
    ⊎_elim (λ o. o ∙ ap (λ (x : Option PlacedAnswer). Taken (option_map given_of x)) given) (λ m. absurd (true≢false (sym m.0))) i

-- ---- no answer is taken twice

filed_untaken : (setup : Setup) (w : WorldState) (t : Ticket) (a : PlacedAnswer) → filed_under setup w t ≡ Some a → is_taken w.taken t.place ≡ false
filed_untaken setup w t a e =
    let kept = found_kept w.taken t.place (flat_map (λ (s : Session). s.answers) (sessions_in setup w.list t.shard (slice_index w.applied t.shard))) in
    grind (arith, kept)

given_untaken : (setup : Setup) (w : WorldState) (t : Ticket) (a : Answer) (o : Option PlacedAnswer) → filed_under setup w t ≡ o → option_map given_of o ≡ Some a → is_taken w.taken t.place ≡ false
given_untaken setup w t a o e g = grind (arith, filed_untaken setup w t)

take_new : (setup : Setup) (w : WorldState) (t : Ticket) (out : StepOut) (ps : List ℕ) → out ≡ Taken (option_map given_of (filed_under setup w t)) → EachNew (after w (Take t) out).taken ps → EachNew w.taken (taken_by (Take t) out ++ ps)
take_new setup w t (Taken (Some a)) ps e d = (given_untaken setup w t a (filed_under setup w t) refl (let same : option_map given_of (filed_under setup w t) ≡ Some a = cc in same), d)
take_new setup w t _ ps e d = d

admit_taken : (w : WorldState) (input : Input) (out : StepOut) → (after w (Admit input) out).taken ≡ w.taken
admit_taken w input out = grind arith

apply_taken : (w : WorldState) (shard : ℕ) (out : StepOut) → (after w (Apply shard) out).taken ≡ w.taken
apply_taken w shard out = grind arith

step_new : (setup : Setup) (w : WorldState) (step : Step) (out : StepOut) (ps : List ℕ) → IsOutput setup w step out → EachNew (after w step out).taken ps → EachNew w.taken (taken_by step out ++ ps)
step_new setup w (Admit input) out ps i d = subst (λ (ts : List ℕ). EachNew ts ps) (admit_taken w input out) d
step_new setup w (Apply shard) out ps i d = subst (λ (ts : List ℕ). EachNew ts ps) (apply_taken w shard out) d
step_new setup w (Take t) out ps i d = ⊎_elim (λ e. take_new setup w t out ps e d) (λ m. absurd (true≢false (sym m.0))) i

run_new : (setup : Setup) (w : WorldState) (steps : List Step) (outs : List StepOut) (last : WorldState) → Runs setup w steps outs last → EachNew w.taken (taken_places steps outs)
run_new setup w [] outs last r = tt
run_new setup w (step ∷ steps) [] last r = tt
run_new setup w (step ∷ steps) (out ∷ outs) last r = step_new setup w step out (taken_places steps outs) r.0 (run_new setup (after w step out) steps outs last r.1)

pub no_answer_taken_twice : NoneTakenTwice
no_answer_taken_twice setup first steps outs last r = run_new setup first steps outs last r

-- ---- one schedule after another

pub schedules_compose : SchedulesCompose
schedules_compose setup first middle last [] more [] given r m = subst (λ (w : WorldState). Runs setup w more given last) r m
schedules_compose setup first middle last (step ∷ steps) more (out ∷ outs) given r m = (r.0, schedules_compose setup (after first step out) middle last steps more outs given r.1 m)
schedules_compose setup first middle last [] more (out ∷ outs) given r m = absurd r
schedules_compose setup first middle last (step ∷ steps) more [] given r m = absurd r
