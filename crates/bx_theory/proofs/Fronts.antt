-- What answers over the fronts of one log have.
use Rattle.std.proofs.Common.{◌≡◌, ℕ, zero, suc, ◌+◌, ◌<◌, ◌≤◌, ◌==◌, Bool, false, cond, Option, Some, None, List, [], ◌∷◌, ◌++◌, length, take, drop, find, fold, option_map, slice_get, refl, sym, ap, ◌∙◌, subst, arith, append_assoc, eqb-true, length-append, length-take}
use Rattle.std.proofs.Math.Seq.{take-append_seam}
use Rattle.std.proofs.lemmas.{List.Sums.fold-append, List.Folds.find-append}
use Rattle.bx_advice.specs.declared.config.Config.{Config}
use Rattle.bx_message.specs.declared.reply.AckReply.TheVariants.{AckNumber}
use Rattle.bx_entry.specs.Words.{Filed, Judged, Listed, PlacedAnswer, Session, Waiting, answer, answer_at, answer_by, answer_of, entries, events_of, filed_for, registry, session, step, unopened}
use Rattle.bx_entry.specs.Sessions.{Publication}
use Rattle.bx_entry.specs.declared.entry.Entry.{Entry}
use Rattle.bx_theory.specs.Events.{Rising}
use Rattle.bx_theory.specs.Laws.{AllBelow, Each, EachOf, GivesLater, InStep, LastAnswer, PlacesFrom, Repetition, given_in}
use Rattle.bx_theory.proofs.{Batches.batch_repeats, Batches.gives_batch, Counts.all_in_step, Counts.stays_in_step, Counts.unopened_in_step, Gained.events_have_ascending_places, Lists.answer_more, Lists.entries_in_order, Lists.entries_within, Lists.find_each, Lists.find_true, Lists.place_within, Once.given_once, Riders.batch_last, Rising.each_of_take, Rising.no_event_twice, Verdicts.entry_placed}
use Rattle.bx_theory.proofs.Moves.{Moved, each_append, each_map, step_moved}
use Rattle.bx_theory.proofs.Runs.{Grown, all_places, run_grown}
use Rattle.bx_theory.specs.Fronts.{AcknowledgedEventsAreNotGivenAgain, AnswersShareNoEvent, IsFiled, RepeatedConnectGetsTheSameBatch, WasGiven, slot_at}
use Rattle.bx_theory.proofs.InTurn.{Before, InTurn, Ordered, find_middle, session_turn, turn_below}
use Rattle.bx_theory.proofs.Waits.{session_answer, waits_over}

-- ---- Answers over a front are those over the log

given_over : (config : Config) (log : List Listed) (place : ℕ) (a : PlacedAnswer) → 0 < config.limits.batch → WasGiven config log place a → answer config log place ≡ Some a
given_over config log place a room g =
    ap (λ (zs : List Listed). answer config zs place) (sym g.begins.1) ∙ answer_more config g.front g.begins.0 place a room g.answered

same_given : (config : Config) (log : List Listed) (place : ℕ) (a b : PlacedAnswer) → 0 < config.limits.batch → answer config log place ≡ Some b → WasGiven config log place a → a ≡ b
same_given config log place a b room e g = let both : Some a ≡ Some b = sym (given_over config log place a room g) ∙ e in cc

-- ---- The answer that the session filed

record FiledFor (config : Config) (log : List Listed) (number place : ℕ) (a : PlacedAnswer) : Type 0 where
  filed : Filed
  is : IsFiled config log number place filed a

filed_found : (config : Config) (log : List Listed) (number place : ℕ) (a : PlacedAnswer) (o : Option Filed) → find (λ (f : Filed). f.connect == place) (session config number (entries config log)).answers ≡ o →
    option_map answer_of o ≡ Some a → FiledFor config log number place a
filed_found config log number place a None h e = cc
filed_found config log number place a (Some f) h e = record { filed = f; is = record { found = h; is = (let s : answer_of f ≡ a = cc in sym s) } }

answer_filed : (config : Config) (log : List Listed) (number place : ℕ) (o : Option Judged) → option_map (λ (j : Judged). j.slot) o ≡ Some (Waiting number) →
    answer_at config (entries config log) place o ≡ filed_for place (session config number (entries config log)).answers
answer_filed config log number place None w = cc
answer_filed config log number place (Some j) w = let s : j.slot ≡ Waiting number = cc in ap (answer_by config (entries config log) place) s

filed_answer : (config : Config) (log : List Listed) (number place : ℕ) (a : PlacedAnswer) → 0 < config.limits.batch → slot_at config log place ≡ Some (Waiting number) → WasGiven config log place a → FiledFor config log number place a
filed_answer config log number place a room w g =
    filed_found config log number place a (find (λ (f : Filed). f.connect == place) (session config number (entries config log)).answers) refl
    (sym (answer_filed config log number place (slice_get (registry config log).judged place) w) ∙ given_over config log place a room g)

-- ---- The last answer after some entries

last_of : (P : Filed → Type 0) (fs : List Filed) (f : Filed) → Each P (fs ++ f ∷ []) → P f
last_of P [] f d = d.0
last_of P (g ∷ fs) f d = last_of P fs f d.1

places_front : (n : ℕ) (xs ys : List Entry) → PlacesFrom n (xs ++ ys) → PlacesFrom n xs
places_front n [] ys d = tt
places_front n (x ∷ xs) ys d = (d.0, places_front (n + 1) xs ys d.1)

record LastOf (config : Config) (log : List Listed) (number count : ℕ) (f : Filed) : Type 0 where
  below : f.connect < count
  found : find (λ (h : Filed). h.connect == f.connect) (session config number (entries config log)).answers ≡ Some f

last_answer : (config : Config) (log : List Listed) (number : ℕ) (es more : List Entry) (f : Filed) → 0 < config.limits.batch → es ++ more ≡ entries config log → LastAnswer (session config number es) f →
    LastOf config log number (length es) f
last_answer config log number es more f room whole l =
    let s : Session = session config number es in
    let order : PlacesFrom 0 (es ++ more) = subst (PlacesFrom 0) (sym whole) (entries_in_order config log) in
    let g : Grown 0 (session config number es) (fold (step config) (session config number es) more) = run_grown config 0 (session config number es) more room (all_in_step config (unopened number) es room (unopened_in_step config number)) (all_places more) in
    let same : session config number (entries config log) ≡ fold (step config) (session config number es) more = ap (session config number) (sym whole) ∙ fold-append (step config) (unopened number) es more in
    let answers : (session config number (entries config log)).answers ≡ l.0 ++ f ∷ g.filed =
    ap (λ (u : Session). u.answers) same ∙ g.answers ∙ ap (λ (fs : List Filed). fs ++ g.filed) l.1 ∙ append_assoc l.0 (f ∷ []) g.filed in
    let turn : InTurn (length (entries config log)) (session config number (entries config log)) = session_turn config number (entries config log) room (entries_in_order config log) in
    record {
      below = last_of (λ h. h.connect < length es) l.0 f (subst (λ (fs : List Filed). Each (λ h. h.connect < length es) fs) l.1 (turn_below (length es) s (session_turn config number es room (places_front 0 es more order))));
      found = ap (find (λ (h : Filed). h.connect == f.connect)) answers ∙ find_middle l.0 g.filed f (subst Ordered answers turn.ordered);
    }

-- ---- Repeated connects

entry_parts : (k : ℕ) (es : List Entry) (e : Entry) → slice_get es k ≡ Some e → take k es ++ e ∷ drop (k + 1) es ≡ es
entry_parts k [] e h = cc
entry_parts zero (x ∷ es) e h = let same : e ≡ x = cc in ap (λ (y : Entry). y ∷ es) same
entry_parts (suc k) (x ∷ es) e h =
    let n : suc k + 1 ≡ suc (k + 1) = omega arith in
    ap (λ (m : ℕ). x ∷ (take k es ++ e ∷ drop m (x ∷ es))) n ∙ ap (λ (ys : List Entry). x ∷ ys) (entry_parts k es e h)

last_within : (config : Config) (log : List Listed) (place number : ℕ) (e : Entry) → 0 < config.limits.batch → place ≤ length log → (es : List Entry) → take place (entries config log) ≡ es →
    (r : Repetition config number es e) → 0 < (session config number es).out → LastAnswer (step config (session config number r.before) r.forming) r.same.first
last_within config log place number e room l es is =
    subst (λ (xs : List Entry). (q : Repetition config number xs e) → 0 < (session config number xs).out → LastAnswer (step config (session config number q.before) q.forming) q.same.first)
    (entries_within config log place l ∙ is)
    (λ q out. batch_last config (take place log) number e room out q)

pub repeated_connect_gets_the_same_batch : RepeatedConnectGetsTheSameBatch
repeated_connect_gets_the_same_batch config log number place room a =
    let r : Repetition config number (take place (entries config log)) a.entry =
    batch_repeats config number (take place (entries config log)) a.entry a.client a.id a.acked a.hold room a.outstanding a.overflow a.connect a.repeats in
    let last : LastAnswer (step config (session config number r.before) r.forming) r.same.first =
    last_within config log place number a.entry room (omega (arith, place_within config log place a.entry a.here)) (take place (entries config log)) refl r a.outstanding in
    let whole : take place (entries config log) ++ a.entry ∷ drop (place + 1) (entries config log) ≡ entries config log = entry_parts place (entries config log) a.entry a.here in
    let here : a.entry.place ≡ place = entry_placed config log place a.entry a.here in
    let split : (r.before ++ r.forming ∷ []) ++ (r.between ++ a.entry ∷ drop (place + 1) (entries config log)) ≡ entries config log =
    append_assoc r.before (r.forming ∷ []) (r.between ++ a.entry ∷ drop (place + 1) (entries config log))
    ∙ sym (append_assoc r.before (r.forming ∷ r.between) (a.entry ∷ drop (place + 1) (entries config log)))
    ∙ ap (λ (xs : List Entry). xs ++ a.entry ∷ drop (place + 1) (entries config log)) (sym r.split) ∙ whole in
    let formed : session config number (r.before ++ r.forming ∷ []) ≡ step config (session config number r.before) r.forming = fold-append (step config) (unopened number) r.before (r.forming ∷ []) in
    let first : LastOf config log number (length (r.before ++ r.forming ∷ [])) r.same.first =
    last_answer config log number (r.before ++ r.forming ∷ []) (r.between ++ a.entry ∷ drop (place + 1) (entries config log)) r.same.first room split
    (subst (λ (u : Session). LastAnswer u r.same.first) (sym formed) last) in
    let after : session config number (take place (entries config log) ++ a.entry ∷ []) ≡ step config (session config number (take place (entries config log))) a.entry =
    fold-append (step config) (unopened number) (take place (entries config log)) (a.entry ∷ []) in
    let again : LastOf config log number (length (take place (entries config log) ++ a.entry ∷ [])) r.same.again =
    last_answer config log number (take place (entries config log) ++ a.entry ∷ []) (drop (place + 1) (entries config log)) r.same.again room
    (append_assoc (take place (entries config log)) (a.entry ∷ []) (drop (place + 1) (entries config log)) ∙ whole)
    (subst (λ (u : Session). LastAnswer u r.same.again) (sym after) r.same.given) in
    let at : r.same.again.connect ≡ place = r.same.connect ∙ here in
    let front_length : length (r.before ++ r.forming ∷ []) ≡ length r.before + 1 = length-append r.before (r.forming ∷ []) in
    let count : length (r.before ++ r.forming ∷ []) ≤ place =
    let whole_length : length (take place (entries config log)) ≡ length r.before + suc (length r.between) = ap length r.split ∙ length-append r.before (r.forming ∷ r.between) in
    omega (arith, whole_length, front_length, length-take place (entries config log)) in
    let behind_is : take (length r.before + 1) (entries config log) ≡ r.before ++ r.forming ∷ [] =
    ap (λ (n : ℕ). take n (entries config log)) (sym front_length)
    ∙ ap (take (length (r.before ++ r.forming ∷ []))) (sym split)
    ∙ take-append_seam (r.before ++ r.forming ∷ []) (r.between ++ a.entry ∷ drop (place + 1) (entries config log)) in
    let before_is : take (length r.before) (entries config log) ≡ r.before =
    ap (take (length r.before)) (sym split ∙ append_assoc r.before (r.forming ∷ []) (r.between ++ a.entry ∷ drop (place + 1) (entries config log)))
    ∙ take-append_seam r.before ((r.forming ∷ []) ++ (r.between ++ a.entry ∷ drop (place + 1) (entries config log))) in
    let session_behind : session config number (take (length r.before + 1) (entries config log)) ≡ step config (session config number r.before) r.forming =
    ap (session config number) behind_is ∙ formed in
    let answered : answer config log r.same.first.connect ≡ Some (answer_of r.same.first) = session_answer config number r.same.first.connect log r.same.first first.found in
    let answered_again : answer config log place ≡ Some (answer_of r.same.again) =
    subst (λ (n : ℕ). answer config log n ≡ Some (answer_of r.same.again)) at (session_answer config number r.same.again.connect log r.same.again again.found) in
    record {
      former = r.same.first.connect;
      earlier = omega (arith, first.below, count);
      waits = waits_over config number r.same.first.connect log r.same.first first.found;
      waits_again = subst (λ (n : ℕ). slot_at config log n ≡ Some (Waiting number)) at (waits_over config number r.same.again.connect log r.same.again again.found);
      filed = r.same.first;
      formed = record {
        forming = length r.before;
        earlier = omega (arith, count, front_length);
        grew = ap (λ (u : Session). u.num) session_behind ∙ r.grew ∙ ap (λ (xs : List Entry). (session config number xs).num + 1) (sym before_is);
        current = ap (λ (u : Session). u.num) session_behind ∙ r.current;
        last = subst (λ (u : Session). LastAnswer u r.same.first) (sym session_behind) last;
      };
      first = answer_of r.same.first;
      again = answer_of r.same.again;
      first_is = record { found = first.found; is = refl };
      answered = answered;
      answered_again = answered_again;
      at_once = r.same.place ∙ here;
      first_number = r.same.number ∙ ap AckNumber r.current;
      again_number = r.same.same_number ∙ ap AckNumber r.current;
      events = ap events_of r.same.same;
      batch_is = ap events_of (gives_batch config number (take place (entries config log)) a.entry a.client a.id a.acked a.hold r.same.again room a.outstanding a.overflow a.connect a.repeats r.same.given);
      given = λ b g. same_given config log r.same.first.connect b (answer_of r.same.first) room answered g;
      given_again = λ b g. same_given config log place b (answer_of r.same.again) room answered_again g;
    }

-- ---- The places of answers

answers_below : (config : Config) (n : ℕ) (s : Session) (es : List Entry) → 0 < config.limits.batch → PlacesFrom n es → InStep config s → Each (λ f. f.place < n) s.answers →
    Each (λ f. f.place < n + length es) (fold (step config) s es).answers
answers_below config n s [] room d i h = each_map (λ f. f.place < n) (λ f. f.place < n + 0) s.answers (λ f l. omega (arith, l)) h
answers_below config n s (e ∷ es) room d i h =
    let m : Moved e.place s (step config s e) = step_moved config s e room i in
    let next : Each (λ f. f.place < n + 1) (step config s e).answers =
    subst (λ (fs : List Filed). Each (λ f. f.place < n + 1) fs) (sym m.answers)
    (each_append (λ f. f.place < n + 1) s.answers m.filed
    (each_map (λ f. f.place < n) (λ f. f.place < n + 1) s.answers (λ f l. omega (arith, l)) h)
    (each_map (λ f. f.place ≡ e.place) (λ f. f.place < n + 1) m.filed (λ f l. let p : e.place ≡ n = d.0 in omega (arith, l, p)) m.here)) in
    each_map (λ f. f.place < (n + 1) + length es) (λ f. f.place < n + length (e ∷ es)) (fold (step config) s (e ∷ es)).answers (λ f l. omega (arith, l))
    (answers_below config (n + 1) (step config s e) es room d.1 (stays_in_step config s e room i) next)

session_below : (config : Config) (number : ℕ) (es : List Entry) → 0 < config.limits.batch → PlacesFrom 0 es → Each (λ f. f.place < length es) (session config number es).answers
session_below config number es room d =
    each_map (λ f. f.place < 0 + length es) (λ f. f.place < length es) (session config number es).answers (λ f l. omega (arith, l))
    (answers_below config 0 (unopened number) es room d (unopened_in_step config number) tt)

find_behind : (n : ℕ) (P : Filed → Type 0) (test : Filed → Bool) (fs gs : List Filed) (f : Filed) → n ≤ f.place → Each (λ g. g.place < n) fs → Each P gs → find test (fs ++ gs) ≡ Some f → P f
find_behind n P test fs gs f l b d e =
    let earlier : find test fs ≡ Some f → f.place < n = λ h. find_each (λ g. g.place < n) test fs f h b in
    let later : find test gs ≡ Some f → P f = λ h. find_each P test gs f h d in
    grind (arith, find-append test fs gs, earlier, later)

-- ---- Acknowledged events

record Parts (n : ℕ) (es : List Entry) : Type 0 where
  entry : Entry
  rest : List Entry
  whole : take n es ++ entry ∷ rest ≡ es
  next : take n es ++ entry ∷ [] ≡ take (n + 1) es

parts : (n : ℕ) (es : List Entry) → n < length es → Parts n es
parts n [] h = absurd (omega (arith, h))
parts zero (e ∷ es) h = record { entry = e; rest = es; whole = refl; next = refl }
parts (suc n) (e ∷ es) h =
    let p : Parts n es = parts n es (omega (arith, h)) in
    let k : suc (n + 1) ≡ suc n + 1 = omega arith in
    record {
      entry = p.entry;
      rest = p.rest;
      whole = ap (λ (xs : List Entry). e ∷ xs) p.whole;
      next = ap (λ (xs : List Entry). e ∷ xs) p.next ∙ ap (λ (m : ℕ). take m (e ∷ es)) k;
    }

later_from : (config : Config) (number n place : ℕ) (es : List Entry) (f : Filed) → 0 < config.limits.batch → PlacesFrom 0 es → n ≤ f.place → f.place < length es →
    find (λ (g : Filed). g.connect == place) (session config number es).answers ≡ Some f →
    AllBelow (take (cond (session config number (take (n + 1) es)).ack (session config number (take (n + 1) es)).done (session config number (take n es)).done) (session config number es).events) f.publications
later_from config number n place es f room d l u e =
    let p : Parts n es = parts n es (omega (arith, l, u)) in
    let s : Session = session config number (take n es) in
    let v : Session = step config (session config number (take n es)) p.entry in
    let t : Session = fold (step config) (step config (session config number (take n es)) p.entry) p.rest in
    let whole : session config number es ≡ t = ap (session config number) (sym p.whole) ∙ fold-append (step config) (unopened number) (take n es) (p.entry ∷ p.rest) in
    let next : v ≡ session config number (take (n + 1) es) = sym (fold-append (step config) (unopened number) (take n es) (p.entry ∷ [])) ∙ ap (session config number) p.next in
    let order : PlacesFrom 0 (take n es ++ p.entry ∷ p.rest) = subst (PlacesFrom 0) (sym p.whole) d in
    let g : GivesLater s v t = no_event_twice config number (take n es) p.entry p.rest room order in
    let front : Each (λ h. h.place < n) s.answers =
    each_map (λ h. h.place < length (take n es)) (λ h. h.place < n) s.answers (λ h b. omega (arith, b, length-take n es)) (session_below config number (take n es) room (places_front 0 (take n es) (p.entry ∷ p.rest) order)) in
    let here : find (λ (h : Filed). h.connect == place) (s.answers ++ g.filed) ≡ Some f = sym (ap (λ (w : Session). find (λ (h : Filed). h.connect == place) w.answers) whole ∙ ap (find (λ (h : Filed). h.connect == place)) g.answers) ∙ e in
    let found : AllBelow (take (cond v.ack v.done s.done) t.events) f.publications =
    find_behind n (λ h. AllBelow (take (cond v.ack v.done s.done) t.events) h.publications) (λ h. h.connect == place) s.answers g.filed f l front g.apart here in
    subst (λ (w : Session). AllBelow (take (cond w.ack w.done s.done) (session config number es).events) f.publications) next
    (subst (λ (w : Session). AllBelow (take (cond v.ack v.done s.done) w.events) f.publications) (sym whole) found)

pub acknowledged_events_are_not_given_again : AcknowledgedEventsAreNotGivenAgain
acknowledged_events_are_not_given_again config log number place a room w g =
    let f : FiledFor config log number place a = filed_answer config log number place a room w g in
    let at : a.place ≡ f.filed.place = ap (λ (b : PlacedAnswer). b.place) f.is.is in
    let below : f.filed.place < length (entries config log) =
    find_each (λ h. h.place < length (entries config log)) (λ h. h.connect == place) (session config number (entries config log)).answers f.filed f.is.found
    (session_below config number (entries config log) room (entries_in_order config log)) in
    record {
      filed = f.filed;
      filed_is = f.is;
      later = λ n l. later_from config number n place (entries config log) f.filed room (entries_in_order config log) (omega (arith, l, at)) below f.is.found;
    }

-- ---- Parts of a list of publications

of_front : (P : Publication → Type 0) (ps qs : List Publication) → EachOf P (ps ++ qs) → EachOf P ps
of_front P [] qs d = tt
of_front P (p ∷ ps) qs d = (d.0, of_front P ps qs d.1)

of_rest : (P : Publication → Type 0) (ps qs : List Publication) → EachOf P (ps ++ qs) → EachOf P qs
of_rest P [] qs d = d
of_rest P (p ∷ ps) qs d = of_rest P ps qs d.1

rising_take : (n : ℕ) (ps : List Publication) → Rising ps → Rising (take n ps)
rising_take zero [] r = tt
rising_take zero (p ∷ ps) r = tt
rising_take (suc n) [] r = tt
rising_take (suc n) (p ∷ ps) r = (each_of_take (λ q. p.place < q.place) n ps r.0, rising_take n ps r.1)

rising_rest : (ps qs : List Publication) → Rising (ps ++ qs) → Rising qs
rising_rest [] qs r = r
rising_rest (p ∷ ps) qs r = rising_rest ps qs r.1

rising_below : (ps qs : List Publication) → Rising (ps ++ qs) → AllBelow ps qs
rising_below [] qs r = tt
rising_below (p ∷ ps) qs r = (of_rest (λ q. p.place < q.place) ps qs r.0, rising_below ps qs r.1)

-- ---- Two answers

of_each : (P : Publication → Type 0) (fs : List Filed) → EachOf P (given_in fs) → Each (λ f. EachOf P f.publications) fs
of_each P [] d = tt
of_each P (f ∷ fs) d = (of_front P f.publications (given_in fs) d, of_each P fs (of_rest P f.publications (given_in fs) d))

below_found : (ps : List Publication) (test : Filed → Bool) (fs : List Filed) (f : Filed) → find test fs ≡ Some f → AllBelow ps (given_in fs) → AllBelow ps f.publications
below_found [] test fs f e d = tt
below_found (p ∷ ps) test fs f e d = (
  find_each (λ g. EachOf (λ q. p.place < q.place) g.publications) test fs f e (of_each (λ q. p.place < q.place) fs d.0),
  below_found ps test fs f e d.1,
)

below_none : (ps : List Publication) → AllBelow ps []
below_none [] = tt
below_none (p ∷ ps) = (tt, below_none ps)

found_apart : (fs : List Filed) (a b : ℕ) (f g : Filed) → Ordered fs → Rising (given_in fs) → a < b → find (λ (h : Filed). h.connect == a) fs ≡ Some f → find (λ (h : Filed). h.connect == b) fs ≡ Some g →
    AllBelow f.publications g.publications
found_apart [] a b f g r s l e k = cc
found_apart (h ∷ fs) a b f g r s l e k =
    let at_a : Filed → Bool = λ x. x.connect == a in
    let at_b : Filed → Bool = λ x. x.connect == b in
    let later : find at_b fs ≡ Some g → AllBelow h.publications g.publications = λ q. below_found h.publications at_b fs g q (rising_below h.publications (given_in fs) s) in
    let earlier : find at_a fs ≡ Some f → Before f.connect h × (f.connect ≡ a) = λ q. (find_each (λ x. Before x.connect h) at_a fs f q r.0, eqb-true f.connect a (find_true at_a fs f q)) in
    let none : AllBelow f.publications [] = below_none f.publications in
    grind (arith, later, earlier, none, found_apart fs a b f g r.1 (rising_rest h.publications (given_in fs) s) l)

plain_rises : (config : Config) (log : List Listed) (number : ℕ) → 0 < config.limits.batch → (session config number (entries config log)).ack ≡ false → Rising (given_in (session config number (entries config log)).answers)
plain_rises config log number room plain =
    let s : Session = session config number (entries config log) in
    subst Rising (sym (given_once config number (entries config log) room plain)) (rising_take s.done s.events (events_have_ascending_places config number (entries config log) (entries_in_order config log)))

pub answers_share_no_event : AnswersShareNoEvent
answers_share_no_event config log number place later a b room plain l w v g h =
    let x : FiledFor config log number place a = filed_answer config log number place a room w g in
    let y : FiledFor config log number later b = filed_answer config log number later b room v h in
    let fs : List Filed = (session config number (entries config log)).answers in
    record {
      filed = x.filed;
      next = y.filed;
      filed_is = x.is;
      next_is = y.is;
      apart = found_apart fs place later x.filed y.filed (session_turn config number (entries config log) room (entries_in_order config log)).ordered
          (plain_rises config log number room plain) l x.is.found y.is.found;
    }
