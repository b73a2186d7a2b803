-- All sessions get their events in one order.
use Rattle.std.proofs.Common.{◌≡◌, ◌⊎◌, inl, inr, ⊎_elim, ◌∙◌, ℕ, ◌+◌, ◌<◌, ◌≤◌, ◌==◌, Bool, false, cond, Option, Some, None, List, [], ◌∷◌, ◌++◌, map, refl, sym, ap, subst, arith, append_assoc, filter_map}
use Rattle.std.proofs.lemmas.{Grind.common_steps}
use Rattle.std.proofs.ByRecursion.{All-weaker}
use Rattle.std.specs.List.{cons_option, filter}
use mathlib.Core.List.{IsPrefix}
use Rattle.bx_advice.specs.declared.config.Config.{Config}
use Rattle.bx_entry.specs.Sessions.{Filed, Publication, Session, session, unopened}
use Rattle.bx_entry.specs.Words.{Judged, Listed, PlacedAnswer, entries, events_of, registry}
use Rattle.bx_entry.specs.declared.entry.{Entry.Entry, EntryKind.EntryKind}
use Rattle.bx_entry.specs.declared.entry.EntryKind.TheVariants.{Publish}
use Rattle.bx_theory.specs.Events.{Rising, GetsPublish}
use Rattle.bx_theory.specs.Fronts.{GivenLater}
use Rattle.bx_theory.specs.Laws.{Each, EachOf, PlacesFrom, Slice}
use Rattle.bx_theory.proofs.{Gained.events_have_ascending_places, Gained.events_were_published, Fronts.acknowledged_events_are_not_given_again, Counts.unopened_in_step, Lists.entries_in_order, Lists.find_each, Runs.Grown, Runs.all_places, Runs.run_grown, Verdicts.entries_after, Verdicts.found_from}
use Rattle.bx_laws.specs.EventOrder.{AnswersInOrder, EventsInOneOrder, events_over, has_place, publication_by, publications}

-- ---- Filters

filter_same : (f g : Publication → Bool) (ys : List Publication) → EachOf (λ y. f y ≡ g y) ys → filter f ys ≡ filter g ys
filter_same f g [] d = refl
filter_same f g (y ∷ ys) d = grind (arith, common_steps, filter_same f g ys d.1)

filter_swap : (f g : Publication → Bool) (ys : List Publication) → filter g (filter f ys) ≡ filter f (filter g ys)
filter_swap f g [] = refl
filter_swap f g (y ∷ ys) = grind (arith, common_steps, filter_swap f g ys)

-- ---- Elements

abbrev Has : List Publication → Publication → Type 0
Has [] p = ⊥
Has (q ∷ qs) p = (p ≡ q) ⊎ Has qs p

has_each : (P : Publication → Type 0) (ys : List Publication) (x : Publication) → EachOf P ys → Has ys x → P x
has_each P [] x d h = absurd h
has_each P (y ∷ ys) x d (inl e) = subst P (sym e) d.0
has_each P (y ∷ ys) x d (inr h) = has_each P ys x d.1 h

none_at : (n : ℕ) (xs : List Publication) → EachOf (λ x. n < x.place) xs → has_place xs n ≡ false
none_at n [] d = refl
none_at n (x ∷ xs) d = grind (arith, common_steps, none_at n xs d.1, d.0)

later_has : (y : Publication) (ys xs : List Publication) → EachOf (λ x. y.place < x.place) xs → EachOf (Has (y ∷ ys)) xs → EachOf (Has ys) xs
later_has y ys [] d h = tt
later_has y ys (x ∷ xs) d h =
    let same : x ≡ y → ⊥ = λ e. let p : x.place ≡ y.place = ap (λ (q : Publication). q.place) e in omega (arith, p, d.0) in
    (⊎_elim (λ e. absurd (same e)) (λ g. g) h.0, later_has y ys xs d.1 h.1)

skips : (x : Publication) (xs ys : List Publication) → EachOf (λ y. x.place < y.place) ys → EachOf (λ y. has_place (x ∷ xs) y.place ≡ has_place xs y.place) ys
skips x xs [] d = tt
skips x xs (y ∷ ys) d = ((let l : x.place < y.place = d.0 in grind (arith, common_steps)), skips x xs ys d.1)

-- ---- Rising lists

pick : (ys xs : List Publication) → Rising xs → Rising ys → EachOf (Has ys) xs → filter (λ p. has_place xs p.place) ys ≡ xs
pick [] [] r s h = refl
pick [] (x ∷ xs) r s h = absurd h.0
pick (y ∷ ys) [] r s h = pick ys [] r s.1 tt
pick (y ∷ ys) (x ∷ xs) r s h =
    let Q : Type 0 = filter (λ (p : Publication). has_place (x ∷ xs) p.place) (y ∷ ys) ≡ x ∷ xs in
    let here : x ≡ y → Q = λ e.
    let at : x.place ≡ y.place = ap (λ (q : Publication). q.place) e in
    let above : EachOf (λ q. x.place < q.place) ys = subst (λ (q : Publication). EachOf (λ z. q.place < z.place) ys) (sym e) s.0 in
    let rest : filter (λ (p : Publication). has_place (x ∷ xs) p.place) ys ≡ xs =
    filter_same (λ (p : Publication). has_place (x ∷ xs) p.place) (λ (p : Publication). has_place xs p.place) ys (skips x xs ys above)
    ∙ pick ys xs r.1 s.1 (later_has y ys xs (subst (λ (q : Publication). EachOf (λ z. q.place < z.place) xs) e r.0) h.1) in
    grind (arith, common_steps) in
    let later : Has ys x → Q = λ g.
    let low : y.place < x.place = has_each (λ q. y.place < q.place) ys x s.0 g in
    let all : EachOf (λ q. y.place < q.place) (x ∷ xs) = (low, All-weaker (λ q. x.place < q.place) (λ q. y.place < q.place) (λ q l. omega (arith, l, low)) xs r.0) in
    let none : has_place (x ∷ xs) y.place ≡ false = none_at y.place (x ∷ xs) all in
    let rest : filter (λ (p : Publication). has_place (x ∷ xs) p.place) ys ≡ x ∷ xs = pick ys (x ∷ xs) r s.1 (g, later_has y ys xs all.1 h.1) in
    ap (λ b. cond b (y ∷ filter (λ (p : Publication). has_place (x ∷ xs) p.place) ys) (filter (λ (p : Publication). has_place (x ∷ xs) p.place) ys)) none ∙ rest in
    ⊎_elim here later h.0

-- ---- The accepted publishes of a list

abbrev publications_in : List Entry → List Publication
publications_in es = filter_map (λ (e : Entry). publication_by e.place e.kind) es

record RisingFrom (n : ℕ) (ps : List Publication) : Type 0 where
  rising : Rising ps
  above : EachOf (λ p. n ≤ p.place) ps

rising_next : (n : ℕ) (place : ℕ) (k : EntryKind) (ps : List Publication) → place ≡ n → RisingFrom (n + 1) ps → RisingFrom n (cons_option (publication_by place k) ps)
rising_next n place (Publish event) ps h r = record {
  rising = (All-weaker (λ p. n + 1 ≤ p.place) (λ p. place < p.place) (λ p l. omega (arith, l, h)) ps r.above, r.rising);
  above = (omega (arith, h), All-weaker (λ p. n + 1 ≤ p.place) (λ p. n ≤ p.place) (λ p l. omega (arith, l)) ps r.above);
}
rising_next n place _ ps h r = record { rising = r.rising; above = All-weaker (λ p. n + 1 ≤ p.place) (λ p. n ≤ p.place) (λ p l. omega (arith, l)) ps r.above }

publications_rise : (n : ℕ) (es : List Entry) → PlacesFrom n es → RisingFrom n (publications_in es)
publications_rise n [] d = record { rising = tt; above = tt }
publications_rise n (e ∷ es) d = rising_next n e.place e.kind (publications_in es) d.0 (publications_rise (n + 1) es d.1)

has_next : (o : Option Publication) (ps : List Publication) (p : Publication) → Has ps p → Has (cons_option o ps) p
has_next None ps p h = h
has_next (Some q) ps p h = inr h

has_first : (place : ℕ) (k : EntryKind) (ps : List Publication) (p : Publication) → place ≡ p.place → k ≡ Publish p.event → Has (cons_option (publication_by place k) ps) p
has_first place k ps p h e =
    subst (λ (n : ℕ). Has (cons_option (publication_by n k) ps) p) (sym h)
    (subst (λ (x : EntryKind). Has (cons_option (publication_by p.place x) ps) p) (sym e) (inl refl))

has_within : (before : List Entry) (entry : Entry) (behind : List Entry) (p : Publication) → entry.place ≡ p.place → entry.kind ≡ Publish p.event → Has (publications_in (before ++ entry ∷ behind)) p
has_within [] entry behind p h e = has_first entry.place entry.kind (publications_in behind) p h e
has_within (x ∷ before) entry behind p h e = has_next (publication_by x.place x.kind) (publications_in (before ++ entry ∷ behind)) p (has_within before entry behind p h e)

gets_has : (config : Config) (number : ℕ) (es more : List Entry) (p : Publication) → GetsPublish config number es p → Has (publications_in (es ++ more)) p
gets_has config number es more p g =
    let whole : g.before ++ (g.entry ∷ (g.behind ++ more)) ≡ es ++ more = sym (ap (λ (xs : List Entry). xs ++ more) g.split ∙ append_assoc g.before (g.entry ∷ g.behind) more) in
    subst (λ (xs : List Entry). Has (publications_in xs) p) whole (has_within g.before g.entry (g.behind ++ more) p g.place g.kind)

-- ---- The law

in_order : (config : Config) (list front : List Listed) (m : ℕ) → IsPrefix front list → events_over config front m ≡ filter (λ p. has_place (events_over config front m) p.place) (publications config list)
in_order config list front m b =
    let es : List Entry = entries config front in
    let more : List Entry = map (λ (j : Judged). j.entry) (found_from config (registry config front) b.0) in
    let whole : entries config list ≡ es ++ more = ap (entries config) (sym b.1) ∙ entries_after config front b.0 in
    let each : EachOf (Has (publications_in (es ++ more))) (events_over config front m) =
    All-weaker (GetsPublish config m es) (Has (publications_in (es ++ more))) (gets_has config m es more) (events_over config front m) (events_were_published config m es) in
    let all : EachOf (Has (publications config list)) (events_over config front m) = subst (λ (xs : List Entry). EachOf (Has (publications_in xs)) (events_over config front m)) (sym whole) each in
    sym (pick (publications config list) (events_over config front m) (events_have_ascending_places config m es (entries_in_order config front)) (publications_rise 0 (entries config list) (entries_in_order config list)).rising all)

pub events_in_one_order : EventsInOneOrder
events_in_one_order config list front other m n b c =
    let f : Publication → Bool = λ p. has_place (events_over config front m) p.place in
    let g : Publication → Bool = λ p. has_place (events_over config other n) p.place in
    let first : events_over config front m ≡ filter f (publications config list) = in_order config list front m b in
    let second : events_over config other n ≡ filter g (publications config list) = in_order config list other n c in
    record {
      first = first;
      second = second;
      both = ap (filter g) first ∙ filter_swap f g (publications config list) ∙ ap (filter f) (sym second);
    }

-- ---- Answers

session_slices : (config : Config) (number : ℕ) (es : List Entry) → 0 < config.limits.batch → Each (λ f. Slice (session config number es).events 0 f.publications) (session config number es).answers
session_slices config number es room =
    let s : Session = session config number es in
    let g : Grown 0 (unopened number) (session config number es) = run_grown config 0 (unopened number) es room (unopened_in_step config number) (all_places es) in
    subst (λ (fs : List Filed). Each (λ f. Slice s.events 0 f.publications) fs) (sym g.answers) g.slices

pub answers_in_order : AnswersInOrder
answers_in_order config list number place a room w g =
    let l : GivenLater config list number place a = acknowledged_events_are_not_given_again config list number place a room w g in
    let s : Session = session config number (entries config list) in
    let part : Slice s.events 0 l.filed.publications =
    find_each (λ f. Slice s.events 0 f.publications) (λ (f : Filed). f.connect == place) s.answers l.filed l.filed_is.found (session_slices config number (entries config list) room) in
    record { from = part.from; count = part.count; is = ap (λ (b : PlacedAnswer). b.events) l.filed_is.is ∙ ap events_of part.is }
