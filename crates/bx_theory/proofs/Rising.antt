-- The events of a session have rising places, so no event is sent twice.
use Rattle.std.proofs.Common.{◌≡◌, ℕ, zero, suc, ◌+◌, ◌-◌, ◌<◌, ◌≤◌, cond, List, [], ◌∷◌, ◌++◌, take, drop, fold, refl, sym, ap, ◌∙◌, subst, arith}
use Rattle.std.proofs.lemmas.{List.drop-drop, List.Sums.fold-append}
use Rattle.std.proofs.ByRecursion.{All-weaker}
pub use Rattle.std.proofs.ByRecursion.{All-take as each_of_take, All-drop as each_of_drop}
use Rattle.bx_advice.specs.declared.config.Config.{Config}
use Rattle.bx_entry.specs.Sessions.{Session, Publication, step, session, unopened}
use Rattle.bx_theory.specs.Events.{Rising}
use Rattle.bx_theory.specs.Laws.{EachOf, AllBelow, Slice, GivesFrom, GivesLater, NoEventTwice}
use Rattle.bx_theory.proofs.{Gained.events_have_ascending_places, Moves.each_map, Runs.never_given_again}

-- ---- Answers without done events

rising_apart : (n : ℕ) (ps : List Publication) → Rising ps → AllBelow (take n ps) (drop n ps)
rising_apart zero ps r = tt
rising_apart (suc n) [] r = tt
rising_apart (suc n) (p ∷ ps) r = (each_of_drop (λ q. p.place < q.place) n ps r.0, rising_apart n ps r.1)

nothing_below : (ps : List Publication) → AllBelow ps []
nothing_below [] = tt
nothing_below (p ∷ ps) = (tt, nothing_below ps)

slice_apart : (events given : List Publication) (low : ℕ) → Rising events → Slice events low given → AllBelow (take low events) given
slice_apart events given low r s =
    let P : ℕ → Type 0 = λ c. s.count ≡ c → AllBelow (take low events) given in
    let none : P 0 = λ e. subst (AllBelow (take low events)) (sym (s.is ∙ ap (λ (c : ℕ). take c (drop s.from events)) e)) (nothing_below (take low events)) in
    let some : (c : ℕ) → P (suc c) = λ c e.
    let above : low ≤ s.from = s.above (omega (arith, e)) in
    let whole : drop (s.from - low) (drop low events) ≡ drop s.from events = drop-drop (s.from - low) low events ∙ ap (λ (k : ℕ). drop k events) (let k : low + (s.from - low) ≡ s.from = omega arith in k) in
    subst (AllBelow (take low events)) (sym s.is)
    (All-weaker (λ p. EachOf (λ q. p.place < q.place) (drop low events)) (λ p. EachOf (λ q. p.place < q.place) (take s.count (drop s.from events)))
    (λ p h. each_of_take (λ q. p.place < q.place) s.count (drop s.from events) (subst (EachOf (λ q. p.place < q.place)) whole (each_of_drop (λ q. p.place < q.place) (s.from - low) (drop low events) h))) (take low events)
    (rising_apart low events r)) in
    (elim s.count as P [ zero ↦ none | suc c ↦ some c ]) refl

gives_later : (config : Config) (s u t : Session) → Rising t.events → GivesFrom config s u t → GivesLater s u t
gives_later config s u t r g = record {
  filed = g.filed;
  answers = g.answers;
  apart = each_map (λ f. Slice t.events (cond u.ack u.done s.done) f.publications) (λ f. AllBelow (take (cond u.ack u.done s.done) t.events) f.publications) g.filed
      (λ f c. slice_apart t.events f.publications (cond u.ack u.done s.done) r c) g.slices;
}

pub no_event_twice : NoEventTwice
no_event_twice config number xs e ys room d =
    let s = session config number xs in
    let whole : fold (step config) (unopened number) (xs ++ e ∷ ys) ≡ fold (step config) (step config s e) ys = fold-append (step config) (unopened number) xs (e ∷ ys) in
    gives_later config s (step config s e) (fold (step config) (step config s e) ys)
    (subst (λ (t : Session). Rising t.events) whole (events_have_ascending_places config number (xs ++ e ∷ ys) d))
    (never_given_again config number xs e ys room)
