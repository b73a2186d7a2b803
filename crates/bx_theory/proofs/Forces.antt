-- A pattern is active exactly if a subscription mentioned it last, and the session has not
-- overflowed.
use Rattle.std.proofs.Common.{◌≡◌, ℕ, Bool, true, false, not, ◌&&◌, ◌||◌, Option, Some, None, List, [], ◌∷◌, fold, filter_map, refl, sym, ap, ◌∙◌, arith}
use Rattle.std.proofs.lemmas.{Bool.cond-true, Bool.cond-false, Bool.false_from_ne_true, Bool.both_ways, Grind.common_steps}
use Rattle.std.specs.List.{cons_option}
use Rattle.bx_history.proofs.Tests.{either}
use Rattle.bx_advice.specs.declared.config.Config.{Config}
use Rattle.bx_names.specs.Words.{Glob, same_glob, in_force, with_pattern, without_pattern, same_glob-decides}
use Rattle.bx_entry.specs.declared.entry.{Entry.Entry, EntryKind.EntryKind, Rider.Rider}
use Rattle.bx_entry.specs.declared.entry.EntryKind.TheVariants.{Subscribe, Unsubscribe}
use Rattle.bx_entry.specs.Sessions.{Session, step_by, step, unopened, ridden_by, rider_of}
use Rattle.bx_theory.specs.Readings.{mention_by, last_of, InForceReading}
use Rattle.bx_theory.proofs.{Keeps.or_false, Stages.step_number}

-- ---- One pattern more or less

with_force : (qs : List Glob) (q p : Glob) → in_force (with_pattern qs q) p ≡ (in_force qs p || same_glob p q)
with_force qs q p = grind (arith, common_steps, same_glob-decides)

with_all : (qs ps : List Glob) (p : Glob) → in_force (fold with_pattern qs ps) p ≡ (in_force qs p || in_force ps p)
with_all qs [] p = or_false (in_force qs p)
with_all qs (q ∷ ps) p = grind (arith, common_steps, with_all (with_pattern qs q) ps p, with_force qs q p)

drops_out : (a c d : Bool) → (a ≡ true → d ≡ true) → ((a || c) && not d) ≡ (c && not d)
drops_out true true d h = refl
drops_out true false true h = refl
drops_out true false false h = absurd (both_ways false refl (h refl))
drops_out false c d h = refl

without_force : (qs : List Glob) (q p : Glob) → in_force (without_pattern qs q) p ≡ (in_force qs p && not (same_glob p q))
without_force [] q p = refl
without_force (r ∷ qs) q p = either (same_glob q r) (in_force (without_pattern (r ∷ qs) q) p ≡ (in_force (r ∷ qs) p && not (same_glob p q)))
    (λ h. ap (λ (rs : List Glob). in_force rs p) (cond-false (not (same_glob q r)) (r ∷ without_pattern qs q) (without_pattern qs q) (ap not h))
    ∙ without_force qs q p
    ∙ sym (drops_out (same_glob p r) (in_force qs p) (same_glob p q) (λ g. (same_glob-decides p q).1 ((same_glob-decides p r).0 g ∙ sym ((same_glob-decides q r).0 h)))))
    (λ h. ap (λ (rs : List Glob). in_force rs p) (cond-true (not (same_glob q r)) (r ∷ without_pattern qs q) (without_pattern qs q) (ap not h))
    ∙ ap (λ b. same_glob p r || b) (without_force qs q p)
    ∙ stays_in (same_glob p r) (in_force qs p) (same_glob p q) (λ g. false_from_ne_true (same_glob p q) (λ k. both_ways (same_glob q r) h ((same_glob-decides q r).1 (sym ((same_glob-decides p q).0 k) ∙ (same_glob-decides p r).0 g)))))
  where
    stays_in : (a c d : Bool) → (a ≡ true → d ≡ false) → (a || (c && not d)) ≡ ((a || c) && not d)
    stays_in true c d k = sym (ap not (k refl))
    stays_in false c d k = refl

without_all : (qs ps : List Glob) (p : Glob) → in_force (fold without_pattern qs ps) p ≡ (in_force qs p && not (in_force ps p))
without_all qs [] p = grind (arith, common_steps)
without_all qs (q ∷ ps) p = grind (arith, common_steps, without_all (without_pattern qs q) ps p, without_force qs q p)

-- ---- One entry

abbrev next : Bool → Option Bool → Bool
next b None = b
next b (Some c) = c

abbrev Says : Glob → Bool → Session → Type 0
Says p b s = in_force s.patterns p ≡ (not s.overflow && b)

step_by_says : (config : Config) (place moment : ℕ) (s : Session) (p : Glob) (b : Bool) (k : EntryKind) → Says p b s → Says p (next b (mention_by s.number p k)) (step_by config place moment s k)
step_by_says config place moment s p b (Subscribe n ps) h = grind (arith, common_steps, with_all)
step_by_says config place moment s p b (Unsubscribe n ps) h = grind (arith, common_steps, without_all)
step_by_says config place moment s p b _ h = grind (arith, common_steps)

ride_says : (config : Config) (place : ℕ) (s : Session) (p : Glob) (b : Bool) (rides : Option Rider) → Says p b s → Says p b (ridden_by config place s rides)
ride_says config place s p b rides h = grind (arith, common_steps)

last_next : (b : Bool) (o : Option Bool) (h : Entry → Option Bool) (e : Entry) (es : List Entry) → h e ≡ o → last_of (next b o) (filter_map h es) ≡ last_of b (filter_map h (e ∷ es))
last_next b None h e es g = sym (ap (λ (o : Option Bool). last_of b (cons_option o (filter_map h es))) g)
last_next b (Some c) h e es g = sym (ap (λ (o : Option Bool). last_of b (cons_option o (filter_map h es))) g)

run_says : (config : Config) (s : Session) (es : List Entry) (p : Glob) (b : Bool) → Says p b s → Says p (last_of b (filter_map (λ (e : Entry). mention_by s.number p e.kind) es)) (fold (step config) s es)
run_says config s [] p b h = h
run_says config s (e ∷ es) p b h =
    let t : Session = fold (step config) (step config s e) es in
    let now : Bool = next b (mention_by s.number p e.kind) in
    run_says config (step config s e) es p now (ride_says config e.place (step_by config e.place e.moment s e.kind) p now (rider_of e.kind e.rides) (step_by_says config e.place e.moment s p b e.kind h))
    ∙ ap (λ (n : ℕ). not t.overflow && last_of now (filter_map (λ (x : Entry). mention_by n p x.kind) es)) (step_number config s e)
    ∙ ap (λ (q : Bool). not t.overflow && q) (last_next b (mention_by s.number p e.kind) (λ (x : Entry). mention_by s.number p x.kind) e es refl)

pub pattern_active_if_last_subscribed : InForceReading
pattern_active_if_last_subscribed config number es p = run_says config (unopened number) es p false refl
