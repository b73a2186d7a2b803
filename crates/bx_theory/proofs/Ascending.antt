-- The inputs with an unanswered message are in the order of their numbers and of their places.
use Rattle.std.proofs.Common.{◌≡◌, ℕ, zero, suc, ◌+◌, ◌<◌, ◌≤◌, ⊎_elim, Bool, true, not, Option, Some, None, List, [], ◌∷◌, ◌++◌, length, map, filter, fold, slice_index, sym, subst, arith, length-append}
use Rattle.std.proofs.lemmas.{Bool.cond_both, Bool.both_ways, Bool.cases_lt, Bool.not-true, Grind.common_steps}
use Rattle.std.specs.List.Sorted.{IsStrictlyIncreasing}
use Rattle.bx_advice.specs.declared.config.Config.{Config}
use Rattle.bx_entry.specs.Words.{Listed, ReadInput, refusal_of, added_by, registry, Intake, Taking, taken_as, take_in, taken_in}
use Rattle.bx_entry.specs.declared.input.Refusal.{Refusal}
use Rattle.bx_theory.specs.Opens.{Numbered, numbered_from, is_whole}
use Rattle.bx_theory.specs.Sole.{OpensAscend}
use Rattle.bx_theory.proofs.Sole.{none_missing}

abbrev Climbs : ℕ → List ℕ → Type 0
Climbs low [] = Unit {0}
Climbs low (n ∷ ns) = (low ≤ n) × Climbs (n + 1) ns

climbs_lower : (low high : ℕ) (ns : List ℕ) → low ≤ high → Climbs high ns → Climbs low ns
climbs_lower low high [] h c = tt
climbs_lower low high (n ∷ ns) h c = (omega (arith, h, c.0), c.1)

climbs_increase : (low : ℕ) (ns : List ℕ) → Climbs low ns → IsStrictlyIncreasing ns
climbs_increase low [] c k h = absurd (omega arith)
climbs_increase low (n ∷ []) c k h = absurd (omega arith)
climbs_increase low (n ∷ m ∷ ns) c zero h = omega (arith, c.1.0)
climbs_increase low (n ∷ m ∷ ns) c (suc k) h =
    let same : suc k + 1 ≡ suc (k + 1) = omega arith in
    let rest : slice_index (m ∷ ns) k < slice_index (m ∷ ns) (k + 1) = climbs_increase (n + 1) (m ∷ ns) c.1 k (omega arith) in
    subst (λ (i : ℕ). slice_index (m ∷ ns) k < slice_index (n ∷ m ∷ ns) i) (sym same) rest

-- ---- Numbers

numbers_climb : (test : Numbered → Bool) (number : ℕ) (ds : List Intake) → Climbs number (map (λ (o : Numbered). o.number) (filter test (numbered_from number ds)))
numbers_climb test number [] = tt
numbers_climb test number (d ∷ ds) = grind (arith, common_steps, numbers_climb test (number + 1) ds, climbs_lower number (number + 1))

-- ---- Places

abbrev Follow : ℕ → ℕ → List Intake → Type 0
Follow low end [] = low ≤ end
Follow low end (d ∷ ds) = (low ≤ d.first) × Follow (d.first + d.count) end ds

follow_push : (low end past : ℕ) (ds : List Intake) (d : Intake) → end ≤ d.first → d.first + d.count ≤ past → Follow low end ds → Follow low past (ds ++ d ∷ [])
follow_push low end past [] d h l f = (omega (arith, f, h), l)
follow_push low end past (c ∷ ds) d h l f = (f.0, follow_push (c.first + c.count) end past ds d h l f.1)

taken_as_follow : (t : Taking) (input : ReadInput) (o : Option Refusal) → Follow 0 (length t.list) t.intake → Follow 0 (length (taken_as t input o).list) (taken_as t input o).intake
taken_as_follow t input None f = follow_push 0 (length t.list) (length (t.list ++ added_by input)) t.intake _ (omega arith) (omega (arith, length-append t.list (added_by input))) f
taken_as_follow t input (Some refusal) f = follow_push 0 (length t.list) (length t.list) t.intake _ (omega arith) (omega arith) f

run_follow : (t : Taking) (inputs : List ReadInput) → Follow 0 (length t.list) t.intake → Follow 0 (length (fold take_in t inputs).list) (fold take_in t inputs).intake
run_follow t [] f = f
run_follow t (i ∷ inputs) f = run_follow (take_in t i) inputs (taken_as_follow t i (refusal_of (length t.list) i) f)

has_one : (config : Config) (list : List Listed) (o : Numbered) → not (is_whole config (registry config list) o) ≡ true → 0 < o.intake.count
has_one config list o h = ⊎_elim
    (λ l. l)
    (λ l. absurd (both_ways (is_whole config (registry config list) o) (not-true (is_whole config (registry config list) o) h) (none_missing config list o.intake o.intake.input (omega (arith, l)))))
    (cases_lt 0 o.intake.count)

places_climb : (config : Config) (list : List Listed) (low end number : ℕ) (ds : List Intake) → Follow low end ds →
    Climbs low (map (λ (o : Numbered). o.intake.first) (filter (λ (o : Numbered). not (is_whole config (registry config list) o)) (numbered_from number ds)))
places_climb config list low end number [] f = tt
places_climb config list low end number (d ∷ ds) f =
    let o : Numbered = record { number = number; intake = d } in
    let rest : List Numbered = filter (λ (p : Numbered). not (is_whole config (registry config list) p)) (numbered_from (number + 1) ds) in
    let firsts : List Numbered → List ℕ = map (λ (p : Numbered). p.intake.first) in
    let others : Climbs (d.first + d.count) (map (λ (p : Numbered). p.intake.first) (filter (λ (p : Numbered). not (is_whole config (registry config list) p)) (numbered_from (number + 1) ds))) =
    places_climb config list (d.first + d.count) end (number + 1) ds f.1 in
    cond_both (not (is_whole config (registry config list) o)) (o ∷ rest) rest (λ (os : List Numbered). Climbs low (map (λ (p : Numbered). p.intake.first) os))
    (λ h. (f.0, climbs_lower (d.first + 1) (d.first + d.count) (firsts rest) (omega (arith, has_one config list o h)) others))
    (λ h. climbs_lower low (d.first + d.count) (firsts rest) (omega (arith, f.0)) others)

pub held_inputs_are_in_order : OpensAscend
held_inputs_are_in_order config inputs room =
    let t : Taking = taken_in inputs in
    let test : Numbered → Bool = λ o. not (is_whole config (registry config t.list) o) in (
      climbs_increase 0 _ (numbers_climb test 0 t.intake),
      climbs_increase 0 _ (places_climb config t.list 0 (length t.list) 0 t.intake (run_follow (record { list = []; intake = [] }) inputs (omega arith))),
    )
