-- After a change, the index has exactly the active patterns.
use Rattle.std.proofs.Common.{arith, ◌≡◌, ◌≢◌, ℕ, Bool, true, false, not, ◌==◌, ◌&&◌, List, [], ◌∷◌, refl, sym, ap, ◌∙◌}
use Rattle.std.specs.Bool.{one_answer}
use Rattle.std.proofs.lemmas.{Bool.eqb-true, Bool.eq-eqb, Bool.or_parts, Map.Views.any-filter_same, Grind.common_steps}
use Rattle.bx_names.specs.Words.{Glob, same_glob, same_glob-decides, in_force, without_pattern}
use Rattle.bx_tree.specs.declared.nodes.Nodes.{Nodes}
use Rattle.bx_tree.specs.Words.{AreWhole, patterns_of, stands_for, IsIndexOf}

-- ---- truth values

and_now : (b g : Bool) → (b && not (g && true)) ≡ (not g && b)
and_now b g = grind arith

and_never : (b g : Bool) → (b && not (g && false)) ≡ b
and_never b g = grind arith

pub same_glob-sym : (p q : Glob) → same_glob p q ≡ same_glob q p
same_glob-sym p q =
    let a = same_glob-decides p q in
    let b = same_glob-decides q p in
    one_answer {P = p ≡ q} (same_glob p q) (same_glob q p) a (λ h. sym (b.0 h), λ h. b.1 (sym h))

-- ---- active patterns after a change

pub in_force-less : (ps : List Glob) (p q : Glob) → in_force (without_pattern ps p) q ≡ (not (same_glob q p) && in_force ps q)
in_force-less ps p q =
    any-filter_same (same_glob q) (λ r. not (same_glob p r)) (not (same_glob q p))
    (λ r same. ap (λ x. not (same_glob p x)) (sym ((same_glob-decides q r).0 same)) ∙ ap not (same_glob-sym p q)) ps

by_number : (number n : ℕ) (P : ℕ → Bool → Type 0) → P number true → (n ≢ number → P n false) → P n (n == number)
by_number number n P own others = by (n == number) refl
  where
    by : (b : Bool) → (n == number) ≡ b → P n b
    by b h1 = grind (arith, common_steps, eqb-true, eq-eqb)

module _ (old new : Nodes) (all later : List (ℕ × List Glob)) (p : Glob) (number : ℕ) (index : IsIndexOf old all) where
  pub index_removed : ((other : Glob) → AreWhole other.segments → (n : ℕ) → stands_for new other n ≡ (stands_for old other n && not (same_glob other p && (n == number)))) → patterns_of later number ≡ without_pattern (patterns_of all number) p → ((n : ℕ) → n ≢ number → patterns_of later n ≡ patterns_of all n) → IsIndexOf new later
  index_removed stands own others other whole n = grind (arith, common_steps, by_number, and_now, in_force-less, and_never)

pub without_absent : (ps : List Glob) (p : Glob) → in_force ps p ≡ false → ps ≡ without_pattern ps p
without_absent [] p h = refl
without_absent (q ∷ qs) p h =
    let parts = or_parts (same_glob p q) (in_force qs p) h in
    rw parts.0 (ap (λ rs. q ∷ rs) (without_absent qs p parts.1))
