-- Some active pattern matches a name exactly if any of the patterns does.
use Rattle.std.proofs.Common.{◌≡◌, true, ◌||◌, List, ℕ, [], ◌∷◌, refl, sym, ap, ◌∙◌, arith}
use Rattle.std.proofs.lemmas.Grind.{common_steps}
use Rattle.bx_history.proofs.Tests.{either}
use Rattle.bx_names.specs.Words.{Glob, same_glob, matches, any_matches, same_glob-decides, in_force}

pub record Matching (ps : List Glob) (name : List (List ℕ)) : Type 0 where
  pub pattern : Glob
  pub force : in_force ps pattern ≡ true
  pub matching : matches pattern name ≡ true

pub matching_from : (ps : List Glob) (name : List (List ℕ)) → any_matches ps name ≡ true → Matching ps name
matching_from [] name h = cc
matching_from (p ∷ ps) name h = either (matches p name) (Matching (p ∷ ps) name)
    (λ g. record { pattern = p; force = ap (λ b. b || in_force ps p) ((same_glob-decides p p).1 refl); matching = g })
    (λ g. let m : Matching ps name = matching_from ps name (sym (ap (λ b. b || any_matches ps name) g) ∙ h) in record { pattern = m.pattern; force = grind (arith, common_steps); matching = m.matching })

pub matching_any : (ps : List Glob) (name : List (List ℕ)) (p : Glob) → in_force ps p ≡ true → matches p name ≡ true → any_matches ps name ≡ true
matching_any [] name p f m = f
matching_any (q ∷ ps) name p f m = either (same_glob p q) (any_matches (q ∷ ps) name ≡ true)
    (λ g. ap (λ b. b || any_matches ps name) (sym (ap (λ (x : Glob). matches x name) ((same_glob-decides p q).0 g)) ∙ m))
    (λ g. let rest : in_force ps p ≡ true → any_matches ps name ≡ true = λ k. matching_any ps name p k m in grind (arith, common_steps))
