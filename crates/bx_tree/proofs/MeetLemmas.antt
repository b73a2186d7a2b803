-- A search along a name finds a session exactly if one of its patterns matches the name.
use Rattle.std.proofs.Common.{◌≡◌, ℕ, ◌<◌, true, ◌&&◌, ◌||◌, List, [], ◌∷◌, ◌++◌, length, take, drop, refl, sym, ap, subst, ◌∙◌, arith, append-nil, append_assoc, length-append, inl, inr, take-append-drop}
use Rattle.std.specs.Bool.{one_answer}
use Rattle.std.proofs.lemmas.Bool.{or_cases, or_left, or_right, and_parts}
use Rattle.bx_names.specs.Words.{parts, path_of, Glob, matches_by, any_matches, in_force}
use Rattle.bx_names.specs.declared.tail.Tail.{Tail}
use Rattle.bx_names.specs.declared.tail.Tail.TheVariants.{Exact, One, Many}
use Rattle.bx_names.proofs.{PathLemmas.path_of-append, MatchLemmas.exact_decides, MatchLemmas.one_decides, MatchLemmas.many_decides, Actives.matching_any, Actives.matching_from}
use Rattle.bx_tree.specs.declared.nodes.Nodes.{Nodes}
use Rattle.bx_tree.specs.Words.{AreWhole, patterns_of, stands_at, lists_of, IsIndexOf, is_end, is_met}
use Rattle.std.proofs.lemmas.Grind.{common_steps}

-- ---- the rest of a name after the segments of a pattern

-- A pattern with this tail can match a name with `n` segments left after the path of the pattern.
-- That is none, one for `*`, or at least one for `**`.
abbrev pub Leaves : Tail → ℕ → Type 0
Leaves Exact n = n ≡ 0
Leaves One n = n ≡ 1
Leaves Many n = 0 < n

pub record Rest (own : List (List ℕ)) (tail : Tail) (name : List (List ℕ)) : Type 0 where
  pub more : List (List ℕ)
  pub is : name ≡ own ++ more
  pub leaves : Leaves tail (length more)

take_and_drop : (k : ℕ) (xs own : List (List ℕ)) → take k xs ≡ own → xs ≡ own ++ drop k xs
take_and_drop k xs own h = sym (take-append-drop k xs) ∙ ap (λ ys. ys ++ drop k xs) h

rest_of : (own : List (List ℕ)) (tail : Tail) (name : List (List ℕ)) → matches_by tail own name ≡ true → Rest own tail name
rest_of own Exact name h = record { more = []; is = (exact_decides own name).0 h ∙ sym (append-nil own); leaves = refl }
rest_of own One name h =
    let told = (one_decides own name).0 h in
    let is = take_and_drop (length own) name own told.1 in
    record { more = drop (length own) name; is = is; leaves = omega (arith, told.0, ap length is, length-append own (drop (length own) name)) }
rest_of own Many name h = let told = (many_decides own name).0 h in record { more = told.0; is = told.2; leaves = told.1 }

take_front : (own more : List (List ℕ)) → take (length own) (own ++ more) ≡ own
take_front [] more = refl
take_front (s ∷ ss) more = ap (λ ts. s ∷ ts) (take_front ss more)

nil_if : (xs : List (List ℕ)) → length xs ≡ 0 → xs ≡ []
nil_if xs h1 = grind (arith, common_steps)

matches_rest : (own : List (List ℕ)) (tail : Tail) (more : List (List ℕ)) → Leaves tail (length more) → matches_by tail own (own ++ more) ≡ true
matches_rest own Exact more h = (exact_decides own (own ++ more)).1 (ap (λ ts. own ++ ts) (nil_if more h) ∙ append-nil own)
matches_rest own One more h = (one_decides own (own ++ more)).1 (omega (arith, length-append own more), take_front own more)
matches_rest own Many more h = (many_decides own (own ++ more)).1 (more, h, refl)

-- ---- the search

whole-push : (ss : List (List ℕ)) (s : List ℕ) → AreWhole ss → parts s ≡ s ∷ [] → AreWhole (ss ++ s ∷ [])
whole-push [] s h k = (k, tt)
whole-push (t ∷ ts) s h k = (h.0, whole-push ts s h.1 k)

path-push : (ss : List (List ℕ)) (s : List ℕ) → path_of (ss ++ s ∷ []) ≡ path_of ss ++ 47 ∷ s
path-push ss s = path_of-append ss (s ∷ []) ∙ ap (λ t. path_of ss ++ 47 ∷ t) (append-nil s)

module _ (nodes : Nodes) (all : List (ℕ × List Glob)) (n : ℕ) (index : IsIndexOf nodes all) where
  at : (ss : List (List ℕ)) (tail : Tail) → AreWhole ss → stands_at (lists_of nodes tail) (path_of ss) n ≡ in_force (patterns_of all n) (record { segments = ss; tail = tail })
  at ss tail whole = index (record { segments = ss; tail = tail }) whole n

  found : (ss : List (List ℕ)) (tail : Tail) (more : List (List ℕ)) → AreWhole ss → stands_at (lists_of nodes tail) (path_of ss) n ≡ true → Leaves tail (length more) → any_matches (patterns_of all n) (ss ++ more) ≡ true
  found ss tail more whole h leaves = matching_any (patterns_of all n) (ss ++ more) (record { segments = ss; tail = tail }) (sym (at ss tail whole) ∙ h) (matches_rest ss tail more leaves)

  end_is : (rest : List (List ℕ)) → is_end rest ≡ true → length rest ≡ 0
  end_is rest h1 = grind (arith, common_steps)

  met_then_any : (done rest : List (List ℕ)) → AreWhole done → AreWhole rest → is_met nodes (path_of done) rest n ≡ true → any_matches (patterns_of all n) (done ++ rest) ≡ true
  met_then_any done [] whole left h = found done Exact [] whole h refl
  met_then_any done (s ∷ rest) whole left h =
      let path = path_of done in
      let many = stands_at nodes.many path n in
      let one = is_end rest && stands_at nodes.one path n in
      elim (or_cases (many || one) (is_met nodes (path ++ 47 ∷ s) rest n) h) [
        | inl e ↦ elim (or_cases many one e) [
          | inl m ↦ found done Many (s ∷ rest) whole m (omega arith)
          | inr o ↦ let both = and_parts (is_end rest) (stands_at nodes.one path n) o in found done One (s ∷ rest) whole both.1 (omega (arith, end_is rest both.0))
        ]
        | inr e ↦
            ap (λ name. any_matches (patterns_of all n) name) (sym (append_assoc done (s ∷ []) rest))
            ∙ met_then_any (done ++ s ∷ []) rest (whole-push done s whole left.0) left.1 (ap (λ text. is_met nodes text rest n) (path-push done s) ∙ e)
      ]

  met_here : (done : List (List ℕ)) (tail : Tail) (more : List (List ℕ)) → AreWhole done → Leaves tail (length more) → in_force (patterns_of all n) (record { segments = done; tail = tail }) ≡ true → is_met nodes (path_of done) more n ≡ true
  met_here done Exact [] whole leaves h = at done Exact whole ∙ h
  met_here done Exact (s ∷ rest) whole leaves h = absurd (omega arith)
  met_here done One [] whole leaves h = absurd (omega arith)
  met_here done One (s ∷ []) whole leaves h = grind (arith, common_steps, or_left, or_right, at)
  met_here done One (s ∷ t ∷ rest) whole leaves h = absurd (omega arith)
  met_here done Many [] whole leaves h = absurd (omega arith)
  met_here done Many (s ∷ rest) whole leaves h = grind (arith, common_steps, or_left, at)

  met_below : (done own : List (List ℕ)) (tail : Tail) (more : List (List ℕ)) → AreWhole done → AreWhole own → Leaves tail (length more) → in_force (patterns_of all n) (record { segments = done ++ own; tail = tail }) ≡ true → is_met nodes (path_of done) (own ++ more) n ≡ true
  met_below done [] tail more whole left leaves h = met_here done tail more whole leaves (ap (λ ss. in_force (patterns_of all n) (record { segments = ss; tail = tail })) (sym (append-nil done)) ∙ h)
  met_below done (s ∷ own) tail more whole left leaves h =
      let path = path_of done in
      or_right (stands_at nodes.many path n || (is_end (own ++ more) && stands_at nodes.one path n)) (is_met nodes (path ++ 47 ∷ s) (own ++ more) n)
      (ap (λ text. is_met nodes text (own ++ more) n) (sym (path-push done s))
      ∙ met_below (done ++ s ∷ []) own tail more (whole-push done s whole left.0) left.1 leaves
      (ap (λ ss. in_force (patterns_of all n) (record { segments = ss; tail = tail })) (append_assoc done (s ∷ []) own) ∙ h))

  whole_front : (own more : List (List ℕ)) → AreWhole (own ++ more) → AreWhole own
  whole_front [] more h = tt
  whole_front (s ∷ ss) more h = (h.0, whole_front ss more h.1)

  any_then_met : (name : List (List ℕ)) → AreWhole name → any_matches (patterns_of all n) name ≡ true → is_met nodes [] name n ≡ true
  any_then_met name whole h =
      let m = matching_from (patterns_of all n) name h in
      let p = m.pattern in
      let rest = rest_of p.segments p.tail name m.matching in
      ap (λ ss. is_met nodes [] ss n) rest.is
      ∙ met_below [] p.segments p.tail rest.more tt (whole_front p.segments rest.more (subst AreWhole rest.is whole)) rest.leaves m.force

  pub met_is : (name : List (List ℕ)) → AreWhole name → is_met nodes [] name n ≡ any_matches (patterns_of all n) name
  met_is name whole =
      one_answer {P = any_matches (patterns_of all n) name ≡ true} (is_met nodes [] name n) (any_matches (patterns_of all n) name)
      (met_then_any [] name tt whole, any_then_met name whole) (λ h. h, λ h. h)
