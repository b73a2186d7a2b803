-- The content of a string, one part at a time.
use Rattle.std.proofs.Common.{◌≡◌, ◌≢◌, ℕ, suc, ◌+◌, ◌<◌, ◌≤◌, Bool, true, false, cond, ◌&&◌, ◌==◌, nat_lt, List, [], ◌∷◌, ◌++◌, length, take, drop, get_or, Option, Some, None, option_and_then, refl, sym, ap, ◌∙◌, subst, arith}
use Rattle.std.proofs.lemmas.List.{append_assoc, append-nil, length-append, length-drop, take_all, drop-drop, get_or-drop}
use Rattle.std.proofs.lemmas.Bool.{and_parts, or_parts, not-true, false≢true, ne_eqb}
use Rattle.std.specs.Prelude.{◌||◌, IsTrue, slice_get}
use Rattle.std.specs.{List.list_all, List.prefix_len, Char.encode_utf8, Char.IsScalar, Char.InScalarRange, Option.SomeIff, Option.MatchOption, Option.IsSome}
use Rattle.json.specs.Text.{code_unit, short_escape, is_high_surrogate, is_low_surrogate, surrogate_pair, plain, after_backslash, after_u, after_high, prepend, content}
use Rattle.json.specs.Run.{is_plain}
use Rattle.bx_cut.specs.Cut.{begins_with, after_first}
use Rattle.std.proofs.lemmas.Grind.{common_steps}

pub after_backslash-nil : (t : List ℕ) → length t ≡ 0 → content after_backslash t ≡ None
unfolding content
after_backslash-nil t h1 = grind (arith, common_steps)

pub after_backslash-at : (t : List ℕ) → 0 < length t → content after_backslash t
    ≡ cond (get_or t 0 0 == 117) (content after_u (drop 1 t)) (option_and_then (λ c. prepend (c ∷ []) (content plain (drop 1 t))) (short_escape (get_or t 0 0)))
unfolding content
after_backslash-at t h1 = grind (arith, common_steps)

pub unit-short : (t : List ℕ) → length t < 5 → content after_u (drop 1 t) ≡ None
unfolding content
unit-short t h1 = grind (arith, common_steps)

abbrev pub unit_within : List ℕ → ℕ → Option ℕ
unit_within t i = code_unit (get_or t i 0) (get_or t (i + 1) 0) (get_or t (i + 2) 0) (get_or t (i + 3) 0)

pub unit-at : (t : List ℕ) → 5 ≤ length t → content after_u (drop 1 t)
    ≡ option_and_then (λ u. cond (is_high_surrogate u) (content (after_high u) (drop 5 t)) (cond (is_low_surrogate u) None (prepend (encode_utf8 u) (content plain (drop 5 t))))) (unit_within t 1)
unfolding content
unit-at [] h = let no : ⊥ = omega arith in absurd no
unit-at (u ∷ []) h = let no : ⊥ = omega arith in absurd no
unit-at (u ∷ a ∷ []) h = let no : ⊥ = omega arith in absurd no
unit-at (u ∷ a ∷ b ∷ []) h = let no : ⊥ = omega arith in absurd no
unit-at (u ∷ a ∷ b ∷ c ∷ []) h = let no : ⊥ = omega arith in absurd no
unit-at (u ∷ a ∷ b ∷ c ∷ d ∷ xs) h = refl

pub high-short : (high : ℕ) (t : List ℕ) → length t < 6 → content (after_high high) t ≡ None
unfolding content
high-short high t h1 = grind (arith, common_steps)

pub high-at : (high : ℕ) (t : List ℕ) → 6 ≤ length t → content (after_high high) t
    ≡ cond ((get_or t 0 0 == 92) && (get_or t 1 0 == 117)) (option_and_then (λ l. cond (is_low_surrogate l) (prepend (encode_utf8 (surrogate_pair high l)) (content plain (drop 6 t))) None) (unit_within t 2)) None
unfolding content
high-at high [] h = let no : ⊥ = omega arith in absurd no
high-at high (s ∷ []) h = let no : ⊥ = omega arith in absurd no
high-at high (s ∷ u ∷ []) h = let no : ⊥ = omega arith in absurd no
high-at high (s ∷ u ∷ a ∷ []) h = let no : ⊥ = omega arith in absurd no
high-at high (s ∷ u ∷ a ∷ b ∷ []) h = let no : ⊥ = omega arith in absurd no
high-at high (s ∷ u ∷ a ∷ b ∷ c ∷ []) h = let no : ⊥ = omega arith in absurd no
high-at high (s ∷ u ∷ a ∷ b ∷ c ∷ d ∷ xs) h = refl

pub prepend-prepend : (a b : List ℕ) (r : Option (List ℕ)) → prepend a (prepend b r) ≡ prepend (a ++ b) r
prepend-prepend a b r = grind (arith, common_steps)

pub prepend-nil : (r : Option (List ℕ)) → prepend [] r ≡ r
prepend-nil r = grind (arith, common_steps)

pub content-run : (xs : List ℕ) → content plain xs ≡ prepend (take (prefix_len is_plain xs) xs) (content plain (drop (prefix_len is_plain xs) xs))
unfolding content
content-run [] = sym (prepend-nil _)
content-run (x ∷ xs) = by_test (is_plain x) refl (content-run xs)
  where
    by_test : (p : Bool) → p ≡ is_plain x → content plain xs ≡ prepend (take (prefix_len is_plain xs) xs) (content plain (drop (prefix_len is_plain xs) xs))
        → content plain (x ∷ xs) ≡ prepend (take (cond p (1 + prefix_len is_plain xs) 0) (x ∷ xs)) (content plain (drop (cond p (1 + prefix_len is_plain xs) 0) (x ∷ xs)))
    by_test false e ih = sym (prepend-nil _)
    by_test true e ih =
        let n = prefix_len is_plain xs in
        let next : suc n ≡ 1 + n = omega arith in
        let none = or_parts ((x == 34) || (x == 92)) (nat_lt x 32) (not-true _ (sym e)) in
        let tests = or_parts (x == 34) (x == 92) none.0 in
        (λ i. cond (tests.0 i) (Some []) (cond (tests.1 i) (content after_backslash xs) (cond (none.1 i) None (prepend (x ∷ []) (ih i)))))
        ∙ prepend-prepend (x ∷ []) (take n xs) (content plain (drop n xs)) ∙ ap (λ k. prepend (take k (x ∷ xs)) (content plain (drop k (x ∷ xs)))) next

pub run-plain : (t : List ℕ) → list_all is_plain (take (prefix_len is_plain t) t) ≡ true
run-plain [] = refl
run-plain (x ∷ xs) = by_test (is_plain x) refl (run-plain xs)
  where
    by_test : (p : Bool) → is_plain x ≡ p → list_all is_plain (take (prefix_len is_plain xs) xs) ≡ true → list_all is_plain (take (cond p (1 + prefix_len is_plain xs) 0) (x ∷ xs)) ≡ true
    by_test p h1 h2 = grind (arith, common_steps)

pub plain-then-quote : (text rest : List ℕ) → list_all is_plain text ≡ true
    → begins_with 34 (drop (prefix_len is_plain ((text ++ (34 ∷ [])) ++ rest)) ((text ++ (34 ∷ [])) ++ rest)) ≡ true
plain-then-quote [] rest h = refl
plain-then-quote (x ∷ xs) rest h =
    let both = and_parts (is_plain x) (list_all is_plain xs) h in
    let behind : List ℕ = (xs ++ (34 ∷ [])) ++ rest in
    let next : suc (prefix_len is_plain behind) ≡ 1 + prefix_len is_plain behind = omega arith in
    rw both.0 (subst (λ (k : ℕ). begins_with 34 (drop k (x ∷ behind)) ≡ true) next (plain-then-quote xs rest both.1))

pub after-quote : (xs : List ℕ) → after_first 34 (34 ∷ xs) ≡ Some xs
unfolding after_first
after-quote xs = refl

pub plain-none : (t : List ℕ) → prefix_len is_plain (drop (prefix_len is_plain t) t) ≡ 0
plain-none [] = refl
plain-none (x ∷ xs) = by_test (is_plain x) refl (plain-none xs)
  where
    by_test : (p : Bool) → p ≡ is_plain x → prefix_len is_plain (drop (prefix_len is_plain xs) xs) ≡ 0 → prefix_len is_plain (drop (cond p (1 + prefix_len is_plain xs) 0) (x ∷ xs)) ≡ 0
    by_test p h1 h2 = grind (arith, common_steps)

-- ---- a byte that is not plain

pub at-quote : (t : List ℕ) → begins_with 34 t ≡ true → content plain t ≡ Some []
unfolding content
at-quote t h1 = grind (arith, common_steps)

pub at-backslash : (t r : List ℕ) → Some r ≡ after_first 92 t → content plain t ≡ content after_backslash r
unfolding content after_first
at-backslash t r h1 = grind (arith, common_steps)

pub at-fault : (t : List ℕ) → prefix_len is_plain t ≡ 0 → begins_with 34 t ≡ false → None ≡ after_first 92 t → content plain t ≡ None
unfolding content after_first
at-fault t h1 h2 h3 = grind (arith, common_steps)

pub after-run : (t front run after : List ℕ) (n : ℕ) (o : Option (List ℕ)) → n ≡ prefix_len is_plain t → run ≡ take n t → after ≡ drop n t → o ≡ prepend front (content plain t) → o ≡ prepend (front ++ run) (content plain after)
after-run t front run after n o e f g h = grind (arith, common_steps, content-run, prepend-prepend)

pub after-end : (front text : List ℕ) (o : Option (List ℕ)) → content plain text ≡ Some [] → o ≡ prepend front (content plain text) → o ≡ Some front
after-end front text o e h = h ∙ ap (prepend front) e ∙ ap Some (append-nil front)

pub after-escape : (front text rest : List ℕ) (c : ℕ) (o : Option (List ℕ)) → content plain text ≡ prepend (encode_utf8 c) (content plain rest) → o ≡ prepend front (content plain text) → o ≡ prepend (front ++ encode_utf8 c) (content plain rest)
after-escape front text rest c o e h = h ∙ ap (prepend front) e ∙ prepend-prepend front (encode_utf8 c) (content plain rest)

pub after-fault : (front text : List ℕ) (o : Option (List ℕ)) → content plain text ≡ None → o ≡ prepend front (content plain text) → o ≡ None
after-fault front text o e h = h ∙ ap (prepend front) e

-- ---- comparison with an expected text

differs : (x y : ℕ) (xs ys : List ℕ) → x ≢ y → (x == 92) ≡ false → content plain (x ∷ xs) ≡ Some (y ∷ ys) → ⊥
unfolding content
differs x y xs ys other plainly e = by_tests (x == 34) (x == 92) (nat_lt x 32) plainly (content plain xs) e
  where
    by_tests : (q b c : Bool) → b ≡ false → (rest : Option (List ℕ)) → cond q (Some []) (cond b (content after_backslash xs) (cond c None (prepend (x ∷ []) rest))) ≡ Some (y ∷ ys) → ⊥
    by_tests q b c h1 rest h2 = grind (arith, common_steps)

pub differs-at-once : (t w : List ℕ) (x y : ℕ) → Some x ≡ slice_get t 0 → Some y ≡ slice_get w 0 → x ≢ y → (x == 92) ≡ false → content plain t ≡ Some w → ⊥
differs-at-once [] w x y at beside other plainly e = cc
differs-at-once (u ∷ t) [] x y at beside other plainly e = cc
differs-at-once (u ∷ t) (v ∷ w) x y at beside other plainly e = grind (arith, common_steps, differs)

abbrev pub wanted_of : Option (List ℕ) → List ℕ
wanted_of None = []
wanted_of (Some s) = s

pub not-spelled : (text done wanted part : List ℕ) (o rest : Option (List ℕ)) → text ≡ done ++ wanted → ((s : List ℕ) → wanted ≡ part ++ s → ⊥) → o ≡ prepend (done ++ part) rest → o ≡ Some text → ⊥
not-spelled text done wanted part o None t none h e = let no : None ≡ Some text = sym h ∙ e in cc
not-spelled text done wanted part o (Some s) t none h e =
    let both : Some ((done ++ part) ++ s) ≡ Some text = sym h ∙ e in
    let same : (done ++ part) ++ s ≡ text = ap wanted_of both in
    none s (append_cancel done wanted (part ++ s) (sym t ∙ sym same ∙ append_assoc done part s))
  where
    append_cancel : (xs ys zs : List ℕ) → xs ++ ys ≡ xs ++ zs → ys ≡ zs
    append_cancel [] ys zs e = e
    append_cancel (x ∷ xs) ys zs e = append_cancel xs ys zs (ap (drop 1) e)

pub never : {P : Type 0} → (P → ⊥) → (IsTrue false → P) × (P → IsTrue false)
never n = (λ f. absurd (false≢true f), λ p. absurd (n p))

not_some : (text : List ℕ) (o : Option (List ℕ)) → o ≡ None → o ≡ Some text → ⊥
not_some text o e h = let no : None ≡ Some text = sym e ∙ h in cc

pub fault-not-spelled : (text : List ℕ) (o : Option (List ℕ)) → o ≡ None → (IsTrue false → o ≡ Some text) × (o ≡ Some text → IsTrue false)
fault-not-spelled text o e = never (not_some text o e)

pub end-spelled : (text done wanted run left : List ℕ) (o : Option (List ℕ)) (b : Bool) → text ≡ done ++ wanted → wanted ≡ run ++ left → o ≡ Some (done ++ run) → b ≡ (length left == 0)
    → (IsTrue b → o ≡ Some text) × (o ≡ Some text → IsTrue b)
end-spelled text done wanted run [] o b t w h e = grind (arith, common_steps)
end-spelled text done wanted run (x ∷ xs) o b t w h e =
    let some : (length (x ∷ xs) == 0) ≡ false = ne_eqb (length (x ∷ xs)) 0 (λ z. omega (arith, z)) in (
      λ y. absurd (false≢true (sym some ∙ sym e ∙ y)),
      λ y.
          let both : Some (done ++ run) ≡ Some text = sym h ∙ y in
          let same : done ++ run ≡ text = ap wanted_of both in
          let whole : text ≡ done ++ (run ++ (x ∷ xs)) = t ∙ ap (λ z. done ++ z) w in
          let no : ⊥ = omega (arith, ap length same, ap length whole, length-append done run, length-append done (run ++ (x ∷ xs)), length-append run (x ∷ xs)) in absurd no,
    )

-- ---- lemmas for the functions of `string.rt`

pub of_scalar : (r : Option ℕ) (code : ℕ) (text rest : Option (List ℕ)) → SomeIff r (IsScalar code) code → (InScalarRange code → IsSome r) → InScalarRange code → text ≡ prepend (encode_utf8 code) rest
    → MatchOption r (text ≡ None) (λ c. text ≡ prepend (encode_utf8 c) rest)
of_scalar r code text rest h1 h2 h3 h4 = grind (arith, common_steps)

pub ruleset low_half = (high-at, of_scalar, common_steps)

pub ruleset escapes = (after_backslash-nil, after_backslash-at, unit-short, unit-at, high-short, take_all, length-drop, drop-drop, get_or-drop, common_steps)

pub ruleset differing = (not-true, differs-at-once, common_steps)
