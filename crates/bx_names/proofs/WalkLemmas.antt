-- Results of one pass over the bytes of a path.
use Rattle.std.proofs.Common.{◌≡◌, ℕ, ◌+◌, ◌<◌, ◌&&◌, ◌||◌, Bool, true, false, cond, IsTrue, List, [], ◌∷◌, length, drop, refl, ap, ◌∙◌, arith}
use Rattle.std.specs.List.{list_any, count_by, onto_first}
use Rattle.std.proofs.lemmas.{List.Recursion.is_count_by, List.Splits.length-slice_split, List.at_drop_all, Grind.common_steps}
use Rattle.bx_history.proofs.Tests.{or_assoc}
use Rattle.bx_names.specs.Words.{is_slash, parts, segments, is_absolute, is_empty, is_path, is_bad_byte, is_star, has_bad_byte, has_star}
use Rattle.bx_names.proofs.PathLemmas.{parts_some, path_from_absolute, slash-is}

-- Whether a text has an empty segment, given whether a slash precedes it.
abbrev pub has_gap : Bool → List ℕ → Bool
has_gap after_slash [] = after_slash
has_gap after_slash (x ∷ xs) = (is_slash x && after_slash) || has_gap (is_slash x) xs

gap_step : (x : ℕ) (slash : Bool) (gap : Bool → Bool) (ps : List (List ℕ)) → 0 < length ps → gap true ≡ list_any is_empty ps → gap false ≡ list_any is_empty (drop 1 ps) → (((slash && true) || gap slash) ≡ list_any is_empty (cond slash ([] ∷ ps) (onto_first x ps))) × (((slash && false) || gap slash) ≡ list_any is_empty (drop 1 (cond slash ([] ∷ ps) (onto_first x ps))))
gap_step x slash gap ps h1 h2 h3 = grind (arith, common_steps)

gap-parts : (xs : List ℕ) → (has_gap true xs ≡ list_any is_empty (parts xs)) × (has_gap false xs ≡ list_any is_empty (drop 1 (parts xs)))
gap-parts [] = (refl, refl)
gap-parts (x ∷ xs) = grind (arith, common_steps, gap_step, parts_some, gap-parts xs)

pub gap_segments : (text : List ℕ) → IsTrue (is_absolute text) → has_gap false text ≡ list_any is_empty (segments text)
gap_segments text h1 = grind (arith, common_steps, gap-parts)

any_step : (test : ℕ → Bool) (x : ℕ) (slash : Bool) (ps : List (List ℕ)) → 0 < length ps → (slash ≡ true → test x ≡ false) → list_any (list_any test) (cond slash ([] ∷ ps) (onto_first x ps)) ≡ (test x || list_any (list_any test) ps)
any_step test x slash ps h1 h2 = grind (arith, common_steps, or_assoc)

any-parts : (test : ℕ → Bool) → ((x : ℕ) → is_slash x ≡ true → test x ≡ false) → (xs : List ℕ) → list_any (list_any test) (parts xs) ≡ list_any test xs
any-parts test no_slash [] = refl
any-parts test no_slash (x ∷ xs) = any_step test x (is_slash x) (parts xs) (parts_some xs) (no_slash x) ∙ ap (λ b. test x || b) (any-parts test no_slash xs)

any-segments : (test : ℕ → Bool) → ((x : ℕ) → is_slash x ≡ true → test x ≡ false) → (text : List ℕ) → IsTrue (is_path text) → list_any (list_any test) (segments text) ≡ list_any test text
any-segments test h1 text h2 = grind (arith, common_steps, any-parts)

pub bad_segments : (text : List ℕ) → IsTrue (is_path text) → list_any has_bad_byte (segments text) ≡ list_any is_bad_byte text
bad_segments text path = any-segments is_bad_byte (λ x slash. ap is_bad_byte (slash-is x slash)) text path

pub star_segments : (text : List ℕ) → IsTrue (is_path text) → list_any has_star (segments text) ≡ list_any is_star text
star_segments text path = any-segments is_star (λ x slash. ap is_star (slash-is x slash)) text path

slashes : List ℕ → ℕ
slashes [] = 0
slashes (x ∷ xs) = cond (is_slash x) (1 + slashes xs) (slashes xs)

slashes-count : (xs : List ℕ) → slashes xs ≡ count_by is_slash xs
unfolding slashes
slashes-count = is_count_by slashes is_slash refl (λ x xs. refl)

slashes-cons : (x : ℕ) (xs : List ℕ) → is_slash x ≡ true → slashes (x ∷ xs) ≡ 1 + slashes xs
unfolding slashes
slashes-cons x xs slash = rw slash refl

pub length_segments : (text : List ℕ) → IsTrue (is_path text) → length (segments text) ≡ count_by is_slash text
length_segments text h1 = grind (arith, common_steps, length-slice_split, slashes-count, slashes-cons)

pub ruleset walked = (gap_segments, bad_segments, length_segments, path_from_absolute, at_drop_all, common_steps)
