-- Paths as texts and as lists of segments, and the conversions between them.
use Rattle.std.proofs.Common.{◌≡◌, ◌≢◌, ℕ, suc, ◌+◌, ◌<◌, Bool, true, IsTrue, Option, Some, None, MatchOption, List, [], ◌∷◌, ◌++◌, length, cond, not, refl, sym, ap, ◌∙◌, arith, lit<, Bor}
use Rattle.std.specs.{Option.option_map_or, List.onto_first, List.position_or_len, Bool.Decides, Str.bytes_eq}
use Rattle.std.proofs.lemmas.{Grind.flat_map-append, Bool.Decides.nat_tests, Slice.Eq.bytes_eq-Decides, List.Splits.slice_split_first, List.Splits.length-slice_split, Str.Pattern.IsSplitOnceResult, Str.Pattern.split_once_first}
use Rattle.bx_names.specs.Segments.{is_slash, parts, segments, is_absolute, is_path, path_of}
use Rattle.std.proofs.lemmas.Grind.{common_steps}

-- ---- the parts of a text

pub parts_some : (xs : List ℕ) → 0 < length (parts xs)
parts_some xs = omega (arith, length-slice_split is_slash xs)

onto_first-append : (x : ℕ) (ps qs : List (List ℕ)) → 0 < length ps → onto_first x (ps ++ qs) ≡ onto_first x ps ++ qs
onto_first-append x ps qs h1 = grind (arith, common_steps)

cond_parts-append : (b : Bool) (x : ℕ) (ps qs : List (List ℕ)) → 0 < length ps → cond b ([] ∷ (ps ++ qs)) (onto_first x (ps ++ qs)) ≡ cond b ([] ∷ ps) (onto_first x ps) ++ qs
cond_parts-append b x ps qs h1 = grind (arith, common_steps, onto_first-append)

pub parts-append : (xs ys : List ℕ) → parts (xs ++ 47 ∷ ys) ≡ parts xs ++ parts ys
parts-append [] ys = refl
parts-append (x ∷ xs) ys = rw (parts-append xs ys) (cond_parts-append (is_slash x) x (parts xs) (parts ys) (parts_some xs))

pub segments-append : (xs ys : List ℕ) → segments (xs ++ 47 ∷ ys) ≡ segments xs ++ parts ys
segments-append xs ys = grind (arith, common_steps, parts-append)

cond_parts_whole : (b : Bool) (x : ℕ) (xs : List ℕ) (ps : List (List ℕ)) (n : ℕ) → (n ≡ length xs → ps ≡ xs ∷ []) → cond (not b) (1 + n) 0 ≡ suc (length xs) → cond b ([] ∷ ps) (onto_first x ps) ≡ (x ∷ xs) ∷ []
cond_parts_whole b x xs ps n h1 h2 = grind (arith, common_steps)

pub parts_whole : (xs : List ℕ) → position_or_len is_slash xs ≡ length xs → parts xs ≡ xs ∷ []
parts_whole [] h = refl
parts_whole (x ∷ xs) h = cond_parts_whole (is_slash x) x xs (parts xs) (position_or_len is_slash xs) (parts_whole xs) h

-- ---- `split_once` at a slash

pub parts_at_slash : (bs : List ℕ) (x : Bor (List ℕ) × Bor (List ℕ)) → IsSplitOnceResult 47 bs (Some x) → parts bs ≡ x.0.now ∷ parts x.1.now
parts_at_slash bs x h =
    let cut = split_once_first 47 bs (Some x) h (lit< tt) in
    rw (cut.1, cut.2) (slice_split_first is_slash bs 0 cut.0)

pub parts_at_end : (bs : List ℕ) → IsSplitOnceResult 47 bs None → parts bs ≡ bs ∷ []
parts_at_end bs h = parts_whole bs (split_once_first 47 bs None h (lit< tt))

-- ---- from the parts to the text

pub path_of-append : (ss ts : List (List ℕ)) → path_of (ss ++ ts) ≡ path_of ss ++ path_of ts
path_of-append ss ts = flat_map-append (λ segment. 47 ∷ segment) ss ts

path_of-onto_first : (x : ℕ) (xs : List ℕ) (ps : List (List ℕ)) → 0 < length ps → path_of ps ≡ 47 ∷ xs → path_of (onto_first x ps) ≡ 47 ∷ x ∷ xs
path_of-onto_first x xs ps h1 h2 = grind (arith, common_steps)

cond_path_of : (x : ℕ) (xs : List ℕ) (ps : List (List ℕ)) (b : Bool) → (b ≡ true → x ≡ 47) → 0 < length ps → path_of ps ≡ 47 ∷ xs → path_of (cond b ([] ∷ ps) (onto_first x ps)) ≡ 47 ∷ x ∷ xs
cond_path_of x xs ps b h1 h2 h3 = grind (arith, common_steps, path_of-onto_first)

pub slash-is : (x : ℕ) → is_slash x ≡ true → x ≡ 47
slash-is x h = grind (arith, nat_tests)

pub path_of-parts : (xs : List ℕ) → path_of (parts xs) ≡ 47 ∷ xs
path_of-parts [] = refl
path_of-parts (x ∷ xs) = cond_path_of x xs (parts xs) (is_slash x) (slash-is x) (parts_some xs) (path_of-parts xs)

pub path_of-segments : (text : List ℕ) → IsTrue (is_path text) → path_of (segments text) ≡ text
path_of-segments text h1 = grind (arith, common_steps, path_of-parts, slash-is)

-- ---- `strip_prefix` of a slash

pub parts_stripped : (bs : List ℕ) (r : Option (Bor (List ℕ))) → MatchOption r ((rest : List ℕ) → bs ≢ 47 ∷ rest) (λ x. bs ≡ 47 ∷ x.now) → IsTrue (is_path bs) → option_map_or (λ rest. parts rest.now) r [] ≡ segments bs
parts_stripped bs r h1 h2 = grind (arith, common_steps, slash-is)

pub path_from_absolute : (text : List ℕ) → IsTrue (is_absolute text) → IsTrue (is_path text)
path_from_absolute text h1 = grind (arith, common_steps)

-- ---- names with equal texts are equal

pub texts-decide : (s t : List ℕ) (ss ts : List (List ℕ)) (same : Bool) → same ≡ bytes_eq s t → IsTrue (is_path s) → IsTrue (is_path t) → segments s ≡ ss → segments t ≡ ts → Decides same (ss ≡ ts)
texts-decide s t ss ts same is s_path t_path s_is t_is =
    let by = bytes_eq-Decides s t in (
      λ h. sym s_is ∙ ap segments (by.0 (sym is ∙ h)) ∙ t_is,
      λ h. is ∙ by.1 (sym (path_of-segments s s_path) ∙ ap path_of (s_is ∙ h ∙ sym t_is) ∙ path_of-segments t t_path),
    )
