-- The pattern in a text, by the text's segments.
use Rattle.std.proofs.Common.{◌≡◌, ◌≢◌, ℕ, ◌-◌, ◌<◌, Bool, true, false, IsTrue, List, [], ◌∷◌, ◌++◌, length, take, cond, refl, sym, ap, ◌∙◌, arith, append-nil, codes}
use Rattle.std.specs.{Bool.Decides, List.list_any, Str.bytes_eq}
use Rattle.std.specs.Prelude.{◌||◌}
use Rattle.std.proofs.lemmas.{Bool.false≢true, Grind.common_steps, Slice.Eq.bytes_eq-Decides}
use Rattle.bx_names.specs.Words.{has_star, segments, is_path, path_of, Glob, last_segment, ending_in, glob_of, glob_text}
use Rattle.bx_names.specs.declared.tail.Tail.TheVariants.{Exact, One, Many}
use Rattle.bx_names.proofs.PathLemmas.{path_from_absolute, segments-append, path_of-append, path_of-segments, parts_some}

-- ---- the last segment

last_segment-push : (ss : List (List ℕ)) (s : List ℕ) → last_segment (ss ++ s ∷ []) ≡ s
last_segment-push [] s = refl
last_segment-push (t ∷ []) s = refl
last_segment-push (t ∷ u ∷ us) s = last_segment-push (u ∷ us) s

front-push : (ss : List (List ℕ)) (s : List ℕ) → take (length (ss ++ s ∷ []) - 1) (ss ++ s ∷ []) ≡ ss
front-push ss s = grind (arith, common_steps)

ends_in_last : (s : List ℕ) (ss : List (List ℕ)) → (front : List (List ℕ)) × (s ∷ ss ≡ front ++ last_segment (s ∷ ss) ∷ [])
ends_in_last s [] = ([], refl)
ends_in_last s (t ∷ ts) = let rest = ends_in_last t ts in (s ∷ rest.0, ap (λ us. s ∷ us) rest.1)

pub front_and_last : (ss : List (List ℕ)) → 0 < length ss → ss ≡ take (length ss - 1) ss ++ last_segment ss ∷ []
front_and_last [] some = absurd (omega arith)
front_and_last (s ∷ ss) some =
    let cut = ends_in_last s ss in
    let front = ap (λ ts. take (length ts - 1) ts) cut.1 ∙ front-push cut.0 (last_segment (s ∷ ss)) in
    cut.1 ∙ ap (λ ts. ts ++ last_segment (s ∷ ss) ∷ []) (sym front)

-- ---- the pattern of a text

glob_of-many : (ss : List (List ℕ)) → glob_of (ss ++ codes "**" ∷ []) ≡ record { segments = ss; tail = Many }
glob_of-many ss = rw (last_segment-push ss (codes "**"), front-push ss (codes "**")) refl

glob_of-one : (ss : List (List ℕ)) → glob_of (ss ++ codes "*" ∷ []) ≡ record { segments = ss; tail = One }
glob_of-one ss = rw (last_segment-push ss (codes "*"), front-push ss (codes "*")) refl

pub glob_of-many_text : (own : List ℕ) → glob_of (segments (own ++ codes "/**")) ≡ record { segments = segments own; tail = Many }
glob_of-many_text own = rw (segments-append own (codes "**")) (glob_of-many (segments own))

pub glob_of-one_text : (own : List ℕ) → glob_of (segments (own ++ codes "/*")) ≡ record { segments = segments own; tail = One }
glob_of-one_text own = rw (segments-append own (codes "*")) (glob_of-one (segments own))

glob_exact_by : (ss : List (List ℕ)) (one many : Bool) → (one ≡ true → ⊥) → (many ≡ true → ⊥) → ending_in (cond one One (cond many Many Exact)) ss ≡ record { segments = ss; tail = Exact }
glob_exact_by ss one many h1 h2 = grind (arith, common_steps)

ends_in_segment : (text s : List ℕ) → IsTrue (is_path text) → 0 < length s → last_segment (segments text) ≡ s → text ≡ path_of (take (length (segments text) - 1) (segments text)) ++ 47 ∷ s
ends_in_segment [] s path some is = absurd (omega (arith, ap length is))
ends_in_segment (x ∷ xs) s path some is =
    let ss = segments (x ∷ xs) in
    let cut = front_and_last ss (parts_some xs) ∙ ap (λ t. take (length ss - 1) ss ++ t ∷ []) is in
    let back = path_of-segments (x ∷ xs) path in
    sym back ∙ ap path_of cut ∙ path_of-append (take (length ss - 1) ss) (s ∷ []) ∙ rw append-nil refl

pub glob_of-exact_text : (text : List ℕ) → IsTrue (is_path text) → ((front : List ℕ) → text ≢ front ++ codes "/**") → ((front : List ℕ) → text ≢ front ++ codes "/*") → glob_of (segments text) ≡ record { segments = segments text; tail = Exact }
glob_of-exact_text text path not_many not_one =
    let last = last_segment (segments text) in
    glob_exact_by (segments text) (bytes_eq last (codes "*")) (bytes_eq last (codes "**"))
    (λ e. not_one _ (ends_in_segment text (codes "*") path (omega arith) ((bytes_eq-Decides last (codes "*")).0 e)))
    (λ e. not_many _ (ends_in_segment text (codes "**") path (omega arith) ((bytes_eq-Decides last (codes "**")).0 e)))

-- ---- the text of a pattern

cut_by_tail : (ss : List (List ℕ)) (s : List ℕ) → 0 < length s → last_segment ss ≡ s → path_of (take (length ss - 1) ss) ++ 47 ∷ s ≡ path_of ss
cut_by_tail [] s some is = absurd (omega (arith, ap length is))
cut_by_tail (t ∷ ts) s some is =
    let ss = t ∷ ts in
    let cut = front_and_last ss (omega arith) ∙ ap (λ u. take (length ss - 1) ss ++ u ∷ []) is in
    sym (ap path_of cut ∙ path_of-append (take (length ss - 1) ss) (s ∷ []) ∙ rw append-nil refl)

glob_text_by : (ss : List (List ℕ)) (one many : Bool) → (one ≡ true → last_segment ss ≡ codes "*") → (many ≡ true → last_segment ss ≡ codes "**") → glob_text (ending_in (cond one One (cond many Many Exact)) ss) ≡ path_of ss
glob_text_by ss one many h1 h2 = grind (arith, common_steps, cut_by_tail, append-nil)

pub glob_text-glob_of : (ss : List (List ℕ)) → glob_text (glob_of ss) ≡ path_of ss
glob_text-glob_of ss = grind (arith, common_steps, glob_text_by, bytes_eq-Decides)

-- ---- patterns with equal texts are equal

pub glob_text_back : (text : List ℕ) → IsTrue (is_path text) → glob_text (glob_of (segments text)) ≡ text
glob_text_back text path = glob_text-glob_of (segments text) ∙ path_of-segments text path

pub texts-decide : (s t : List ℕ) (p q : Glob) (same : Bool) → same ≡ bytes_eq s t → IsTrue (is_path s) → IsTrue (is_path t) → glob_of (segments s) ≡ p → glob_of (segments t) ≡ q → Decides same (p ≡ q)
texts-decide s t p q same is s_path t_path s_is t_is =
    let by = bytes_eq-Decides s t in (
      λ h. sym s_is ∙ ap (λ text. glob_of (segments text)) (by.0 (sym is ∙ h)) ∙ t_is,
      λ h. is ∙ by.1 (sym (glob_text_back s s_path) ∙ ap glob_text (s_is ∙ h ∙ sym t_is) ∙ glob_text_back t t_path),
    )

-- ---- a pattern without a wildcard

or_none : (a b : Bool) → (a || b) ≡ false → (a ≡ false) × (b ≡ false)
or_none a b h1 = grind (arith, common_steps)

no_star_in_last : (ss : List (List ℕ)) → list_any has_star ss ≡ false → has_star (last_segment ss) ≡ false
no_star_in_last [] none = refl
no_star_in_last (s ∷ []) none = (or_none (has_star s) false none).0
no_star_in_last (s ∷ t ∷ ts) none = no_star_in_last (t ∷ ts) ((or_none (has_star s) (list_any has_star (t ∷ ts)) none).1)

pub glob_of-plain : (ss : List (List ℕ)) → list_any has_star ss ≡ false → glob_of ss ≡ record { segments = ss; tail = Exact }
glob_of-plain ss none =
    let last = last_segment ss in
    let plain = no_star_in_last ss none in
    glob_exact_by ss (bytes_eq last (codes "*")) (bytes_eq last (codes "**"))
    (λ h. false≢true (sym plain ∙ ap has_star ((bytes_eq-Decides last (codes "*")).0 h)))
    (λ h. false≢true (sym plain ∙ ap has_star ((bytes_eq-Decides last (codes "**")).0 h)))

pub ruleset cut = (path_from_absolute, glob_of-many_text, glob_of-one_text, glob_of-exact_text, common_steps)
