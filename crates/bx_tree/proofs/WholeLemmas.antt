-- Segments without slashes, and the paths that they make.
use Rattle.std.proofs.Common.{◌≡◌, ℕ, zero, suc, Bool, Ok, List, [], ◌∷◌, take, length, ◌<◌, cond, refl, sym, ap, subst, ◌∙◌, append-nil, arith}
use Rattle.std.specs.{List.onto_first, Bool.one_answer, Str.bytes_eq}
use Rattle.std.proofs.lemmas.{Slice.Eq.bytes_eq-Decides, Grind.common_steps}
use Rattle.bx_names.specs.Words.{is_slash, parts, segments, path_of, Glob, ending_in, same_segments, read_name, read_pattern, same_segments-decides}
use Rattle.bx_names.specs.declared.tail.Tail.{Tail}
use Rattle.bx_names.proofs.{PathLemmas.parts-append, PathLemmas.parts_some, FaultLemmas.name_text, FaultLemmas.read_by-ok}
use Rattle.bx_tree.specs.Whole.{AreWhole}

-- ---- segments of names and patterns

whole_first : (x : ℕ) (ps : List (List ℕ)) (b : Bool) → is_slash x ≡ b → AreWhole ps → AreWhole (cond b ([] ∷ ps) (onto_first x ps))
whole_first x ps b h1 h2 = grind (arith, common_steps)

pub whole_parts : (xs : List ℕ) → AreWhole (parts xs)
whole_parts [] = (refl, tt)
whole_parts (x ∷ xs) = whole_first x (parts xs) (is_slash x) refl (whole_parts xs)

whole_segments : (text : List ℕ) → AreWhole (segments text)
whole_segments text = grind (arith, common_steps, whole_parts)

whole_take : (k : ℕ) (ss : List (List ℕ)) → AreWhole ss → AreWhole (take k ss)
whole_take zero ss h = tt
whole_take (suc k) [] h = tt
whole_take (suc k) (s ∷ ss) h = (h.0, whole_take k ss h.1)

pub whole_name : (text : List ℕ) (name : List (List ℕ)) → read_name text ≡ Ok name → AreWhole name
whole_name text name h = subst AreWhole ((name_text text name h).is) (whole_segments text)

pub some_segment : (text : List ℕ) (name : List (List ℕ)) → read_name text ≡ Ok name → 0 < length name
some_segment text name h1 = grind (arith, common_steps, name_text, parts_some)

whole_ending : (tail : Tail) (ss : List (List ℕ)) → AreWhole ss → AreWhole (ending_in tail ss).segments
whole_ending tail ss h1 = grind (arith, common_steps, whole_take)

pub whole_pattern : (text : List ℕ) (p : Glob) → read_pattern text ≡ Ok p → AreWhole p.segments
whole_pattern text p h = grind (arith, common_steps, read_by-ok, whole_ending, whole_segments)

-- ---- from the path to its segments

pub segments_back : (ss : List (List ℕ)) → AreWhole ss → segments (path_of ss) ≡ ss
segments_back [] h = refl
segments_back (s ∷ []) h = ap parts (append-nil s) ∙ h.0
segments_back (s ∷ t ∷ ts) h = grind (arith, common_steps, parts-append, segments_back (t ∷ ts) h.1)

pub paths_decide : (ss ts : List (List ℕ)) → AreWhole ss → AreWhole ts → bytes_eq (path_of ss) (path_of ts) ≡ same_segments ts ss
paths_decide ss ts h k =
    let by = bytes_eq-Decides (path_of ss) (path_of ts) in
    let same = same_segments-decides ts ss in
    one_answer {P = ts ≡ ss} (bytes_eq (path_of ss) (path_of ts)) (same_segments ts ss)
    (λ e. sym (segments_back ts k) ∙ ap segments (sym (by.0 e)) ∙ segments_back ss h, λ e. by.1 (ap path_of (sym e)))
    same
