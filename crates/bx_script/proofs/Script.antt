-- The first line of a script, and the lines after it.
use Rattle.std.proofs.Common.{◌≡◌, ◌≢◌, ℕ, ◌⊎◌, inl, inr, true, false, List, [], ◌∷◌, ◌++◌, refl, sym, ap, ◌∙◌, Option, Some, None, IfSome}
use Rattle.std.specs.List.{slice_split}
use Rattle.bx_script.specs.Words.{Dialect, is_newline, lines_of, without_empty_end, line_of, first_of, rest_of, ReadsLine, IsNext, meaning_of}
use Rattle.bx_script.specs.declared.line.Line.{Line}
use Rattle.bx_script.proofs.Cuts.{Lacks, before_all, after_all, split_all, split_behind, before_it, after_it, Parted, parted, split_some}
use Rattle.bx_script.proofs.Says.{kept_says}

no_end : (line : List ℕ) (parts : List (List ℕ)) (next : List ℕ) (others : List (List ℕ)) → parts ≡ next ∷ others → without_empty_end (line ∷ parts) ≡ line ∷ without_empty_end parts
no_end [] parts next others e = rw e
no_end (x ∷ xs) parts next others e = rw e

one_line : (x : ℕ) (xs : List ℕ) → Lacks 10 (x ∷ xs) → lines_of (x ∷ xs) ≡ first_of (x ∷ xs) ∷ lines_of (rest_of (x ∷ xs))
one_line x xs lacks =
    ap without_empty_end (split_all 10 (x ∷ xs) lacks) ∙ sym (ap (λ l. l ∷ lines_of (rest_of (x ∷ xs))) (before_all 10 (x ∷ xs) lacks) ∙ ap (λ l. (x ∷ xs) ∷ lines_of l) (after_all 10 (x ∷ xs) lacks))

line_and_rest : (m r : List ℕ) → Lacks 10 m → lines_of (m ++ 10 ∷ r) ≡ first_of (m ++ 10 ∷ r) ∷ lines_of (rest_of (m ++ 10 ∷ r))
line_and_rest m r lacks =
    let some = split_some is_newline r in
    ap without_empty_end (split_behind 10 m r lacks) ∙ no_end m (slice_split is_newline r) some.0 some.1 some.2
    ∙ sym (ap (λ l. l ∷ lines_of (rest_of (m ++ 10 ∷ r))) (before_it 10 m r lacks) ∙ ap (λ l. m ∷ lines_of l) (after_it 10 m r lacks))

pub lines_are : (script : List ℕ) → script ≢ [] → lines_of script ≡ first_of script ∷ lines_of (rest_of script)
lines_are [] some = absurd (some refl)
lines_are (x ∷ xs) some = by_newline (parted 10 (x ∷ xs))
  where
    by_newline : Lacks 10 (x ∷ xs) ⊎ Parted 10 (x ∷ xs) → lines_of (x ∷ xs) ≡ first_of (x ∷ xs) ∷ lines_of (rest_of (x ∷ xs))
    by_newline (inl lacks) = one_line x xs lacks
    by_newline (inr p) =
        ap lines_of p.whole ∙ line_and_rest p.front p.back p.lacks ∙ sym (ap (λ l. first_of l ∷ lines_of (rest_of l)) p.whole)

pub is_next : (d : Dialect) (line : Line) (old new : Option (List ℕ)) (kept : List ℕ) → ReadsLine true old new kept → meaning_of line ≡ line_of d kept → IfSome old (λ script. IsNext d (Some line) script new)
is_next d line None new kept read meaning = tt
is_next d line (Some script) None kept read meaning = absurd read
is_next d line (Some script) (Some rest) kept read meaning = record {
  meaning = meaning ∙ ap (line_of d) read.1 ∙ kept_says d (first_of script);
  lines = lines_are script read.0;
  left = ap Some read.2;
}

pub is_last : (d : Dialect) (old new : Option (List ℕ)) (kept : List ℕ) → ReadsLine false old new kept → IfSome old (λ script. IsNext d None script new)
is_last d None new kept read = tt
is_last d (Some script) None kept read = absurd read
is_last d (Some script) (Some rest) kept read = (read.0, ap Some read.1)
