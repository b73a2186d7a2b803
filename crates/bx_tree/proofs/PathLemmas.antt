-- The path of a search: the beginning of the name's text, before the remaining segments.
use Rattle.std.proofs.Common.{◌≡◌, ℕ, ◌+◌, ◌-◌, ◌≤◌, List, ◌∷◌, ◌++◌, take, drop, length, sym, ap, ◌∙◌, arith, length-append, length-drop}
use Rattle.std.proofs.Math.Seq.{take-add}
use Rattle.std.proofs.lemmas.List.{take_at, drop_at, drop-drop}
use Rattle.bx_names.specs.Segments.{path_of}

module _ (text segment : List ℕ) (len : ℕ) (rest : List (List ℕ)) (ahead : drop len text ≡ path_of (segment ∷ rest)) where
  long : length text - len ≡ 1 + length segment + length (path_of rest)
  long = sym (length-drop len text) ∙ ap length ahead ∙ length-append (47 ∷ segment) (path_of rest) ∙ omega arith

  pub longer_within : len + (1 + length segment) ≤ length text
  longer_within = omega (arith, long)

  pub longer_path : take (len + (1 + length segment)) text ≡ take len text ++ 47 ∷ segment
  longer_path = take-add len (1 + length segment) text ∙ ap (λ (t : List ℕ). take len text ++ take (1 + length segment) t) ahead ∙ ap (λ (s : List ℕ). take len text ++ s) (take_at (47 ∷ segment) (path_of rest) (1 + length segment) (omega arith))

  pub longer_ahead : drop (len + (1 + length segment)) text ≡ path_of rest
  longer_ahead = sym (drop-drop (1 + length segment) len text) ∙ ap (λ (t : List ℕ). drop (1 + length segment) t) ahead ∙ drop_at (47 ∷ segment) (path_of rest) (1 + length segment) (omega arith)
