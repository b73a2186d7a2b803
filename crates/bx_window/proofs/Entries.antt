-- The steps and keys of a log's entries, as the log grows.
use Rattle.std.proofs.Common.{◌≡◌, ℕ, ◌+◌, List, [], ◌∷◌, ◌++◌, length, refl, ap, sym, ◌∙◌, arith}
use Rattle.std.proofs.lemmas.List.{map-append, length-map}
use mathlib.Core.List.{IsPrefix}
use Rattle.bx_window.specs.declared.law.{LoggedStep.LoggedStep, LogStep.LogStep}
use Rattle.bx_window.specs.Rules.{IsBegun, key_from, key_of, steps_in, steps_of}

abbrev step_in : LoggedStep → LogStep
step_in e = e.step

pub steps_next : (log : List LoggedStep) (e : LoggedStep) → IsBegun log → steps_of (log ++ e ∷ []) ≡ steps_of log ++ e.step ∷ []
steps_next [] e begun = absurd (omega arith)
steps_next (d ∷ log) e begun = map-append step_in log (e ∷ [])

pub steps_count : (log : List LoggedStep) → IsBegun log → length (steps_of log) + 1 ≡ length log
steps_count [] begun = absurd (omega arith)
steps_count (d ∷ log) begun = let n = length-map log step_in in omega (arith, n)

pub steps_prefix : (xs ys : List LoggedStep) → IsPrefix xs ys → IsPrefix (steps_of xs) (steps_of ys)
steps_prefix [] ys p = (steps_of ys, refl)
steps_prefix (x ∷ xs) [] p = absurd (cc (p.1))
steps_prefix (x ∷ xs) (y ∷ ys) p =
    let rest : xs ++ p.0 ≡ ys = cc (p.1) in
    (steps_in p.0, sym (map-append step_in xs p.0) ∙ ap steps_in rest)

key_last : (k : ℕ) (log : List LoggedStep) (e : LoggedStep) → key_from k (log ++ e ∷ []) ≡ e.next
key_last k [] e = refl
key_last k (d ∷ log) e = key_last d.next log e

pub key_next : (log : List LoggedStep) (e : LoggedStep) → key_of (log ++ e ∷ []) ≡ e.next
key_next log e = key_last 0 log e
