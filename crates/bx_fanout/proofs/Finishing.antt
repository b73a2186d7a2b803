-- Proves that the steps of a run keep the invariant of a round's state.
use Rattle.std.proofs.Common.{◌≡◌, ℕ, ◌+◌, List, [], ◌∷◌, ◌++◌, length, sym, ap, subst, ◌∙◌, drop, take, append-nil, arith, map, ◌-◌, false}
use Rattle.bx_entry.specs.Placings.{Setup}
use Rattle.bx_entry.specs.Runs as runs
use Rattle.bx_entry.specs.Words.{ReadInput, Listed}
use Rattle.bx_fanout.specs.Words.{Row, NoneTakenFrom, AllUntaken, IsTakenIn, IsGiving, IsStaged, is_collecting, own, seen_out}
use Rattle.bx_theory.specs.Opens.{open_after}
use Rattle.bx_fanout.specs.CurrentInputs.{out_of}
use Rattle.bx_fanout.specs.declared.{stage.Stage.Stage, out.Out.Out, current_input.CurrentInput.CurrentInput}
use Rattle.bx_fanout.specs.declared.stage.Stage.TheVariants.{Collecting, Complete, Idle}
use Rattle.bx_fanout.proofs.TakingIn.{intake-same}
use Rattle.bx_world.specs.Worlds.{WorldState}
use Rattle.std.proofs.lemmas.List.{length-append}
use Rattle.std.proofs.Math.Seq.{drop-append_seam, take-append_seam}

pub giving-same : (s setup : Setup) (inputs : List ReadInput) (old new : WorldState) (rows : List Row) (own : List runs.Out) (added : List runs.Out) → s ≡ setup → new.list ≡ old.list → new.taken ≡ old.taken →
    IsGiving setup inputs old rows own added → IsGiving s inputs new rows own added
giving-same s setup inputs old new rows own added same list taken i =
    subst (λ (t : Setup). IsGiving t inputs new rows own added) (sym same) (record {
      list = list ∙ i.list;
      rest = i.rest;
      untaken = subst (λ (ns : List ℕ). AllUntaken ns (open_after setup.config inputs)) (sym taken) i.untaken;
      fresh = subst (λ (ls : List Listed). NoneTakenFrom (length ls) new.taken) (sym list) (subst (NoneTakenFrom (length old.list)) (sym taken) i.fresh);
      left = i.left;
    })

pub staged-same : (s setup : Setup) (inputs : List ReadInput) (old new : WorldState) (rows : List Row) (stage : Stage) (added : List runs.Out) → s ≡ setup → new.list ≡ old.list → new.taken ≡ old.taken →
    IsStaged setup inputs old rows stage added → IsStaged s inputs new rows stage added
staged-same s setup inputs old new rows Idle added same list taken i = giving-same s setup inputs old new rows [] added same list taken i
staged-same s setup inputs old new rows (Collecting n) added same list taken i = intake-same s setup inputs old new rows n added same list taken i
staged-same s setup inputs old new rows (Complete n) added same list taken i = giving-same s setup inputs old new rows (seen_out (out_of n) ∷ []) added same list taken i

pub intake-at : (setup : Setup) (inputs : List ReadInput) (w : WorldState) (rows : List Row) (stage : Stage) (n : CurrentInput) (added : List runs.Out) → stage ≡ Collecting n →
    IsStaged setup inputs w rows stage added → IsTakenIn setup inputs w rows n added
intake-at setup inputs w rows stage n added is i = subst (λ (s : Stage). IsStaged setup inputs w rows s added) is i

pub giving-at : (setup : Setup) (inputs : List ReadInput) (w : WorldState) (rows : List Row) (stage : Stage) (added : List runs.Out) → is_collecting stage ≡ false →
    IsStaged setup inputs w rows stage added → IsGiving setup inputs w rows (map seen_out (own stage)) added
giving-at setup inputs w rows (Collecting n) added none i = cc
giving-at setup inputs w rows _ added none i = i

pub staged-at : (setup : Setup) (inputs : List ReadInput) (w : WorldState) (rows : List Row) (stage : Stage) (added : List runs.Out) → is_collecting stage ≡ false →
    IsGiving setup inputs w rows (map seen_out (own stage)) added → IsStaged setup inputs w rows stage added
staged-at setup inputs w rows (Collecting n) added none i = cc
staged-at setup inputs w rows _ added none i = i

pub behind-is : (xs ys all now : List Out) (k : ℕ) → k ≡ length xs → all ≡ xs ++ ys → now ≡ all → take (length now - k) (drop k now) ≡ ys
behind-is xs ys all now k at is same =
    let len : length (xs ++ ys) ≡ length xs + length ys = length-append xs ys in
    let left : length (xs ++ ys) - length xs ≡ length ys = omega arith in
    ap (λ (os : List Out). take (length os - k) (drop k os)) (same ∙ is)
    ∙ ap (λ (n : ℕ). take (length (xs ++ ys) - n) (drop n (xs ++ ys))) at
    ∙ ap (take (length (xs ++ ys) - length xs)) (drop-append_seam xs ys)
    ∙ ap (λ (n : ℕ). take n ys) left
    ∙ ap (take (length ys)) (sym (append-nil ys)) ∙ take-append_seam ys []
