-- The values of a form's parameters, in order.
use Rattle.std.proofs.Common.{◌≡◌, ℕ, Bool, true, false, cond, List, [], ◌∷◌, ◌++◌, map, filter, refl}
use Rattle.bx_transport.specs.Forms.{Pair, is_named, text_of, values_among}

pub values-more : (name : List ℕ) (p : Pair) (ps : List Pair) → values_among name (p ∷ ps) ≡ values_among name (p ∷ []) ++ values_among name ps
values-more name p ps = by_test (is_named name p)
  where
    by_test : (b : Bool) → map (λ (pair : Pair). text_of pair.1) (cond b (p ∷ filter (is_named name) ps) (filter (is_named name) ps))
        ≡ map (λ (pair : Pair). text_of pair.1) (cond b (p ∷ []) []) ++ values_among name ps
    by_test true = refl
    by_test false = refl
