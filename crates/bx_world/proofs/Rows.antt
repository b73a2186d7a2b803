-- A list with one element replaced.
use Rattle.std.proofs.Common.{arith, ◌≡◌, ◌≢◌, ℕ, ◌<◌, Some, List, length, map, option_map, slice_get, slice_set, get_or, ap, ◌∙◌}
use Rattle.std.proofs.lemmas.{Option.get_or_from_slice_get, Option.slice_get-map}
use Rattle.bx_reshard.proofs.HeirLemmas.{set_beside, set_here}

pub each_set : {X : Type 0} (P : ℕ → X → Type 0) (xs : List X) (i : ℕ) (y : X) → i < length xs → P i y → ((k : ℕ) (x : X) → k ≢ i → slice_get xs k ≡ Some x → P k x) →
    (k : ℕ) (x : X) → slice_get (slice_set xs i y) k ≡ Some x → P k x
each_set {X} P xs i y h here others k x e = grind (arith, set_here xs i y h, set_beside xs i k y, here, others k x, e)

pub number_there : {X : Type 0} (f : X → ℕ) (xs : List X) (i : ℕ) (x : X) → slice_get xs i ≡ Some x → get_or (map f xs) i 0 ≡ f x
number_there f xs i x e = get_or_from_slice_get (map f xs) i (f x) 0 (slice_get-map f xs i ∙ ap (option_map f) e)
