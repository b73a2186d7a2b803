-- Lemmas about lists and options.
use Rattle.std.proofs.Common.{◌≡◌, ℕ, zero, suc, Option, Some, None, List, [], ◌∷◌, ◌++◌, length, map, option_map, slice_get, subst, refl, sym, ◌∙◌}
use Rattle.std.proofs.lemmas.Option.{slice_get-map}
use Rattle.std.specs.Option.{option_or}

pub or_none : {X : Type 0} (o : Option X) → option_or o None ≡ o
or_none None = refl
or_none (Some x) = refl

-- `y` is the image under `f` of element `k` of `xs`. `one` is this element.
pub record Mapped {X Y : Type 0} (f : X → Y) (xs : List X) (k : ℕ) (y : Y) : Type 0 where
  pub one : X
  pub there : slice_get xs k ≡ Some one
  pub is : f one ≡ y

pub mapped : {X Y : Type 0} (f : X → Y) (xs : List X) (k : ℕ) (y : Y) → slice_get (map f xs) k ≡ Some y → Mapped f xs k y
mapped {X} f xs k y e = by (slice_get xs k) refl (sym (slice_get-map f xs k) ∙ e)
  where
    by : (o : Option X) → slice_get xs k ≡ o → option_map f o ≡ Some y → Mapped f xs k y
    by None at h = absurd (cc)
    by (Some x) at h = record { one = x; there = at; is = cc }

pub each_push : {X : Type 0} (P : ℕ → X → Type 0) (xs : List X) (y : X) → ((k : ℕ) (x : X) → slice_get xs k ≡ Some x → P k x) → P (length xs) y → (k : ℕ) (x : X) → slice_get (xs ++ y ∷ []) k ≡ Some x → P k x
each_push P [] y each here zero x e = let same : y ≡ x = cc in subst (P 0) same here
each_push P [] y each here (suc k) x e = absurd (cc)
each_push P (z ∷ xs) y each here zero x e = each 0 x e
each_push P (z ∷ xs) y each here (suc k) x e =
    each_push (λ n. P (suc n)) xs y (λ n v g. each (suc n) v g) here k x e
