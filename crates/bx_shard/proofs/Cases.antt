-- A case distinction on an optional value.
use Rattle.std.proofs.Common.{◌≡◌, Option, Some, None, refl}

pub by_option : {X : Type 0} (G : Option X → Type 0) (o : Option X) → (o ≡ None → G None) → ((x : X) → o ≡ Some x → G (Some x)) → G o
by_option G o at_none at_some = (elim o as (λ p. o ≡ p → G p) [ None ↦ at_none | Some x ↦ at_some x ]) refl
