-- Which wakers are removed from connects, to wake their tasks.
use Rattle.std.specs.Prelude.{ℕ, ◌≡◌, nat_eq, List, [], ◌∷◌, ◌++◌, if◌then◌else◌, Option, Some, None}
use Rattle.futures.specs.declared.task.waker.Waker.{Waker}
use Rattle.bx_connects.specs.declared.connects.ConnectState.{ConnectState}
use Rattle.bx_connects.specs.declared.connects.ConnectState.TheVariants.{Held, Filed}

-- The waker that is stored with a connect, if any.
abbrev pub waker_of : Option ConnectState → Option Waker
waker_of None = None
waker_of (Some (Held session deadline waker)) = waker
waker_of (Some (Filed session place answer)) = None

-- The wakers by the places of their connects, without the one at `place`.
abbrev pub without : ℕ → (ℕ → Option Waker) → ℕ → Option Waker
without place wakers p = if nat_eq place p then None else wakers p

-- Removing the wakers of the list from `before`, one after another, gives `after`.
abbrev pub AreTaken : List Waker → (ℕ → Option Waker) → (ℕ → Option Waker) → Type 0
AreTaken [] before after = (p : ℕ) → after p ≡ before p
AreTaken (waker ∷ rest) before after = (place : ℕ) × (before place ≡ Some waker) × AreTaken rest (without place before) after

-- `new` is the list `old` followed by `added`. `added` has exactly the wakers that connects have in
-- `before` and no longer in `after`.
pub record AreWoken (before after : ℕ → Option ConnectState) (old new : List Waker) : Type 0 where
  pub added : List Waker
  pub behind : new ≡ old ++ added
  pub taken : AreTaken added (λ p. waker_of (before p)) (λ p. waker_of (after p))
