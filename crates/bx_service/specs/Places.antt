-- The place of an admitted request's first message.
use Rattle.std.specs.Prelude.{ℕ, ⊤, Option}
use Rattle.bx_service.specs.declared.exchange.State.{State}
use Rattle.bx_service.specs.declared.exchange.State.TheVariants.{Collecting, Asked, Held, Declined, Refused, Done}

-- If the request was admitted, `place` is one that `stands` allows for its items.
abbrev pub IsPlaced : {I B W : Type 0} → (I → Option ℕ → Type 0) → Option ℕ → State I B W → Type 0
IsPlaced stands place (Collecting content_type body) = ⊤
IsPlaced stands place (Asked uri) = ⊤
IsPlaced stands place (Held callback items) = stands items place
IsPlaced stands place (Declined fault witness) = ⊤
IsPlaced stands place (Refused status) = ⊤
IsPlaced stands place (Done kept) = ⊤
