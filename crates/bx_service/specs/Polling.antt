-- When an exchange can be polled.
use Rattle.std.specs.Prelude.{⊤}
use Rattle.bx_service.specs.declared.exchange.State.{State}
use Rattle.bx_service.specs.declared.exchange.State.TheVariants.{Collecting, Asked, Held, Declined, Refused, Done}

-- The future that the state waits for, if any, can be polled: the body's, or that of the items.
abbrev pub CanPoll : {I B W : Type 0} → (I → Type 0) → (B → Type 0) → State I B W → Type 0
CanPoll items_can body_can (Collecting content_type body) = body_can body.body
CanPoll items_can body_can (Asked uri) = ⊤
CanPoll items_can body_can (Held callback items) = items_can items
CanPoll items_can body_can (Declined fault witness) = ⊤
CanPoll items_can body_can (Refused status) = ⊤
CanPoll items_can body_can (Done kept) = ⊤
