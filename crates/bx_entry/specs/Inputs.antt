-- Inputs after their documents are read, and why an input is rejected.
use Rattle.std.specs.Prelude.{ℕ, ◌≡◌, ◌+◌, List, [], ◌∷◌, length, nat_lt, Option, Some, None}
use Rattle.bx_names.specs.Faults.{first_case}
use Rattle.bx_advice.specs.Limits.{greatest_moment, greatest_length}
use Rattle.bx_message.specs.declared.message.Message.{Message}
use Rattle.bx_entry.specs.Listing.{Listed, request}
use Rattle.bx_entry.specs.Listing as messages
use Rattle.bx_entry.specs.declared.{input.AdmitFault.AdmitFault, input.Refusal.Refusal, input.AdmitFault.TheVariants.Refused, input.AdmitFault.TheVariants.Memory}
use Rattle.bx_entry.specs.declared.input.Refusal.TheVariants.{BadMoment, Ended}

-- A request with its messages, a request that is rejected before its messages are listed, or a
-- tick.
pub data ReadInput : Type 0 where
  Request : (moment : ℕ) → (nonce : ℕ) → (messages : List Message) → ReadInput
  Unread : (refusal : Refusal) → ReadInput
  Tick : (moment : ℕ) → ReadInput

-- The elements that an input appends to the list, if it is admitted. A request without messages to
-- list appends none.
abbrev pub added_by : ReadInput → List Listed
added_by (Request moment nonce ms) = request moment nonce ms
added_by (Unread refusal) = []
added_by (Tick moment) = messages.Tick moment ∷ []

-- Why an input at `moment` is rejected, if the list would have length `end` after it. The moment is
-- tested first, then the length. `None` if neither is too large.
abbrev pub refused_beyond : ℕ → ℕ → Option Refusal
refused_beyond moment end = first_case ((nat_lt greatest_moment moment, BadMoment) ∷ (nat_lt greatest_length end, Ended) ∷ [])

-- Why an input is rejected if the list has length `len` before it, or `None` if it is admitted.
abbrev pub refusal_of : ℕ → ReadInput → Option Refusal
refusal_of len (Request moment nonce ms) = refused_beyond moment (len + length ms)
refusal_of len (Unread refusal) = Some refusal
refusal_of len (Tick moment) = refused_beyond moment (len + 1)

-- A program may report this fault: the refusal or, only if there is none, that memory ran out.
abbrev pub IsFault : Option Refusal → AdmitFault → Type 0
IsFault refusal (Refused r) = refusal ≡ Some r
IsFault refusal Memory = refusal ≡ None
