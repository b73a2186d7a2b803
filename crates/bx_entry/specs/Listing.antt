-- The list of messages and ticks, in the order of their admission.
use Rattle.std.specs.Prelude.{ℕ, ◌==◌, ◌&&◌, ◌||◌, Bool, false, List, [], ◌∷◌, length}
use Rattle.bx_message.specs.declared.message.Message.{Message}
use Rattle.bx_message.specs.MessageKinds.{is_handshake}

-- A message in the list, with the moment and the nonce of its request. `sole`, `last`: whether it
-- is the only message, or the last one, of its request. `second`: whether it is a handshake after
-- another one in its request.
pub record Posted : Type 0 where
  pub message : Message
  pub moment : ℕ
  pub nonce : ℕ
  pub sole : Bool
  pub last : Bool
  pub second : Bool

-- An element of the list: a message or a tick.
pub data Listed : Type 0 where
  Post : (posted : Posted) → Listed
  Tick : (moment : ℕ) → Listed

-- The elements for the last messages of a request, in order. `sole`: whether the whole request has
-- one message. `seen`: whether a message before these is a handshake.
abbrev pub listed_from : ℕ → ℕ → Bool → Bool → List Message → List Listed
listed_from moment nonce sole seen [] = []
listed_from moment nonce sole seen (m ∷ ms) =
    Post (record { message = m; moment = moment; nonce = nonce; sole = sole; last = length ms == 0; second = seen && is_handshake m })
    ∷ listed_from moment nonce sole (seen || is_handshake m) ms

-- The elements that a request appends to the list.
abbrev pub request : ℕ → ℕ → List Message → List Listed
request moment nonce ms = listed_from moment nonce (length ms == 1) false ms
