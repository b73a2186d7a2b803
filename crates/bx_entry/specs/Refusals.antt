-- The reasons and HTTP statuses of refusals.
use Rattle.std.specs.Prelude.{ℕ, List, codes}
use Rattle.bx_message.specs.declared.status.Status.{Status}
use Rattle.bx_message.specs.declared.status.Status.TheVariants as statuses
use Rattle.bx_entry.specs.declared.input.Refusal.{Refusal}
use Rattle.bx_entry.specs.declared.input.Refusal.TheVariants.{NotJson, NotObject, TooMany, NoChannel, Forbidden, BadMoment, Ended}

-- The reason of a refusal in words.
abbrev pub refusal_reason : Refusal → List ℕ
refusal_reason NotJson = codes "the messages are not JSON"
refusal_reason NotObject = codes "a message is not a JSON object"
refusal_reason TooMany = codes "too many messages in one request"
refusal_reason NoChannel = codes "a message has no channel"
refusal_reason Forbidden = codes "the listener is read-only"
refusal_reason BadMoment = codes "the clock is out of range"
refusal_reason Ended = codes "the list is full"

-- The HTTP status of a refusal: 403 for `Forbidden`, 503 for `Ended`, and otherwise 400.
abbrev pub refusal_status : Refusal → Status
refusal_status Forbidden = statuses.Forbidden
refusal_status Ended = statuses.Unavailable
refusal_status _ = statuses.BadRequest
