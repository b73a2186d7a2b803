-- The reasons and HTTP statuses of transport errors.
use Rattle.std.specs.Prelude.{ℕ, List, codes}
use Rattle.bx_message.specs.declared.status.Status.{Status}
use Rattle.bx_message.specs.declared.status.Status.TheVariants.{BadRequest, TooLarge, Unavailable}
use Rattle.bx_transport.specs.declared.error.TransportError.{TransportError}
use Rattle.bx_transport.specs.declared.error.TransportError.TheVariants as transports

-- The reason of a transport error in words.
abbrev pub transport_reason : TransportError → List ℕ
transport_reason transports.TooLarge = codes "the request is too large"
transport_reason transports.BadName = codes "the name of the callback is not valid"
transport_reason transports.NoMessage = codes "the parameter message is missing"
transport_reason transports.Memory = codes "out of memory"

-- The HTTP status of the response if a body or a query is rejected with this error.
abbrev pub transport_status : TransportError → Status
transport_status transports.TooLarge = TooLarge
transport_status transports.BadName = BadRequest
transport_status transports.NoMessage = BadRequest
transport_status transports.Memory = Unavailable
