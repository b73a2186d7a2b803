-- The reasons and statuses of responses without items.
use Rattle.std.specs.Prelude.{ℕ, List, codes}
use Rattle.bx_hub.specs.Faults.{fault_reason, fault_status}
use Rattle.bx_message.specs.declared.status.Status.{Status}
use Rattle.bx_message.specs.declared.status.Status.TheVariants as statuses
use Rattle.bx_service.specs.declared.{collect.CollectError.CollectError, error.RequestError.RequestError}
use Rattle.bx_service.specs.declared.collect.CollectError.TheVariants as bodies
use Rattle.bx_service.specs.declared.error.RequestError.TheVariants.{NotFound, MethodNotAllowed, TransferCoding, CallbackPolling, MediaType, BodyFailed, Unreadable, NotAdmitted, Unanswered, Memory}
use Rattle.bx_transport.specs.Statuses.{transport_reason, transport_status}
use Rattle.bx_transport.specs.declared.error.TransportError.TheVariants as transports

-- The reason of an error in words.
abbrev pub error_reason : RequestError → List ℕ
error_reason NotFound = codes "Bayeux is at /cometd"
error_reason MethodNotAllowed = codes "the method is neither GET nor POST"
error_reason TransferCoding = codes "the transfer coding is not chunked"
error_reason CallbackPolling = codes "callback-polling is off"
error_reason MediaType = codes "the content type is not application/json"
error_reason BodyFailed = codes "the body ended early"
error_reason (Unreadable error) = transport_reason error
error_reason (NotAdmitted fault) = fault_reason fault
error_reason Unanswered = codes "the answer is unavailable"
error_reason Memory = codes "out of memory"

-- The status of the response to a request with an error.
abbrev pub error_status : RequestError → Status
error_status NotFound = statuses.NotFound
error_status MethodNotAllowed = statuses.MethodNotAllowed
error_status TransferCoding = statuses.NotImplemented
error_status CallbackPolling = statuses.Forbidden
error_status MediaType = statuses.UnsupportedMediaType
error_status BodyFailed = statuses.BadRequest
error_status (Unreadable error) = transport_status error
error_status (NotAdmitted fault) = fault_status fault
error_status Unanswered = statuses.Unavailable
error_status Memory = statuses.Unavailable

-- The error of a request, by the reason for which its body was not collected.
abbrev pub of_collect : CollectError → RequestError
of_collect bodies.TooLarge = Unreadable transports.TooLarge
of_collect bodies.Failed = BodyFailed
of_collect bodies.Memory = Unreadable transports.Memory
