-- Requests and ticks to append, as the definitions read them.
use Rattle.bx_entry.specs.Inputs.{ReadInput, Request, Tick}
use Rattle.bx_hub.specs.declared.submission.Submission.{Submission}
use Rattle.bx_hub.specs.declared.submission.Submission.TheVariants as submission

-- The submission as a `ReadInput`: a request with its messages, or a tick with its moment.
abbrev pub input_of : Submission → ReadInput
input_of (submission.Request r) = Request r.now.arrival.moment r.now.arrival.nonce r.now.messages.items
input_of (submission.Tick tick) = Tick tick.now.moment
