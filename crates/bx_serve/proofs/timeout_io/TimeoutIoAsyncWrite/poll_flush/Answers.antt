use Rattle.std.proofs.Common.{subst, sym}
use Rattle.tokio.specs.Io.Moved.{IfReadyErr}
use Rattle.bx_serve.specs.Timeouts.{OrLate}
use Rattle.bx_serve.proofs.TimeoutLemmas.{in_time}
use Rattle.bx_serve.proofs.timeout_io.TimeoutIoAsyncWrite.poll_flush.Goals as goal

pub returns-clause-failed : goal.returns-clause-failed
returns-clause-failed g c = subst (λ (p : _). IfReadyErr c.poll_taken.result (OrLate (g.I.AsyncWrite.fails p)))
    (sym c.poll_taken.ensures.io) (in_time (g.I.AsyncWrite.fails c.poll_flush-flushed.new.self) c.poll_flush-flushed.result c.poll_taken.result c.poll_taken.ensures.given c.poll_flush-flushed.ensures.failed)
