-- Waits with a time limit.
use Rattle.std.specs.Prelude.{◌≡◌, ◌⊎◌, ℕ, ⊤, List, map, Option, Some, None, Result, Ok, Err, IsSomeAnd}
use Rattle.std.specs.IoError.{error_kind}
use Rattle.std.specs.declared.io.Error.{Error}
use Rattle.std.specs.declared.io.ErrorKind.TheVariants.{TimedOut}
use Rattle.futures.specs.declared.task.Poll.{Poll}
use Rattle.futures.specs.declared.task.Poll.TheVariants.{Ready, Pending}
use Rattle.futures.specs.Runs.{Runs}
use Rattle.http_body.specs.declared.frame.Frame.{Frame}
use Rattle.tokio.specs.Timers.{sleep_source}
use Rattle.tokio.specs.declared.time.sleep.Sleep.{Sleep}
use Rattle.bx_serve.specs.declared.timeout_body.TimeoutBodyFault.{TimeoutBodyFault}
use Rattle.bx_serve.specs.declared.timeout_body.TimeoutBodyFault.TheVariants.{Body, Late}

-- There is a timer, and `source` is the source that wakes those who wait for it.
abbrev pub TimerNeeds : Option Sleep → ℕ → Type 0
TimerNeeds timer source = IsSomeAnd timer (λ sleep. source ≡ sleep_source sleep)

-- `source` is one of `sources`, or the source of the timer, if any.
abbrev pub OrTimer : (ℕ → Type 0) → Option Sleep → ℕ → Type 0
OrTimer sources timer source = sources source ⊎ TimerNeeds timer source

-- What a call under a time limit may return, the second result, if the call itself returns the
-- first. A ready result is unchanged. A pending one stays pending, or becomes the error `TimedOut`.
abbrev pub InTime : {O : Type 0} → Poll (Result O Error) → Poll (Result O Error) → Type 0
InTime (Ready given) made = made ≡ Ready given
InTime Pending (Ready (Ok given)) = ⊥
InTime Pending (Ready (Err e)) = error_kind e ≡ TimedOut
InTime Pending Pending = ⊤

-- `e` is an error with which the call may fail, or the error `TimedOut`.
abbrev pub OrLate : (Error → Type 0) → Error → Type 0
OrLate fails e = fails e ⊎ (error_kind e ≡ TimedOut)

module _ {D E : Type 0} (source : Runs (Result (Frame D) E)) where
  -- After `frames`, the body with a time limit may yield this: what the inner body may yield, or
  -- the error `Late`.
  abbrev pub Comes : List (Frame D) → Option (Result (Frame D) (TimeoutBodyFault E)) → Type 0
  Comes frames None = source (map Ok frames) None
  Comes frames (Some (Ok frame)) = source (map Ok frames) (Some (Ok frame))
  Comes frames (Some (Err (Body e))) = source (map Ok frames) (Some (Err e))
  Comes frames (Some (Err Late)) = ⊤

  -- The body with a time limit may yield `xs` and then `last`. If `xs` are frames, `last` is the
  -- inner body's next frame, error or end, or the error `Late`. After an error, anything may
  -- follow.
  abbrev pub Outlasts : Runs (Result (Frame D) (TimeoutBodyFault E))
  Outlasts xs last = (frames : List (Frame D)) → xs ≡ map Ok frames → Comes frames last
