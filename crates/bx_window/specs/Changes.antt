-- What a change does to the log that a ring shows.
use Rattle.std.specs.Prelude.{List}
use Rattle.bx_window.specs.declared.law.LogId as LogId
use Rattle.bx_window.specs.declared.{law.LogStep.LogStep, published.RingChange.RingChange}
use Rattle.bx_window.specs.declared.published.RingChange.TheVariants.{Add, Trim}
use Rattle.bx_window.specs.Steps.{next_of}

module _ {L : Type 0} {g : LogId.Ghosts L} where
  -- The log up to and including the change.
  abbrev pub front_of : RingChange L g → List LogStep
  front_of (Add published) = published.front
  front_of (Trim trimmed) = trimmed.front

  -- The log that a ring shows after the change, given the log that it showed before. A change that
  -- is not the next one has no effect.
  abbrev pub after : List LogStep → RingChange L g → List LogStep
  after log change = next_of log (front_of change)
