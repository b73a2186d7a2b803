-- The lines that wait in a log of answers, and whether it accepts more.
use Rattle.std.specs.Prelude.{ℕ, ◌≡◌, ◌+◌, ◌<◌, List, ◌++◌, length, Option, Some, None}
use Rattle.bx_record.specs.declared.{answer_lines.LogState.LogState, waiting.RecordFault.RecordFault, waiting.TheConstants.MAX_WAITING_BYTES}
use Rattle.bx_record.specs.declared.waiting.RecordFault.TheVariants.{Full, Memory, Unrecordable}
use Rattle.bx_record.specs.declared.answer_lines.LogState.TheVariants.{Open, Ended, Closed}

-- Adding `line` may change the waiting lines `old` to `new`, and the state of the log. `line` is
-- appended if the log accepts lines before and after. Otherwise the lines do not change: the log
-- had ended, or it ends because too many bytes would wait or memory ran out.
abbrev pub IsAdded : LogState → LogState → List ℕ → List ℕ → List ℕ → Type 0
IsAdded Open Open line old new = new ≡ old ++ line
IsAdded Open (Ended Full) line old new = (new ≡ old) × (MAX_WAITING_BYTES < length old + length line)
IsAdded Open (Ended Unrecordable) line old new = ⊥
IsAdded Open (Ended Memory) line old new = new ≡ old
IsAdded Open Closed line old new = ⊥
IsAdded (Ended fault) after line old new = (new ≡ old) × (after ≡ Ended fault)
IsAdded Closed after line old new = (new ≡ old) × (after ≡ Closed)

-- The state of the log after it is ended because of `fault`. A log that has ended does not change.
abbrev pub ended_by : RecordFault → LogState → LogState
ended_by fault Open = Ended fault
ended_by fault (Ended before) = Ended before
ended_by fault Closed = Closed

-- The fault that ended the log, if it is not reported yet.
abbrev pub fault_in : LogState → Option RecordFault
fault_in Open = None
fault_in (Ended fault) = Some fault
fault_in Closed = None

-- The state of the log after its fault, if any, was reported.
abbrev pub after_report : LogState → LogState
after_report Open = Open
after_report (Ended fault) = Closed
after_report Closed = Closed
