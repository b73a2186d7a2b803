-- How a record continues and ends.
use Rattle.std.specs.Prelude.{ℕ, ◌≡◌, List, ◌++◌, Option, Some, None}
use Rattle.bx_window.specs.declared.law.LogStep.{LogStep}
use Rattle.bx_window.specs.declared.law.LogId as LogId
use Rattle.bx_hub.specs.declared.{admission.RecordEnd.RecordEnd, recording.Recording.Recording}

module _ {L : Type 0} {g : LogId.Ghosts L} where
  -- `new` is the record `old` with `text` appended to what waits to be written.
  pub record GoesOn (old : Recording L g) (text : List ℕ) (new : Recording L g) : Type 0 where
    pub from : new.from ≡ old.from
    pub waiting : new.waiting ≡ old.waiting ++ text

  -- `end` has what waited to be written of the record `old`, which has ended at `front`.
  pub record EndsBefore (old : Recording L g) (front : List LogStep) (end : RecordEnd L g) : Type 0 where
    pub from : end.recording.from ≡ old.from
    pub waiting : end.recording.waiting ≡ old.waiting
    pub upto : end.front ≡ front

  -- A record goes on with `text` appended, or has ended at `front`. Without a record, nothing has
  -- changed. The arguments are the record and the rest of an ended one, before and after.
  abbrev pub IsRecorded : List LogStep → List ℕ → Option (Recording L g) → Option (RecordEnd L g) → Option (Recording L g) → Option (RecordEnd L g) → Type 0
  IsRecorded front text (Some old) old_end (Some new) new_end = GoesOn old text new
  IsRecorded front text (Some old) old_end None (Some new_end) = EndsBefore old front new_end
  IsRecorded front text (Some old) old_end None None = ⊥
  IsRecorded front text None old_end new new_end = (new ≡ None) × (new_end ≡ old_end)
