-- What a call of admission has done with a request or a tick.
use Rattle.std.specs.Prelude.{◌≡◌, ◌++◌, List, Bool, true, None, Result, MatchResult}
use Rattle.bx_entry.specs.Placings.{Setup}
use Rattle.bx_entry.specs.declared.entry.Admitted.{Admitted}
use Rattle.bx_record.specs.Record.{record_of}
use Rattle.bx_registry.specs.declared.plan.Plan.{Plan}
use Rattle.bx_window.specs.declared.law.LogId as LogId
use Rattle.bx_window.specs.declared.law.LogStep.{LogStep}
use Rattle.bx_window.specs.Steps.{list_of}
use Rattle.bx_hub.specs.Posts.{AreSlotsAt, IsAdmittedAt, IsGrown, IsWhole}
use Rattle.bx_hub.specs.Recordings.{IsRecorded}
use Rattle.bx_hub.specs.Records.{inputs_by}
use Rattle.bx_hub.specs.Submissions.{input_of}
use Rattle.bx_hub.specs.declared.{admission.Admission.Admission, fault.PostFault.PostFault, submission.Submission.Submission}
use Rattle.bx_hub.specs.declared.fault.PostFault.TheVariants.{Closed}

-- `wanted` was admitted at its first place, and a pass was extended from `old` to `new`.
abbrev pub IsAdmittedIn : Submission → List LogStep → List LogStep → Admitted → Type 0
IsAdmittedIn wanted old new admitted = IsAdmittedAt (input_of wanted) admitted.first old new

-- The slots are those of `wanted` at its first place in the list of `front`.
abbrev pub HasSlotsIn : Setup → Submission → List LogStep → Admitted → Type 0
HasSlotsIn setup wanted front admitted = AreSlotsAt setup (input_of wanted) admitted.first front admitted.slots

-- `new` is the whole log after `wanted` was appended to the log `old`.
abbrev pub IsAppended : Submission → List LogStep → List LogStep → Admitted → Type 0
IsAppended wanted old new admitted = IsGrown (input_of wanted) (inputs_by wanted) admitted.first old new

-- The place and the slots are those of `plan`, whose elements follow the list of `old` in the list
-- of `new`.
abbrev pub IsPublished : Plan → List LogStep → List LogStep → Admitted → Type 0
IsPublished plan old new admitted =
    (admitted ≡ record { first = plan.batch.first; slots = plan.slots }) × (list_of new ≡ list_of old ++ plan.elements)

-- On success, `front` is the whole log. On error, `IsWhole` states what it is.
abbrev pub HasSeenAll : {T : Type 0} → Result T PostFault → List LogStep → List LogStep → Type 0
HasSeenAll result front log = MatchResult result (λ _. front ≡ log) (λ fault. IsWhole fault front log)

-- The fault is `Closed` exactly if admission was closed.
abbrev pub TellsClosed : Bool → PostFault → Type 0
TellsClosed closed fault = (fault ≡ Closed → closed ≡ true) × (closed ≡ true → fault ≡ Closed)

module _ {L R : Type 0} {g : LogId.Ghosts L} where
  -- The record and the rest of an ended one are unchanged.
  abbrev pub KeepsRecord : Admission L R g → Admission L R g → Type 0
  KeepsRecord old new = (new.recording ≡ old.recording) × (new.record_end ≡ old.record_end)

  -- The log, the record, and the rest of an ended one are unchanged.
  abbrev pub KeepsLog : Admission L R g → Admission L R g → Type 0
  KeepsLog old new = (new.writer ≡ old.writer) × (new.recording ≡ old.recording) × (new.record_end ≡ old.record_end)

  -- All but the record and the rest of an ended one is unchanged.
  abbrev pub KeepsAllButRecord : Admission L R g → Admission L R g → Type 0
  KeepsAllButRecord old new = (new.registry ≡ old.registry) × (new.writer ≡ old.writer) × (new.closed ≡ old.closed)

  -- There is no record, and no rest of an ended one.
  abbrev pub HasNoRecord : Admission L R g → Type 0
  HasNoRecord admission = (admission.recording ≡ None) × (admission.record_end ≡ None)

  -- The record goes on with the text of `wanted`, or has ended before it.
  abbrev pub HasRecorded : Submission → Admission L R g → Admission L R g → Type 0
  HasRecorded wanted old new = IsRecorded old.writer (record_of (inputs_by wanted)) old.recording old.record_end new.recording new.record_end
