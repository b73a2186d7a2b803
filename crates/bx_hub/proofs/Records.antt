-- What is recorded of an input results in exactly what the input adds to the list.
use Rattle.std.proofs.Common.{ℕ, ◌≡◌, ◌<◌, List, [], ◌∷◌, ◌++◌, Option, Some, None, length, refl, ap, sym, ◌∙◌, arith, append_assoc, append-nil}
use Rattle.std.specs.List.{AllByRecursion}
use Rattle.bx_message.specs.declared.message.Message.{Message}
use Rattle.bx_entry.specs.declared.input.{Arrival.Arrival, Input.Input}
use Rattle.bx_entry.specs.declared.input.Input.TheVariants.{Post}
use Rattle.bx_entry.specs.Inputs.{added_by}
use Rattle.bx_entry.specs.Listing.{request}
use Rattle.bx_entry.specs.Requests.{read_input}
use Rattle.bx_record.specs.Laws.{CanRecord}
use Rattle.bx_record.specs.Record.{record_of}
use Rattle.bx_hub.specs.Submissions.{input_of}
use Rattle.bx_hub.specs.Records.{input_in, inputs_by, list_by, where_any}
use Rattle.bx_hub.specs.Recordings.{EndsBefore, GoesOn, IsRecorded}
use Rattle.bx_hub.specs.declared.{admission.RecordEnd.RecordEnd, recording.Recording.Recording}
use Rattle.bx_window.specs.declared.law.LogId as LogId
use Rattle.bx_window.specs.declared.law.LogStep.{LogStep}
use Rattle.bx_hub.specs.declared.submission.Submission.{Submission}
use Rattle.bx_hub.specs.declared.submission.Submission.TheVariants as submission

pub all_recordable : (inputs : List Input) (input : Input) → AllByRecursion CanRecord inputs → CanRecord input → AllByRecursion CanRecord (inputs ++ input ∷ [])
all_recordable [] input all one = (one, tt)
all_recordable (x ∷ xs) input all one = (all.0, all_recordable xs input all.1 one)

pub list_by-append : (xs ys : List Input) → list_by (xs ++ ys) ≡ list_by xs ++ list_by ys
list_by-append [] ys = refl
list_by-append (x ∷ xs) ys = ap (λ l. added_by (read_input x) ++ l) (list_by-append xs ys) ∙ sym (append_assoc (added_by (read_input x)) (list_by xs) (list_by ys))

no_request : (a : Arrival) (ms : List Message) → request a.moment a.nonce ms ≡ [] → where_any ms (Post a) ≡ []
no_request a [] is = refl
no_request a (m ∷ ms) is = absurd (omega (arith, ap length is))

pub none_by : (wanted : Submission) → added_by (input_of wanted) ≡ [] → inputs_by wanted ≡ []
none_by (submission.Request r) is = no_request r.now.arrival r.now.messages.items is
none_by (submission.Tick tick) is = absurd (omega (arith, ap length is))

some_of : (ms : List Message) (input : Input) → 0 < length (list_by (where_any ms input)) → where_any ms input ≡ input ∷ []
some_of [] input some = absurd (omega (arith, some))
some_of (m ∷ ms) input some = refl

pub some_by : (wanted : Submission) → 0 < length (list_by (inputs_by wanted)) → inputs_by wanted ≡ input_in wanted ∷ []
some_by (submission.Request r) some = some_of r.now.messages.items (Post r.now.arrival) some
some_by (submission.Tick tick) some = refl

-- ---- A record to which nothing is added

module _ {L : Type 0} {g : LogId.Ghosts L} where
  pub goes_on : (front : List LogStep) (old : Option (Recording L g)) (end : Option (RecordEnd L g)) → IsRecorded front [] old end old end
  goes_on front (Some r) end = record { from = refl; waiting = sym (append-nil r.waiting) }
  goes_on front None end = (refl, refl)

  pub nothing_recorded : (front : List LogStep) (inputs : List Input) (old new : Option (Recording L g)) (old_end new_end : Option (RecordEnd L g)) → inputs ≡ [] → new ≡ old → new_end ≡ old_end →
      IsRecorded front (record_of inputs) old old_end new new_end
  nothing_recorded front inputs old new old_end new_end none same ends = rw (none, same, ends) (goes_on front old old_end)

  pub record_none : (front : List LogStep) (text : List ℕ) (old new : Option (Recording L g)) (old_end new_end : Option (RecordEnd L g)) → old ≡ None → new ≡ None → new_end ≡ old_end →
      IsRecorded front text old old_end new new_end
  record_none front text old new old_end new_end was is ends = rw was (is, ends)

  pub record_on : (front : List LogStep) (text : List ℕ) (old new : Option (Recording L g)) (old_end new_end : Option (RecordEnd L g)) (r s : Recording L g) → old ≡ Some r → new ≡ Some s → GoesOn r text s →
      IsRecorded front text old old_end new new_end
  record_on front text old new old_end new_end r s was is on = rw (was, is) on

  pub record_ended : (front : List LogStep) (text : List ℕ) (old new : Option (Recording L g)) (old_end new_end : Option (RecordEnd L g)) (r : Recording L g) (e : RecordEnd L g) → old ≡ Some r → new ≡ None → new_end ≡ Some e → EndsBefore r front e →
      IsRecorded front text old old_end new new_end
  record_ended front text old new old_end new_end r e was is ended at = rw (was, is, ended) at
