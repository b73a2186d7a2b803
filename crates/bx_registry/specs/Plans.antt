-- The entries and the slots of a plan, and the error if nothing is planned.
use Rattle.std.specs.Prelude.{List, map, flat_map, Option, Some, None, Result, Ok, Err}
use Rattle.bx_entry.specs.declared.{entry.Entry.Entry, entry.Slot.Slot, input.AdmitFault.AdmitFault, input.Refusal.Refusal, input.AdmitFault.TheVariants.Refused}
use Rattle.bx_entry.specs.{Placings.Setup, Registry.Judged}
use Rattle.bx_registry.specs.Slots.{given_by}

-- The entries of judged messages.
abbrev pub entries_in : List Judged → List Entry
entries_in found = map (λ (j : Judged). j.entry) found

-- How the judged messages are answered, in order: by replies or under tickets. A tick is not
-- answered.
abbrev pub slots_in : Setup → List Judged → List Slot
slots_in setup found = flat_map (λ (j : Judged). given_by setup j.entry.place j.slot) found

-- The error for a refusal, or `Ok` if there is none.
abbrev pub checked : Option Refusal → Result (Unit {0}) AdmitFault
checked None = Ok tt
checked (Some refusal) = Err (Refused refusal)
