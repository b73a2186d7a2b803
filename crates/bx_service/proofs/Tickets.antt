-- The tickets of an admitted request name places in the list that it has seen.
use Rattle.std.proofs.Common.{◌≡◌, ℕ, ◌+◌, ◌-◌, ◌<◌, ◌≤◌, List, [], ◌∷◌, ◌++◌, length, take, drop, sym, ◌∙◌, subst, arith, length-append}
use Rattle.std.proofs.lemmas.List.{length-drop, length-map, length-take-le}
use Rattle.bx_registry.specs.Slots.{given_by, given_from, slots_of}
use Rattle.bx_entry.specs.Words.{ReadInput, added_by, Listed, Judged, PlaceSlot, Ready, Waiting, NoSlot, registry}
use Rattle.bx_entry.specs.declared.entry.Slot.{Slot}
use Rattle.bx_hub.specs.Posts.{AreSlotsAt, IsAdmittedAt}
use Rattle.bx_theory.proofs.Lists.{judged_length}
use Rattle.bx_entry.specs.Placings.{Setup}
use Rattle.bx_window.specs.Steps.{list_of}
use Rattle.bx_window.specs.declared.law.LogStep.{LogStep}
use Rattle.bx_service.specs.Gatherings.{AreBelow}

all_append : (end : ℕ) (xs ys : List Slot) → AreBelow end xs → AreBelow end ys → AreBelow end (xs ++ ys)
all_append end [] ys a b = b
all_append end (x ∷ xs) ys a b = (a.0, all_append end xs ys a.1 b)

given_below : (setup : Setup) (end place : ℕ) (slot : PlaceSlot) → place < end → AreBelow end (given_by setup place slot)
given_below setup end place (Ready reply) l = (tt, tt)
given_below setup end place (Waiting session) l = (l, tt)
given_below setup end place NoSlot l = tt

from_below : (setup : Setup) (end place : ℕ) (slots : List PlaceSlot) → place + length slots ≤ end → AreBelow end (given_from setup place slots)
from_below setup end place [] l = tt
from_below setup end place (slot ∷ slots) l =
    all_append end (given_by setup place slot) (given_from setup (place + 1) slots) (given_below setup end place slot (omega (arith, l))) (from_below setup end (place + 1) slots (omega (arith, l)))

pub slots_below : (setup : Setup) (input : ReadInput) (first : ℕ) (old new : List LogStep) (slots : List Slot) → IsAdmittedAt input first old new → AreSlotsAt setup input first new slots →
    AreBelow (length (list_of new)) slots
slots_below setup input first old new slots admitted are =
    let front : List Listed = take first (list_of new) in
    let all : List Listed = front ++ added_by input in
    let judged : List Judged = (registry setup.config all).judged in
    let many : length (slots_of (registry setup.config all)) ≡ length all = length-map judged (λ (j : Judged). j.slot) ∙ judged_length setup.config all in
    let here : length front ≡ first = length-take-le first (list_of new) (omega (arith, admitted.end)) in
    let left : length (drop (length front) (slots_of (registry setup.config all))) ≡ length (slots_of (registry setup.config all)) - length front =
    length-drop (length front) (slots_of (registry setup.config all)) in
    subst (AreBelow (length (list_of new))) (sym are)
    (from_below setup (length (list_of new)) (length front) (drop (length front) (slots_of (registry setup.config all)))
    (omega (arith, many, here, left, admitted.end, length-append front (added_by input))))
