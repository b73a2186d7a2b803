-- How the messages of an admitted request are answered.
use Rattle.std.specs.Prelude.{ℕ, ◌+◌, List, [], ◌∷◌, ◌++◌, length, drop, map}
use Rattle.bx_entry.specs.Words.{Listed, PlaceSlot, Ready, Waiting, NoSlot, Judged, Registry, registry}
use Rattle.bx_entry.specs.Placings.{Setup}
use Rattle.bx_entry.specs.declared.entry.Slot.{Slot}
use Rattle.bx_entry.specs.declared.entry.Slot.TheVariants as answers

-- What the slot of the message at `place` gives its sender: a reply, the ticket of a connect or
-- rider, or nothing for a tick.
abbrev pub given_by : Setup → ℕ → PlaceSlot → List Slot
given_by setup place (Ready reply) = answers.Ready reply ∷ []
given_by setup place (Waiting session) = answers.Waiting (record { place = place; shard = setup.placing session setup.shards }) ∷ []
given_by setup place NoSlot = []

-- What the slots of the elements from `place` on give their senders, in order: replies and tickets.
abbrev pub given_from : Setup → ℕ → List PlaceSlot → List Slot
given_from setup place [] = []
given_from setup place (slot ∷ slots) = given_by setup place slot ++ given_from setup (place + 1) slots

-- The slots of the registry `r`, one for each place, in order.
abbrev pub slots_of : Registry → List PlaceSlot
slots_of r = map (λ (j : Judged). j.slot) r.judged

-- The replies and tickets for a request's messages `added`, if these are appended to `list`.
abbrev pub admitted_slots : Setup → List Listed → List Listed → List Slot
admitted_slots setup list added = given_from setup (length list) (drop (length list) (slots_of (registry setup.config (list ++ added))))
