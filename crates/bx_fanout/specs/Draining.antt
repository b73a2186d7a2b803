-- Assigning all filed answers to the held connects that wait for them.
use Rattle.std.specs.Prelude.{ℕ, ◌≡◌, ◌<◌, false, slice_index, List, length, map, if◌then◌else◌, Some, None}
use Rattle.std.specs.List.{AllByRecursion}
use Rattle.bx_advice.specs.declared.config.Config.{Config}
use Rattle.bx_entry.specs.Words.{Listed, Waiting}
use Rattle.bx_entry.specs.Placings.{Setup}
use Rattle.bx_shard.specs.Shards.{is_taken, shard_at}
use Rattle.bx_world.specs.Words.{slot_at, WorldState}
use Rattle.bx_fanout.specs.HeldInputs.{Row}
use Rattle.bx_fanout.specs.CurrentInputs.{IsLevel, NoneTakenFrom, given_at}

-- The message at the place of `row` is answered under a ticket. The row has no answer yet, and none
-- was taken for it.
pub record Waits (setup : Setup) (w : WorldState) (row : Row) : Type 0 where
  pub session : ℕ
  pub slot : slot_at setup.config w.list row.0 ≡ Some (Waiting session)
  pub bare : row.1.answer ≡ None
  pub untaken : is_taken w.taken row.0 ≡ false

-- Each connect of `rows` waits, every shard has applied the whole list, and no answer to a place
-- after the end of the list was taken.
pub record CanDrain (setup : Setup) (w : WorldState) (rows : List Row) : Type 0 where
  pub level : IsLevel w
  pub each : AllByRecursion (Waits setup w) rows
  pub fresh : NoneTakenFrom (length w.list) w.taken

-- The held connect with the answer that the list gives to it, or without one if the list has none.
abbrev pub filled : Config → List Listed → Row → Row
filled config list row = (row.0, record { number = row.1.number; answer = given_at config list row.0 })

-- In `after`, each connect of `before` has its answer if the list has it. No answer was taken for a
-- connect that the list does not answer, nor for a place after the end of the list. The list and
-- what each shard has applied are unchanged.
pub record Drained (setup : Setup) (old : WorldState) (before : List Row) (new : WorldState) (after : List Row) : Type 0 where
  pub list : new.list ≡ old.list
  pub applied : new.applied ≡ old.applied
  pub rows : after ≡ map (filled setup.config old.list) before
  pub untaken : AllByRecursion (λ (row : Row). given_at setup.config old.list row.0 ≡ None → is_taken new.taken row.0 ≡ false) before
  pub fresh : NoneTakenFrom (length old.list) new.taken

-- ---- One shard after another

-- The held connect with its answer if that answer was taken, and otherwise without one.
abbrev pub put_if : Config → List Listed → List ℕ → Row → Row
put_if config list taken row = (row.0, record { number = row.1.number; answer = if is_taken taken row.0 then given_at config list row.0 else None })

-- The list has no untaken answer to a connect or rider of `shard`.
abbrev pub IsEmptied : Setup → List Listed → List ℕ → ℕ → Type 0
IsEmptied setup list taken shard = (place session : ℕ) → slot_at setup.config list place ≡ Some (Waiting session) → setup.placing session setup.shards ≡ shard → is_taken taken place ≡ false →
    given_at setup.config list place ≡ None

-- All answers that the first `shard` shards have filed were taken. `rows` are the connects of
-- `before`, each with its answer if that was taken. Every shard has applied the whole list. No
-- answer was taken for a connect that the list does not answer, nor for a place after the end of
-- the list.
pub record Draining (setup : Setup) (before : List Row) (w : WorldState) (rows : List Row) (shard : ℕ) : Type 0 where
  pub level : IsLevel w
  pub put : rows ≡ map (put_if setup.config w.list w.taken) before
  pub untaken : AllByRecursion (λ (row : Row). given_at setup.config w.list row.0 ≡ None → is_taken w.taken row.0 ≡ false) before
  pub fresh : NoneTakenFrom (length w.list) w.taken
  pub emptied : (k : ℕ) → k < shard → IsEmptied setup w.list w.taken k

-- How many answers `shard` has filed that were not taken.
abbrev pub count_filed : Setup → WorldState → ℕ → ℕ
count_filed setup w shard = length (shard_at setup w.list w.taken shard (slice_index w.applied shard)).filed
