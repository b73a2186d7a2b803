-- The registry as contracts see it, and the plans that continue its list.
use Rattle.std.specs.Prelude.{ℕ, Bool, ◌≡◌, ◌≤◌, List, ◌++◌, length}
use Rattle.bx_advice.specs.declared.config.Config.{Config}
use Rattle.bx_advice.specs.Limits.{greatest_length}
use Rattle.bx_entry.specs.Words.{Listed, registry, entries}
use Rattle.bx_registry.specs.Changes.{Amendment, CanCommit, changed}
use Rattle.bx_registry.specs.Rolls.{Roll, roll_of}
use Rattle.bx_registry.specs.declared.plan.Plan.{Plan}

-- A registry as contracts see it: the configuration, the number of shards, the list, and whether a
-- record is reserved for the next session.
pub record Standing : Type 0 where
  pub config : Config
  pub shards : ℕ
  pub list : List Listed
  pub ready : Bool

-- The roll after the elements of `list`: the part of the registry that the program stores.
abbrev pub roll_at : Config → List Listed → Roll
roll_at config list = roll_of config (registry config list)

-- The change can be made at the end of the list of `s`. It leads to the state of the registry after
-- `elements` are appended to the list, which is then within the greatest length.
pub record LeadsTo (s : Standing) (change : Amendment) (elements : List Listed) : Type 0 where
  pub planned : CanCommit (roll_at s.config s.list) s.ready change
  pub registered : changed (roll_at s.config s.list) change ≡ roll_at s.config (s.list ++ elements)
  pub long : change.length ≡ length (s.list ++ elements)
  pub bounded : length (s.list ++ elements) ≤ greatest_length

-- The plan's batch begins at the end of the list and has the entries of the plan's elements. Its
-- change leads to the list with these elements.
pub record Continues (s : Standing) (p : Plan) : Type 0 where
  pub first : p.batch.first ≡ length s.list
  pub entries : entries s.config (s.list ++ p.elements) ≡ entries s.config s.list ++ p.batch.entries
  pub change : LeadsTo s p.change p.elements
