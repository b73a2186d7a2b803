-- What a request or a tick changes in a roll, the part of the registry that the program stores.
use Rattle.std.specs.Prelude.{ℕ, Bool, ◌≡◌, ◌≤◌}
use Rattle.bx_advice.specs.declared.config.Config.{Config}
use Rattle.bx_advice.specs.Limits.{greatest_moment, greatest_length}
use Rattle.bx_roster.specs.Words.{Members, CanEditBy, edited_by, opens, room_of}
use Rattle.bx_roster.specs.declared.edit.Edits.{Edits}
use Rattle.bx_registry.specs.Rolls.{Roll}

-- A change to a roll, which a request or a tick makes: the edits of sessions, and the clock and the
-- list's length after it.
pub record Amendment : Type 0 where
  pub edits : Edits
  pub clock : ℕ
  pub length : ℕ

-- The `roll` after the change `c`, with the same configuration and senders.
abbrev pub changed : Roll → Amendment → Roll
changed roll c = record { config = roll.config; members = edited_by roll.members c.edits; clock = c.clock; length = c.length; senders = roll.senders }

-- The change `c` can be made to `roll`. After it, the clock and the list's length are within their
-- limits. No more sessions were opened than the list has elements.
pub record IsPlannedAt (roll : Roll) (c : Amendment) : Type 0 where
  pub edits : CanEditBy roll.members c.edits
  pub opened : (edited_by roll.members c.edits).opened ≤ c.length
  pub clock : c.clock ≤ greatest_moment
  pub length : c.length ≤ greatest_length

-- The change `c` can be made to `roll`, with a result within the limits. It opens at most one
-- session, and none unless a record is reserved (`ready`).
pub record CanCommit (roll : Roll) (ready : Bool) (c : Amendment) : Type 0 where
  pub planned : IsPlannedAt roll c
  pub room : opens c.edits ≤ room_of ready

-- The sessions have the limit of `config`, and no more were opened than the list has elements. The
-- clock and the list's `length` are within their limits.
pub record IsWithin (config : Config) (ms : Members) (clock length : ℕ) : Type 0 where
  pub limit : ms.limit ≡ config.limits.sessions
  pub opened : ms.opened ≤ length
  pub moment : clock ≤ greatest_moment
  pub end : length ≤ greatest_length
