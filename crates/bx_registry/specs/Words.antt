-- Names of this crate's definitions, for files that import several.
pub use Rattle.bx_registry.specs.Changes.{Amendment, CanCommit, IsPlannedAt, IsWithin, changed}
pub use Rattle.bx_registry.specs.SessionOverlays.{Overlay, IsOverlay, IsSender, members_of, named}
pub use Rattle.bx_registry.specs.Ids.{digit_value, hex_value, number_in, with_digit}
pub use Rattle.bx_registry.specs.MessageOutcomes.{IsRidden, IsVerdict, edit_for}
pub use Rattle.bx_registry.specs.Laws.{GoesOn, RunsAgree, StepsAgree}
pub use Rattle.bx_registry.specs.Planners.{IsFoundAt, IsPlannedBy, roll_between, roll_with}
pub use Rattle.bx_registry.specs.Plans.{checked, entries_in, slots_in}
pub use Rattle.bx_registry.specs.{Postings.posted_of, Setups.setup_of}
pub use Rattle.bx_registry.specs.Rolls.{Roll, after, found, next, roll_of, state_of, step}
pub use Rattle.bx_registry.specs.Slots.{admitted_slots, given_by, given_from, slots_of}
pub use Rattle.bx_registry.specs.Standings.{Continues, LeadsTo, Standing, roll_at}
