-- Names of this crate's definitions, for files that import several.
pub use Rattle.bx_roster.specs.Edits.{CanEdit, CanEditBy, CanEditEach, IsNext, edited, edited_by, is_open, opened_by, opened_by_each, opens, room_of}
pub use Rattle.bx_roster.specs.Kept.{IsKept, Record, Stands, later, session_of, sessions_in, vacant_count, with_one}
unfoldable pub use Rattle.bx_roster.specs.Kept.{sessions_to}
pub use Rattle.bx_roster.specs.Live.{Members, Prepared, live_in, with_live}
pub use Rattle.bx_roster.specs.Queues.{AllFiled, IsFrom, IsRoster, due_order, entries, files, is_past, past_numbers}
pub use Rattle.bx_roster.specs.Tables.{AllLive, IsAbsent, IsNamed, IsTable, due_at, client_and_ack_of, known_of}
