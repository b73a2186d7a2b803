-- Names of this crate's definitions, for files that import several.
pub use Rattle.bx_script.specs.Kept.{keep_byte, kept_with, without_zeros}
pub use Rattle.bx_script.specs.Lines.{CannotRead, IsNext, NextLine, dialect_of, read_as, reads_left, meaning_of, unread}
pub use Rattle.bx_script.specs.Output.{HasFailed, IsWriteFault, written}
pub use Rattle.bx_script.specs.Printing.{AppendsFront, Writes, is_tick, numbered}
pub use Rattle.bx_script.specs.Reading.{IsCut, PartRead, ReadsLine, ReadsPart, first_of, rest_of}
pub use Rattle.bx_script.specs.Replay.{Accepted, Announced, Bad, Dialect, Line, Noted, Recorded, Script, Numbered, Refused, Rejected, Resharded, announced_by, body_taken, command, form_taken, handed_by, held_text, inputs_from, is_digest, is_newline, is_space, line_by, line_of, line_text, line_with, lines_in, lines_of, nonce_at, nonce_after, nonce_left, nonce_of, noted_by, out_by, printed, query_taken, replay_text, resharded_by, result_text, timed_line, with_nonce, with_nonces, without_empty_end}
