-- What a line means, and what is left of a script.
use Rattle.std.specs.Prelude.{ℕ, ◌≡◌, List, [], ◌∷◌, Option, Some, None, string_bytes, option_map}
use Rattle.bx_script.specs.Replay.{Dialect, line_of, lines_of}
use Rattle.bx_script.specs.Replay as replay
use Rattle.bx_entry.specs.Requests.{read_input}
use Rattle.bx_message.specs.Statuses.{code_of}
use Rattle.bx_script.specs.{Reading.first_of, Reading.rest_of, Reads.HasEnded, Reads.IsReadFault}
use Rattle.bx_script.specs.declared.{error.ScriptFault.ScriptFault, line.Line.Line, lines.Lines.Lines, dialect.Dialect.TheVariants.Script, dialect.Dialect.TheVariants.Recorded}
use Rattle.bx_script.specs.declared.dialect.Dialect as dialects
use Rattle.bx_script.specs.declared.line.Line.TheVariants.{Bad, Rejected, Accepted, Resharded, Announced, Noted}

-- The program's dialect as a `Dialect` of the definitions.
abbrev pub dialect_of : dialects.Dialect → Dialect
dialect_of Script = replay.Script
dialect_of Recorded = replay.Recorded

-- The program's line as a `Line` of the definitions: its meaning.
abbrev pub meaning_of : Line → replay.Line
meaning_of Bad = replay.Bad
meaning_of (Rejected status) = replay.Rejected (code_of status)
meaning_of (Accepted callback input) = replay.Accepted (option_map string_bytes callback) (read_input input)
meaning_of (Resharded shards) = replay.Resharded shards
meaning_of (Announced nonce) = replay.Announced nonce
meaning_of Noted = replay.Noted

-- The bytes of the script that are left, if they are known. `remaining`: those of a reader.
abbrev pub unread : {R : Type 0} → (R → Option (List ℕ)) → Lines R → Option (List ℕ)
unread remaining lines = remaining lines.reader

-- How many more times the script may be read.
abbrev pub reads_left : {R : Type 0} → Lines R → ℕ
reads_left lines = lines.reads.left

-- A read failed, or no more reads are allowed.
abbrev pub CannotRead : {R : Type 0} → Lines R → Type 0
CannotRead lines = HasEnded lines.reads

-- `fault` is one that reading `lines` may give: memory ran out, or the script cannot be read any
-- more.
abbrev pub IsFault : {R : Type 0} → Lines R → ScriptFault → Type 0
IsFault lines fault = IsReadFault lines.reads fault

-- The dialect in which `lines` are parsed.
abbrev pub read_as : {R : Type 0} → Lines R → Dialect
read_as lines = dialect_of lines.dialect

-- `line` is the meaning of the first line of `script`, and `rest` has the bytes after that line.
pub record NextLine (dialect : Dialect) (line : Line) (script : List ℕ) (rest : Option (List ℕ)) : Type 0 where
  pub meaning : meaning_of line ≡ line_of dialect (first_of script)
  pub lines : lines_of script ≡ first_of script ∷ lines_of (rest_of script)
  pub left : rest ≡ Some (rest_of script)

-- The result of reading the next line: the first line of `script`, or `None` if no line is left.
-- `rest`: the bytes that are left after that.
abbrev pub IsNext : Dialect → Option Line → List ℕ → Option (List ℕ) → Type 0
IsNext dialect None script rest = (script ≡ []) × (rest ≡ Some [])
IsNext dialect (Some line) script rest = NextLine dialect line script rest
