-- The faults that end a replay early.
use Rattle.std.specs.Prelude.{⊤}
use Rattle.bx_script.specs.Words.{CannotRead, HasFailed}
use Rattle.bx_script.specs.declared.{error.ScriptFault.ScriptFault, lines.Lines.Lines, output.Output.Output}
use Rattle.bx_script.specs.declared.error.ScriptFault.TheVariants.{Memory, Read, Write}

-- The fault is true: if it is `Read`, the script cannot be read further. If it is `Write`, a write
-- failed. `Memory` claims nothing.
abbrev pub IsReplayFault : {R W : Type 0} → Lines R → Output W → ScriptFault → Type 0
IsReplayFault lines output Memory = ⊤
IsReplayFault lines output Read = CannotRead lines
IsReplayFault lines output Write = HasFailed output
