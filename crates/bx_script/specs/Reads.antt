-- Why a script cannot be read any more.
use Rattle.std.specs.Prelude.{◌≡◌, ◌⊎◌, ⊤, IsTrue}
use Rattle.bx_script.specs.declared.{error.ScriptFault.ScriptFault, part.Reads.Reads}
use Rattle.bx_script.specs.declared.error.ScriptFault.TheVariants.{Memory, Read, Write}

-- A read failed, or no more reads are allowed.
abbrev pub HasEnded : Reads → Type 0
HasEnded reads = IsTrue reads.failed ⊎ (reads.left ≡ 0)

-- The faults that reading may give: memory ran out, or the script cannot be read any more.
abbrev pub IsReadFault : Reads → ScriptFault → Type 0
IsReadFault reads Memory = ⊤
IsReadFault reads Read = HasEnded reads
IsReadFault reads Write = ⊥
