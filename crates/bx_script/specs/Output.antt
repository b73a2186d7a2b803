-- What was written to a writer, and whether a write failed.
use Rattle.std.specs.Prelude.{ℕ, ⊤, IsTrue, List, Option}
use Rattle.bx_script.specs.declared.{error.ScriptFault.ScriptFault, output.Output.Output}
use Rattle.bx_script.specs.declared.error.ScriptFault.TheVariants.{Memory, Read, Write}

-- The bytes that were written to `output`, if they are known. `contents`: those of a writer.
abbrev pub written : {W : Type 0} → (W → Option (List ℕ)) → Output W → Option (List ℕ)
written contents output = contents output.writer

-- How many more interrupted writes `output` allows.
abbrev pub interruptions_left : {W : Type 0} → Output W → ℕ
interruptions_left output = output.interruptions_left

-- The output records a write that failed, wrote no bytes, or was interrupted too often.
abbrev pub HasFailed : {W : Type 0} → Output W → Type 0
HasFailed output = IsTrue output.failed

-- `fault` is one that writing may give: memory ran out, or a write failed, as `output` records.
abbrev pub IsWriteFault : {W : Type 0} → Output W → ScriptFault → Type 0
IsWriteFault output Memory = ⊤
IsWriteFault output Read = ⊥
IsWriteFault output Write = HasFailed output
