-- The reasons why a record ends.
use Rattle.std.specs.Prelude.{ℕ, List, codes}
use Rattle.bx_record.specs.declared.waiting.RecordFault.{RecordFault}
use Rattle.bx_record.specs.declared.waiting.RecordFault.TheVariants.{Full, Memory, Unrecordable}

-- The reason of a fault in words.
abbrev pub fault_reason : RecordFault → List ℕ
fault_reason Full = codes "more than 64 MiB waiting to be written"
fault_reason Unrecordable = codes "a request is too large for a record line"
fault_reason Memory = codes "out of memory"
