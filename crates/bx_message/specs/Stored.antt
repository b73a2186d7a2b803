-- The bytes of a stored text.
use Rattle.std.specs.Prelude.{ℕ, List, codes}
use Rattle.std.specs.Arc.{arc_str_bytes}
use Rattle.bx_message.specs.declared.{text.Stored.Stored, text.Stored.TheVariants.Shared, text.Stored.TheVariants.Connect}

abbrev pub stored_bytes : Stored → List ℕ
stored_bytes (Shared text) = arc_str_bytes text
stored_bytes Connect = codes "/meta/connect"
