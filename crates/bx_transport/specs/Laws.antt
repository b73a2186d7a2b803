-- The JSON value of a response in a script.
use Rattle.std.specs.Prelude.{◌≡◌, ℕ, List, Some}
use Rattle.serde_json.specs.Data.{Data}
use Rattle.serde_json.specs.Read.{read}
use Rattle.bx_message.specs.Texts.{script_safe}

-- A JSON text keeps its value if U+2028 and U+2029 are escaped in it.
abbrev pub ScriptsReadTheSame : Type 0
ScriptsReadTheSame = (text : List ℕ) (d : Data) → read text ≡ Some d → read (script_safe text) ≡ Some d
