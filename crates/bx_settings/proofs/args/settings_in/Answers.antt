use Rattle.std.proofs.Common.{map, string_bytes, arith}
use Rattle.std.proofs.lemmas.{List.length-map}
use Rattle.bx_settings.proofs.ArgumentCounts.{few}
use Rattle.bx_settings.proofs.args.settings_in.Goals as goal

pub returns-in_default : goal.returns-in_default
returns-in_default c =
    let same = length-map c.args.args.now string_bytes in
    few (map string_bytes c.args.args.now) (omega (arith, same, c.in_default.len_below))
