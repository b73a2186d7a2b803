use Rattle.std.proofs.Common.{map, arith}
use Rattle.std.proofs.lemmas.{List.length-map}
use Rattle.bx_record.proofs.Configs.{few}
use Rattle.bx_record.proofs.config.read_config.Goals as goal

pub returns-in_default : goal.returns-in_default
returns-in_default c =
    let same = length-map c.args.words.now (λ word. word.now) in
    few (map (λ word. word.now) c.args.words.now) (omega (arith, same, c.in_default.len_below))
