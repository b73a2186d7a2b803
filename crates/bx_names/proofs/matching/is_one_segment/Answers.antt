use Rattle.std.proofs.Common.{lit<, ◌∙◌}
use Rattle.std.proofs.lemmas.Str.Pattern.{rfind_char}
use Rattle.bx_names.proofs.MatchLemmas.{one_by_last_slash}
use Rattle.bx_names.proofs.matching.is_one_segment.Goals as goal

pub returns : goal.returns
returns c =
    let text = c.args.text.now in
    c.eq.ensures ∙ one_by_last_slash text c.rfind.result (rfind_char 47 text c.rfind.result c.rfind.ensures.cases (lit< tt))
