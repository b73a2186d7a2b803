use Rattle.std.proofs.Common.{lit<}
use Rattle.std.proofs.lemmas.Str.Pattern.{strip_prefix_char}
use Rattle.bx_names.proofs.PathLemmas.{parts_stripped}
use Rattle.bx_names.proofs.segments.segments_of.Goals as goal

pub returns : goal.returns
returns c =
    let path = c.args.path.now in
    parts_stripped path c.strip_prefix.result (strip_prefix_char 47 path c.strip_prefix.result c.strip_prefix.ensures.cases (lit< tt)) c.requires
