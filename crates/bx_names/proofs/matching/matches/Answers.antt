use Rattle.std.proofs.Common.{◌≡◌, sym, ap, ◌∙◌, ◌++◌, rules, arith}
use Rattle.bx_names.specs.Segments.{is_absolute}
use Rattle.bx_names.proofs.{FaultLemmas.name_text, matching.matches.Goals.In-Some}
use Rattle.bx_names.proofs.MatchLemmas.{matches-miss, matches-exact, matches-many, matches-one, matches_at}
use Rattle.bx_names.proofs.matching.matches.Goals as goal
use Rattle.std.proofs.lemmas.Grind.{common_steps}

cut : (c : In-Some) → c.as_str.result.now ≡ c.split-tail.result.0.now ++ c.in-Some.rest.now
cut c = c.in-Some.ensures.cases.1.1 ∙ ap (λ rest. c.split-tail.result.0.now ++ rest) (sym c.in-Some.ensures.cases.2)

pub returns-in_default : goal.returns-in_default
returns-in_default c = grind (arith, common_steps, name_text, matches-miss, matches_at)

pub returns-in-Exact : goal.returns-in-Exact
returns-in-Exact c =
    let name = name_text c.as_str.result.now c.args.name.now c.as_str.ensures.reads_back in
    let told = matches-exact c.split-tail.result.0.now c.as_str.result.now c.in-Some.rest.now c.split-tail.ensures.path name.path (cut (goal.at.returns-in-Exact c).In-Some) in
    c.is_empty.ensures ∙ told ∙ matches_at (sym c.in-Exact.is ∙ c.split-tail.ensures.tail) c.split-tail.ensures.own name.is

pub returns-in-One : goal.returns-in-One
returns-in-One c =
    let name = name_text c.as_str.result.now c.args.name.now c.as_str.ensures.reads_back in
    let told = matches-one c.split-tail.result.0.now c.as_str.result.now c.in-Some.rest.now c.split-tail.ensures.path name.path (cut (goal.at.returns-in-One c).In-Some) in
    c.is_one_segment.ensures ∙ told ∙ matches_at (sym c.in-One.is ∙ c.split-tail.ensures.tail) c.split-tail.ensures.own name.is

pub returns-in-Many : goal.returns-in-Many
returns-in-Many c =
    let name = name_text c.as_str.result.now c.args.name.now c.as_str.ensures.reads_back in
    let told = matches-many c.split-tail.result.0.now c.as_str.result.now c.in-Some.rest.now c.split-tail.ensures.path name.path (cut (goal.at.returns-in-Many c).In-Some) in
    let starts : c.starts_with.result ≡ is_absolute c.in-Some.rest.now = search rules in
    starts ∙ told ∙ matches_at (sym c.in-Many.is ∙ c.split-tail.ensures.tail) c.split-tail.ensures.own name.is
