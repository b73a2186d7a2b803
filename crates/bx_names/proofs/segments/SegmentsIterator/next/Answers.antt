use Rattle.std.proofs.Common.{◌≡◌, ◌∷◌, [], length, rules, ap, sym, ◌∙◌, arith}
use Rattle.std.specs.Option.{option_map_or}
use Rattle.bx_names.specs.Segments.{parts}
use Rattle.bx_names.proofs.{PathLemmas.parts_at_slash, PathLemmas.parts_at_end, segments.SegmentsIterator.next.Goals.In-Some}
use Rattle.bx_names.proofs.segments.SegmentsIterator.next.Goals as goal
use Rattle.std.proofs.lemmas.Grind.{common_steps}

left_at_slash : (c : In-Some) → c.args.self.now ≡ c.in-Some.first.now ∷ parts c.in-Some.others.now
left_at_slash c = sym c.self.view_is ∙ ap (λ r. option_map_or (λ rest. parts rest.now) r []) c.in_ok-rest.was ∙ parts_at_slash c.in_ok-rest.rest.now (c.in-Some.first, c.in-Some.others) c.in-Some.ensures.cases

pub returns-in-Some-clause-steps : goal.returns-in-Some-clause-steps
returns-in-Some-clause-steps c = left_at_slash (goal.at.returns-in-Some-clause-steps c).In-Some

pub returns-in-Some-clause-goes : goal.returns-in-Some-clause-goes
returns-in-Some-clause-goes c =
    let fewer = ap length (left_at_slash (goal.at.returns-in-Some-clause-goes c).In-Some) in
    search rules

pub returns-in-None-clause-steps : goal.returns-in-None-clause-steps
returns-in-None-clause-steps c = sym c.self.view_is ∙ ap (λ r. option_map_or (λ rest. parts rest.now) r []) c.in_ok-rest.was ∙ parts_at_end c.in_ok-rest.rest.now c.in-None.ensures.cases

pub returns-in-None-clause-goes : goal.returns-in-None-clause-goes
returns-in-None-clause-goes c = grind (arith, common_steps, parts_at_end)
