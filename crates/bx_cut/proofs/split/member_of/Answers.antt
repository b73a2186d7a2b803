use Rattle.std.proofs.Common.{Option, None, ◌≡◌, ℕ, cond, List, [], ◌∷◌, ◌++◌, Some, option_map, ap, ◌∙◌, rules, arith}
use Rattle.std.proofs.lemmas.Grind.{common_steps}
use Rattle.std.specs.Borrow.{Bor}
use Rattle.bx_cut.specs.Words.{Member, split_member, member_text, members, members_inside, last_member, member_view}
use Rattle.bx_cut.proofs.{Lists.found-none, Lists.found-last, Lists.found-more, Lists.Shortens-split_member, Names.one_more, Insides.found_reads, Insides.found_bare}
use Rattle.bx_cut.proofs.split.member_of.Goals as goal

pub returns-in_default-past-clause-value : goal.returns-in_default-past-clause-value
returns-in_default-past-clause-value c =
    let t = c.loop-member.rest.now in
    let seen = c.loop-member.invariant.1 in
    let p : Member × List ℕ = (member_view c.in-Some.member, c.in-Some.after.now) in
    let before = option_map (λ (x : Bor (List ℕ)). x.now) c.loop-member.found in
    let after = option_map (λ (x : Bor (List ℕ)). x.now) c.if-spells.found in
    let step : after ≡ cond c.spells.result (Some p.0.1) before = grind (arith, common_steps) in
    let found = one_more c.args.name.now seen.0 p.0 before after c.spells.result c.spells.ensures.value seen.2 step in
    let all = found-last split_member Shortens-split_member seen.0 t p (members c.args.object.now) c.in-Some.ensures.value c.in_default-past.ensures.value seen.1 in
    found ∙ ap (last_member c.args.name.now) all

pub loop-member-preserved : goal.loop-member-preserved
loop-member-preserved c =
    let t = c.loop-member.rest.now in
    let seen = c.loop-member.invariant.1 in
    let p : Member × List ℕ = (member_view c.in-Some.member, c.in-Some.after.now) in
    let before = option_map (λ (x : Bor (List ℕ)). x.now) c.loop-member.found in
    let after = option_map (λ (x : Bor (List ℕ)). x.now) c.if-spells.found in
    let step : after ≡ cond c.spells.result (Some p.0.1) before = grind (arith, common_steps) in
    let found = one_more c.args.name.now seen.0 p.0 before after c.spells.result c.spells.ensures.value seen.2 step in
    let more = found-more split_member Shortens-split_member seen.0 t p c.in-Some-past.next.now (members c.args.object.now) c.in-Some.ensures.value c.in-Some-past.ensures.value seen.1 in
    (search rules, (seen.0 ++ p.0 ∷ [], more, found))

pub returns-clause-value : goal.returns-clause-value
returns-clause-value c =
    let seen = c.loop-member.invariant.1 in
    let all = found-none split_member Shortens-split_member seen.0 c.loop-member.rest.now (members c.args.object.now) c.in_default.ensures.value seen.1 in
    seen.2 ∙ ap (last_member c.args.name.now) all

pub returns-in_default-past-clause-reads : goal.returns-in_default-past-clause-reads
returns-in_default-past-clause-reads c d r = found_reads c.args.name.now c.args.object.now _ (returns-in_default-past-clause-value c) d r

pub returns-in_default-past-clause-bare : goal.returns-in_default-past-clause-bare
returns-in_default-past-clause-bare c s = found_bare c.args.name.now c.args.object.now c.if-spells.found (returns-in_default-past-clause-value c) s

pub returns-clause-reads : goal.returns-clause-reads
returns-clause-reads c d r = found_reads c.args.name.now c.args.object.now _ (returns-clause-value c) d r

pub returns-clause-bare : goal.returns-clause-bare
returns-clause-bare c s = found_bare c.args.name.now c.args.object.now c.loop-member.found (returns-clause-value c) s

pub returns-in_err-rest-clause-reads : goal.returns-in_err-rest-clause-reads
returns-in_err-rest-clause-reads c d r =
    let none : None ≡ member_text c.args.name.now c.args.object.now = ap (λ (o : Option (List ℕ)). last_member c.args.name.now (members_inside o)) c.in_err-rest.ensures.value in
    rw c.from_residual.ensures (found_reads c.args.name.now c.args.object.now None none d r)
