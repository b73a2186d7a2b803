use Rattle.std.proofs.Common.{rules, ◌≡◌, ◌&&◌, cond, Option, option_map, nat_eq, refl, ap, ◌∙◌}
use Rattle.bx_entry.specs.Keeping.{Kept}
use Rattle.bx_connects.specs.Connects.{connect_at}
use Rattle.bx_reshard.specs.Heirs.{patterns_there, kept_there}
use Rattle.bx_shard.specs.Sessions.{kept_in}
use Rattle.bx_reshard.proofs.HeirLemmas.{at_each, at_own, row_here, same_connects}
use Rattle.bx_reshard.proofs.heirs.Heirs.settle.Goals as goal

pub returns-in-Some-clause-sessions : goal.returns-in-Some-clause-sessions
returns-in-Some-clause-sessions c = λ k n.
    let there = row_here c.args.self.now.shards c.args.slot c.in-Some.heir.now c.requires.within c.in-Some.ensures.value in
    let old = c.in-Some.heir.now in
    let F : Option Kept → Option Kept = option_map (λ (x : Kept). c.args.session.kept) in
    at_each (λ o u b. kept_there u n ≡ cond (b && nat_eq c.args.number n) (F (kept_there o n)) (kept_there o n)) c.args.self.now.shards.items c.args.slot old c.settle.new.self c.requires.within there
    (c.settle.ensures.sessions n ∙ at_own F (kept_in old) c.args.number n) (λ o. refl) k

pub returns-in-Some-clause-patterns : goal.returns-in-Some-clause-patterns
returns-in-Some-clause-patterns c = λ k n.
    let there = row_here c.args.self.now.shards c.args.slot c.in-Some.heir.now c.requires.within c.in-Some.ensures.value in
    at_each (λ o u b. patterns_there u n ≡ patterns_there o n) c.args.self.now.shards.items c.args.slot c.in-Some.heir.now c.settle.new.self c.requires.within there (search rules) (λ o. refl) k

pub returns-in-Some-clause-connects : goal.returns-in-Some-clause-connects
returns-in-Some-clause-connects c =
    let there = row_here c.args.self.now.shards c.args.slot c.in-Some.heir.now c.requires.within c.in-Some.ensures.value in
    same_connects c.args.self.now.shards.items c.args.slot c.in-Some.heir.now c.settle.new.self c.requires.within there c.settle.ensures.others.0 (λ p. ap (λ x. connect_at x p) c.settle.ensures.others.2)
