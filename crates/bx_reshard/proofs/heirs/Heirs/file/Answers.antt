use Rattle.std.proofs.Common.{rules, ◌≡◌, ◌&&◌, cond, Option, nat_eq, refl}
use Rattle.bx_connects.specs.declared.connects.ConnectState.{ConnectState}
use Rattle.bx_connects.specs.Connects.{filed_as}
use Rattle.bx_reshard.specs.Heirs.{connect_there}
use Rattle.bx_reshard.proofs.HeirLemmas.{at_each, same_sessions, row_here}
use Rattle.bx_reshard.proofs.heirs.Heirs.file.Goals as goal

pub returns-in-Some-clause-connects : goal.returns-in-Some-clause-connects
returns-in-Some-clause-connects c = λ k p.
    let there = row_here c.args.self.now.shards c.args.slot c.in-Some.heir.now c.requires.within c.in-Some.ensures.value in
    let F : Option ConnectState → Option ConnectState = filed_as c.args.place c.args.answered.answer in
    at_each (λ o u b. connect_there u p ≡ cond (b && nat_eq c.args.answered.place p) (F (connect_there o p)) (connect_there o p)) c.args.self.now.shards.items c.args.slot c.in-Some.heir.now c.file.new.self c.requires.within there
    (c.file.ensures.connects p) (λ o. refl) k

pub returns-in-Some-clause-sessions : goal.returns-in-Some-clause-sessions
returns-in-Some-clause-sessions c =
    let there = row_here c.args.self.now.shards c.args.slot c.in-Some.heir.now c.requires.within c.in-Some.ensures.value in
    same_sessions c.args.self.now.shards.items c.args.slot c.in-Some.heir.now c.file.new.self c.requires.within there c.file.ensures.others.0 (λ n. search rules) (λ n. search rules)
