use Rattle.std.proofs.Common.{rules, ◌≡◌, ◌&&◌, cond, Option, nat_eq, refl}
use Rattle.std.specs.Option.{option_or}
use Rattle.bx_connects.specs.declared.connects.ConnectState.{ConnectState}
use Rattle.bx_connects.specs.Connects.{held_by}
use Rattle.bx_reshard.specs.Heirs.{connect_there}
use Rattle.bx_reshard.proofs.HeirLemmas.{at_each, on_ok, row_here, same_sessions}
use Rattle.bx_reshard.proofs.heirs.Heirs.reserve_connect.Goals as goal

pub returns-clause-connects : goal.returns-clause-connects
returns-clause-connects c =
    let there = row_here c.args.self.now.shards c.args.slot c.in-Some.heir.now c.requires.within c.in-Some.ensures.value in
    let held : Option ConnectState = held_by c.args.session c.args.deadline in
    on_ok c.reserve_connect.result
    (λ lent k p. at_each (λ o u b. connect_there u p ≡ cond (b && nat_eq c.args.place p) (option_or (connect_there o p) held) (connect_there o p)) c.args.self.now.shards.items c.args.slot c.in-Some.heir.now c.reserve_connect.new.self c.requires.within there
    (lent p) (λ o. refl) k)
    c.reserve_connect.ensures.connects

pub returns-clause-sessions : goal.returns-clause-sessions
returns-clause-sessions c =
    let there = row_here c.args.self.now.shards c.args.slot c.in-Some.heir.now c.requires.within c.in-Some.ensures.value in
    same_sessions c.args.self.now.shards.items c.args.slot c.in-Some.heir.now c.reserve_connect.new.self c.requires.within there c.reserve_connect.ensures.others.0 (λ n. search rules) (λ n. search rules)
