use Rattle.std.proofs.Common.{◌≡◌, ◌&&◌, ◌||◌, not, cond, is_some, None, [], nat_eq, refl, sym, ap, ◌∙◌}
use Rattle.bx_connects.specs.Connects.{connect_at}
use Rattle.bx_shard.specs.Sessions.{patterns_in}
use Rattle.bx_reshard.specs.Heirs.{patterns_there, kept_there}
use Rattle.bx_reshard.proofs.HeirLemmas.{at_each, on_ok, row_here, same_connects}
use Rattle.bx_reshard.proofs.heirs.Heirs.reserve_session.Goals as goal

pub reserve_session-requires : goal.reserve_session-requires
reserve_session-requires c =
    let there = row_here c.args.self.now.shards c.args.slot c.in-Some.heir.now c.requires.within c.in-Some.ensures.value in
    record { clean = λ n none. sym (ap (λ o. patterns_there o n) there) ∙ c.requires.clean c.args.slot n (ap (λ o. kept_there o n) there ∙ none) }

pub returns-clause-sessions : goal.returns-clause-sessions
returns-clause-sessions c =
    let there = row_here c.args.self.now.shards c.args.slot c.in-Some.heir.now c.requires.within c.in-Some.ensures.value in
    on_ok c.reserve_session.result
    (λ lent k n. at_each (λ o u b. is_some (kept_there u n) ≡ ((b && nat_eq c.args.number n) || is_some (kept_there o n))) c.args.self.now.shards.items c.args.slot c.in-Some.heir.now c.reserve_session.new.self c.requires.within there (lent n) (λ o. refl) k)
    c.reserve_session.ensures.sessions

pub returns-clause-patterns : goal.returns-clause-patterns
returns-clause-patterns c =
    let there = row_here c.args.self.now.shards c.args.slot c.in-Some.heir.now c.requires.within c.in-Some.ensures.value in
    on_ok c.reserve_session.result
    (λ lent k n. at_each (λ o u b. patterns_there u n ≡ cond ((b && nat_eq c.args.number n) && not (is_some (kept_there o n))) (patterns_in c.args.from.now c.args.number) (patterns_there o n)) c.args.self.now.shards.items c.args.slot c.in-Some.heir.now c.reserve_session.new.self c.requires.within there
    (lent n) (λ o. refl) k)
    c.reserve_session.ensures.patterns

pub returns-clause-clean : goal.returns-clause-clean
returns-clause-clean c =
    let there = row_here c.args.self.now.shards c.args.slot c.in-Some.heir.now c.requires.within c.in-Some.ensures.value in
    on_ok c.reserve_session.result
    (λ clean k n. at_each (λ o u b. (kept_there o n ≡ None → patterns_there o n ≡ []) → kept_there u n ≡ None → patterns_there u n ≡ []) c.args.self.now.shards.items c.args.slot c.in-Some.heir.now c.reserve_session.new.self c.requires.within there
    (λ before. clean n) (λ o before. before) k (c.requires.clean k n))
    c.reserve_session.ensures.clean

pub returns-clause-connects : goal.returns-clause-connects
returns-clause-connects c =
    let there = row_here c.args.self.now.shards c.args.slot c.in-Some.heir.now c.requires.within c.in-Some.ensures.value in
    same_connects c.args.self.now.shards.items c.args.slot c.in-Some.heir.now c.reserve_session.new.self c.requires.within there c.reserve_session.ensures.others.0 (λ p. ap (λ x. connect_at x p) c.reserve_session.ensures.others.1)
