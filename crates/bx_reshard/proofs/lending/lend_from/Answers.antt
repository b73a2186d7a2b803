use Rattle.std.proofs.Common.{◌≡◌, ◌&&◌, ◌||◌, nat_eq, not, Bool, cond, is_some, Option, sym, ap, ◌∙◌, subst}
use Rattle.std.proofs.lemmas.Map.Made.{is_some-lookup}
use Rattle.std.specs.{List.list_any, Option.option_or, Map.lookup}
use Rattle.bx_connects.specs.declared.connects.ConnectState.{ConnectState}
use Rattle.bx_connects.specs.Connects.{AreApart, connect_at, filing_at, hold_at, known_as}
use Rattle.bx_reshard.specs.Heirs.{connect_of, lent_as, patterns_at, kept_of}
use Rattle.bx_shard.specs.Sessions.{patterns_in}
use Rattle.bx_reshard.proofs.{HeirLemmas.on_ok, MoveLemmas.lent_at_both, MoveLemmas.some_mapped, MoveLemmas.unknown}
use Rattle.bx_reshard.proofs.lending.lend_from.Goals as goal

pub returns-clause-sessions : goal.returns-clause-sessions
returns-clause-sessions g c =
    let old = c.args.old.now in
    on_ok c.lend_connects-2.result
    (λ same k n.
    ap is_some (same.sessions k n ∙ c.in_ok-lend_connects.ensures.sessions.sessions k n) ∙ c.in_ok-lend_sessions.ensures.sessions k n
    ∙ ap (λ b. (nat_eq (g.P.Placing.place_of c.args.placing.now n c.args.count) k && b) || is_some (kept_of c.args.heirs.now.shards.items k n))
    (ap (list_any (nat_eq n)) c.numbers.ensures ∙ sym (is_some-lookup (nat_eq n) old.by_number.entries) ∙ some_mapped (lookup (nat_eq n) old.by_number.entries)))
    c.lend_connects-2.ensures.sessions

pub returns-clause-patterns : goal.returns-clause-patterns
returns-clause-patterns g c =
    let old = c.args.old.now in
    on_ok c.lend_connects-2.result
    (λ same k n.
    same.patterns k n ∙ c.in_ok-lend_connects.ensures.sessions.patterns k n ∙ c.in_ok-lend_sessions.ensures.patterns k n
    ∙ ap (λ b. cond ((nat_eq (g.P.Placing.place_of c.args.placing.now n c.args.count) k && b) && not (is_some (kept_of c.args.heirs.now.shards.items k n))) (patterns_in old n) (patterns_at c.args.heirs.now.shards.items k n))
    (ap (list_any (nat_eq n)) c.numbers.ensures ∙ sym (is_some-lookup (nat_eq n) old.by_number.entries) ∙ some_mapped (lookup (nat_eq n) old.by_number.entries)))
    c.lend_connects-2.ensures.sessions

pub returns-clause-connects : goal.returns-clause-connects
returns-clause-connects g c =
    let old = c.connects-connects.result.now in
    on_ok c.lend_connects-2.result
    (λ step k p.
    let a : Bool = list_any (nat_eq p) c.held_places.result.now in
    let b : Bool = list_any (nat_eq p) c.filed_places.result.now in
    let lent : Option ConnectState = lent_as (g.P.Placing.place_of c.args.placing.now) c.args.count k (known_as (connect_at old p)) in
    let first = c.in_ok-lend_connects.ensures.connects k p
    ∙ ap (λ o. cond (list_any (nat_eq p) c.held_places.result.now) (option_or o lent) o) (c.in_ok-lend_sessions.ensures.connects.connects k p) in
    let known : a ≡ is_some (hold_at old.held p) = ap (list_any (nat_eq p)) c.held_places.ensures ∙ sym (is_some-lookup (nat_eq p) old.held) in
    let answered : b ≡ is_some (filing_at old.filed p) = ap (list_any (nat_eq p)) c.filed_places.ensures.places ∙ sym (is_some-lookup (nat_eq p) old.filed) in
    step k p
    ∙ ap (λ o. cond (list_any (nat_eq p) c.filed_places.result.now) (option_or o lent) o) first
    ∙ lent_at_both a b (connect_of c.args.heirs.now.shards.items k p) lent
    (λ none. ap (λ o. lent_as (g.P.Placing.place_of c.args.placing.now) c.args.count k (known_as o))
    (unknown (hold_at old.held p) (filing_at old.filed p) (sym (ap (λ x. x || b) known ∙ ap (λ x. is_some (hold_at old.held p) || x) answered) ∙ none)))
    ∙ ap (λ cs. option_or (connect_of c.args.heirs.now.shards.items k p) (lent_as (g.P.Placing.place_of c.args.placing.now) c.args.count k (known_as (connect_at cs p)))) c.connects-connects.ensures)
    c.lend_connects-2.ensures.connects

pub returns-clause-apart : goal.returns-clause-apart
returns-clause-apart g c = on_ok c.lend_connects-2.result (λ same. subst (λ cs. AreApart cs.held cs.filed) c.connects-connects.ensures c.filed_places.ensures.apart) c.lend_connects-2.ensures.sessions
