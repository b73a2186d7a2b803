use Rattle.std.proofs.Common.{rules, ◌≡◌, false, Some, sym, subst}
use Rattle.bx_entry.specs.Words.{after, received}
use Rattle.bx_shard.specs.Effects.{answers_by}
use Rattle.bx_shard.specs.Words.{published_at, kept_in, patterns_in}
use Rattle.bx_shard.proofs.Ends.{Settles, filing_agrees, received_e}
use Rattle.bx_shard.proofs.Receiving.{counted_on}
use Rattle.bx_shard.proofs.sessions.Sessions.receive.Goals as goal

pub returns-in-Given-clause-held : goal.returns-in-Given-clause-held
returns-in-Given-clause-held c = λ held.
    let old = c.args.self.now in
    let k = c.in-Some.session.now.kept in
    let change = received old.config (published_at c.args.place c.args.parcel.event) in
    let here : kept_in old c.args.parcel.number ≡ Some k = search rules in
    filing_agrees _ _ (kept_in old) _ c.args.parcel.number (Some (after change k)) (answers_by change (Some k)) c.args.place
    held (search rules) (search rules) (subst (λ o. Settles o (Some (after change k)) (answers_by change (Some k))) (sym here) (received_e old.config (published_at c.args.place c.args.parcel.event) k))

pub returns-in-Overflowed-clause-held : goal.returns-in-Overflowed-clause-held
returns-in-Overflowed-clause-held c = λ held.
    let old = c.args.self.now in
    let k = c.in-Some.session.now.kept in
    let change = received old.config (published_at c.args.place c.args.parcel.event) in
    let here : kept_in old c.args.parcel.number ≡ Some k = search rules in
    filing_agrees _ _ (kept_in old) _ c.args.parcel.number (Some (after change k)) (answers_by change (Some k)) c.args.place
    held (search rules) (search rules) (subst (λ o. Settles o (Some (after change k)) (answers_by change (Some k))) (sym here) (received_e old.config (published_at c.args.place c.args.parcel.event) k))

pub returns-in-Given-clause-counted : goal.returns-in-Given-clause-counted
returns-in-Given-clause-counted c = λ counted.
    let old = c.args.self.now in
    let k = c.in-Some.session.now.kept in
    let publication = published_at c.args.place c.args.parcel.event in
    let here : kept_in old c.args.parcel.number ≡ Some k = search rules in
    let within : k.overflow ≡ false = search rules in
    let still : (after (received old.config publication) k).overflow ≡ false = search rules in
    counted_on old.config publication c.args.parcel.number (kept_in old) _ (patterns_in old) k counted here within still (search rules)
