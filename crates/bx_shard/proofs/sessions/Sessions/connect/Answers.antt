use Rattle.std.proofs.Common.{rules, ◌≡◌, None, refl, sym, ap, option_map}
use Rattle.bx_connects.specs.Words.{connect_at, held_by, waker_of}
use Rattle.bx_connects.proofs.WakingLemmas.{woken_onwards, woken_put}
use Rattle.bx_entry.specs.Words.{after, resumed, connected}
use Rattle.bx_theory.proofs.Keeps.{connected_k}
use Rattle.bx_shard.specs.Sessions.{kept_in, patterns_in}
use Rattle.bx_shard.proofs.{Beginnings.connect_agrees, Counts.counts_along, Counts.keeps_counts}
use Rattle.bx_shard.proofs.sessions.Sessions.connect.Goals as goal

pub returns-in-Ok-clause-held : goal.returns-in-Ok-clause-held
returns-in-Ok-clause-held c = λ held.
    let old = c.args.self.now in
    connect_agrees old.config c.args.connect c.args.acked _ _ (kept_in old) _ c.args.number (kept_in old c.args.number) refl held (search rules) (search rules) (search rules)

pub returns-in-Ok-clause-counted : goal.returns-in-Ok-clause-counted
returns-in-Ok-clause-counted c = λ counted.
    let old = c.args.self.now in
    let change = connected old.config c.args.connect c.args.acked in
    counts_along (kept_in old) _ (patterns_in old) c.args.number (option_map (after change) (kept_in old c.args.number)) counted
    (search rules) (keeps_counts change (λ k. connected_k old.config c.args.connect c.args.acked (resumed k)) c.args.number (kept_in old c.args.number) (patterns_in old c.args.number) (counted c.args.number))

pub returns-in-Ok-clause-woken : goal.returns-in-Ok-clause-woken
returns-in-Ok-clause-woken c =
    let old = connect_at c.args.self.now.connects in
    let held = connect_at c.hold.new.self in
    let first = connect_at c.file_if.new.self in
    let place = c.place-place.result in
    let wakers = c.args.wakers.now in
    let fresh : old place ≡ None = search rules in
    let begun = woken_put place old held (held_by c.args.number c.deadline.result) wakers c.in_ok-hold.ensures.ok (sym (ap waker_of fresh)) in
    woken_onwards old first (connect_at c.file_if-in-Ok.new.self) wakers c.file_if.new.wakers c.file_if-in-Ok.new.wakers
    (woken_onwards old held first wakers wakers c.file_if.new.wakers begun c.file_if.ensures.woken) c.file_if-in-Ok.ensures.woken
