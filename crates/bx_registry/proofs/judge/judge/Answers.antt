use Rattle.std.proofs.Common.{◌≡◌, ◌+◌, ℕ, sym, ap, ◌∙◌}
use Rattle.std.specs.Prelude.{is_some}
use Rattle.bx_entry.specs.Words.{named_by}
use Rattle.bx_registry.specs.Words.{posted_of, members_of, setup_of}
use Rattle.bx_registry.proofs.Judging.{all_four, refused-verdict, opened-verdict, served-verdict, sessionless-verdict, found-known}
use Rattle.bx_registry.proofs.judge.judge.Goals as goal
use Rattle.bx_registry.proofs.{judge.judge.Goals.After-is_some, judge.judge.Given.Over}

known : (g : Over) (c : After-is_some g) →
    c.is_some.result ≡ is_some (named_by (members_of c.args.overlay.now).live c.args.posted.message_kind c.args.posted.message.now)
known g c = c.is_some.ensures ∙ found-known _ _ c.named_by-sender.ensures

pub returns-in-Some : goal.returns-in-Some
returns-in-Some g c =
    let fault = sym (c.in-Some.ensures.table (members_of c.args.overlay.now).live c.counts-live.ensures.live
    (known g (goal.at.returns-in-Some g c).After-is_some)) in
    all_four c.refuse.result _ _ _ _ _
    (λ j. refused-verdict (setup_of g.P.Placing.place_of c.args.setup.now) _ c.args.senders c.args.moment c.args.place (posted_of c.args.posted) _ _ _ j c.args.posted.by_channel
    c.counts-live.ensures.all fault c.named_by-sender.ensures)
    c.refuse.ensures.edit c.refuse.ensures.kind c.refuse.ensures.senders c.refuse.ensures.slot

pub returns-in-None-sender : goal.returns-in-None-sender
returns-in-None-sender g c =
    let fault = sym (c.in-None.ensures.table (members_of c.args.overlay.now).live c.counts-live.ensures.live
    (known g (goal.at.returns-in-None-sender g c).After-is_some)) in
    let none = rw c.in-None-sender.is at c.named_by-sender.ensures in
    let opens = sym (c.is_handshake.ensures c.args.posted.message.now c.args.posted.by_channel) ∙ c.if-is_handshake.true in
    all_four c.open.result _ _ _ _ _
    (λ j. opened-verdict (setup_of g.P.Placing.place_of c.args.setup.now) _ c.args.senders c.args.moment c.args.place _ (posted_of c.args.posted) _ j c.args.posted.by_channel
    c.counts-live.ensures.all c.requires.limit
    (ap (λ (n : ℕ). n + 1) c.counts-live.ensures.opened) (rw c.counts-live.ensures.opened c.requires.number) opens fault none)
    c.open.ensures.edit c.open.ensures.kind c.open.ensures.senders c.open.ensures.slot

pub returns-in-None-2 : goal.returns-in-None-2
returns-in-None-2 g c =
    let fault = sym (c.in-None.ensures.table (members_of c.args.overlay.now).live c.counts-live.ensures.live
    (known g (goal.at.returns-in-None-2 g c).After-is_some)) in
    let none = rw c.in-None-sender.is at c.named_by-sender.ensures in
    let other = sym (c.is_handshake.ensures c.args.posted.message.now c.args.posted.by_channel) ∙ c.if-is_handshake.false in
    all_four c.accept_sessionless.result _ _ _ _ _
    (λ j. sessionless-verdict (setup_of g.P.Placing.place_of c.args.setup.now) _ c.args.senders c.args.moment c.args.place (posted_of c.args.posted) _ j c.args.posted.by_channel
    c.counts-live.ensures.all other fault none)
    c.accept_sessionless.ensures.edit c.accept_sessionless.ensures.kind c.accept_sessionless.ensures.senders c.accept_sessionless.ensures.slot

pub returns-in-Some-sender : goal.returns-in-Some-sender
returns-in-Some-sender g c =
    let fault = sym (c.in-None.ensures.table (members_of c.args.overlay.now).live c.counts-live.ensures.live
    (known g (goal.at.returns-in-Some-sender g c).After-is_some)) in
    let who = rw c.in-Some-sender.is at c.named_by-sender.ensures in
    all_four c.serve.result _ _ _ _ _
    (λ j. served-verdict (setup_of g.P.Placing.place_of c.args.setup.now) _ c.args.senders c.args.moment c.args.place (posted_of c.args.posted) _ c.in-Some-sender.sender j
    c.args.posted.by_channel fault who)
    c.serve.ensures.edit c.serve.ensures.kind c.serve.ensures.senders c.serve.ensures.slot
