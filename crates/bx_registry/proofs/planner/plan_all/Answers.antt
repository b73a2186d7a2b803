use Rattle.std.proofs.Common.{◌≡◌, ◌+◌, ◌-◌, ◌∷◌, List, ℕ, Bool, length, drop, ap, sym, subst, ◌∙◌, arith}
use Rattle.std.specs.Prelude.{◌&&◌, ◌==◌}
use Rattle.std.proofs.lemmas.{List.drop_all, List.drop_more, Grind.common_steps}
use Rattle.bx_message.specs.declared.message.Message.{Message}
use Rattle.bx_message.specs.MessageKinds.{is_handshake, message_kind_of}
use Rattle.bx_entry.specs.Words.{Posted, verdict}
use Rattle.bx_registry.specs.Words.{posted_of, setup_of, state_of, IsFoundAt, members_of}
use Rattle.bx_entry.proofs.RequestLemmas.{length-listed}
use Rattle.bx_registry.proofs.Planning.{after-request, all_planned, one_next}
use Rattle.bx_registry.proofs.planner.plan_all.Goals as goal

pub plan_next-requires-clause-opened : goal.plan_next-requires-clause-opened
plan_next-requires-clause-opened g c = grind (arith, common_steps, length-listed)

pub overflow_add-place : goal.overflow_add-place
overflow_add-place g c = grind (arith, common_steps, length-listed)

pub loop-message-preserved : goal.loop-message-preserved
loop-message-preserved g c =
    let ms : List Message = c.args.messages.now in
    let i : ℕ = c.loop-message.message-index in
    let x : Message = c.message-item.result in
    let last : Bool = length (drop (i + 1) ms) == 0 in
    let p : Posted = record {
      message = x;
      moment = c.args.start.moment;
      nonce = c.args.start.nonce;
      sole = length ms == 1;
      last = last;
      second = c.loop-message.seen && is_handshake x;
    } in
    let rest : drop i ms ≡ x ∷ drop (i + 1) ms = drop_more ms i x c.loop-message-test.true ∙ ap (λ (y : Message). y ∷ drop (i + 1) ms)
    (sym c.message-item.is) in
    let left : c.loop-message.left - 1 ≡ length (drop (i + 1) ms) = omega (arith, c.loop-message.invariant.0, ap length rest) in
    let posted : posted_of c.posted_at-posted.result ≡ p = c.posted_at-posted.ensures ∙ ap (λ (k : ℕ). record p { last = k == 0 }) left in
    let handshake : c.is_handshake-seen.result ≡ is_handshake x =
    c.is_handshake-seen.ensures x (c.posted_at-posted.result.by_channel ∙ ap (λ (q : Posted). message_kind_of q.message.channel)
    c.posted_at-posted.ensures) in
    let so = rw rest at c.loop-message.invariant.1 in
    let d = c.loop-message.overlay in
    let here : ℕ → Posted → Type 0 = λ k q. IsFoundAt (setup_of g.P.Placing.place_of c.args.setup.now) c.loop-message.place k (members_of d)
    (verdict c.args.setup.now.config.now (state_of (members_of d) c.loop-message.senders) k q) (members_of c.plan_next.new.overlay) c.in_ok-entry.behind
    c.in_ok-entry.entry c.in_ok-entry.slot in
    let found = subst (λ (k : ℕ). here k p) c.max-now.ensures (subst (here c.max-now.result) posted c.in_ok-entry.ensures.found) in (
      left,
      rw (c.in_ok-push.ensures.ok, c.in_ok-push-2.ensures.ok, handshake, c.max-now.ensures)
          (one_next {e = c.plan_next.new.overlay} p so (omega (arith, c.loop-message.invariant.1.moment, c.requires.moment)) c.in_ok-entry.ensures.base
          found),
    )

pub returns-clause-planned : goal.returns-clause-planned
returns-clause-planned g c = grind (arith, common_steps, drop_all, all_planned, after-request)
