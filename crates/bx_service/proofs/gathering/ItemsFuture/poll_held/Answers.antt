use Rattle.std.proofs.Common.{rules, ◌≡◌, ◌∷◌, ◌∙◌, inl, false, List, Option, Some, None, Result, Ok, arith, refl, subst, sym}
use Rattle.std.specs.Vec.Iter.{into_iter_items}
use mathlib.Core.List.{IsPrefix}
use Rattle.futures.specs.Poll.{IfReady}
use Rattle.futures.specs.declared.task.Poll.{Poll}
use Rattle.futures.specs.declared.task.Poll.TheVariants.{Ready}
use Rattle.bx_entry.specs.declared.entry.Slot.TheVariants.{Waiting}
use Rattle.bx_entry.specs.declared.entry.Ticket.{Ticket}
use Rattle.bx_held.specs.Waiting.{IsUnknown}
use Rattle.bx_held.specs.declared.held.PendingAnswer.{PendingAnswer}
use Rattle.bx_hub.specs.Faults.{IsStopped}
use Rattle.bx_hub.specs.Held.{answer_over}
use Rattle.bx_hub.specs.declared.shard_state.evidence.NoAnswer.{NoAnswer}
use Rattle.bx_message.specs.declared.reply.{Answer.Answer, Item.Item}
use Rattle.bx_window.specs.declared.law.LogStep.{LogStep}
use Rattle.bx_service.specs.Gatherings.{IsOnWay, IsUnfinished}
use Rattle.bx_service.proofs.GatheringLemmas.{on_way_given}
use Rattle.bx_service.proofs.gathering.ItemsFuture.poll_held.Goals as goal

pub returns-in-Ok-Some-clause-same : goal.returns-in-Ok-Some-clause-same
returns-in-Ok-Some-clause-same g c =
    let config = g.L.LogId.config in
    let old = c.args.self.now in
    let held = c.in-Some.held in
    let polled = c.poll-polled.new.self in
    let now = c.longer.result in
    let answer = c.in-Ok-Some.answer in
    let slots = into_iter_items old.slots in
    let is : old.held ≡ Some held = search rules in
    let gone : c.take.new.self ≡ None = search rules in
    let told : answer_over config polled.pass polled.ticket.place ≡ Some answer = search rules in
    let own = subst (λ (t : Ticket). answer_over config polled.pass t.place ≡ Some answer) c.poll-polled.ensures.ticket told in
    let further = subst (λ (p : List LogStep). IsPrefix p now) c.pass.ensures c.longer.ensures.that in
    rw (is, gone) (subst (λ (items : List Item). IsOnWay config old.seen old.items.items (Waiting held.ticket ∷ slots) now items slots) (sym {A = List Item} c.in_ok-add_answer-in-Ok-Some.ensures)
    (on_way_given config old.seen polled.pass now old.items.items held.ticket slots answer (omega (arith, config.limits.some_batch)) c.longer.ensures.this further own))

pub returns-in-Ok-None-clause-missing : goal.returns-in-Ok-None-clause-missing
returns-in-Ok-None-clause-missing g c =
    let shards = g.L.LogId.config.shards in
    let old = c.args.self.now in
    let held = c.in-Some.held in
    let is : old.held ≡ Some held = search rules in
    let own : c.ticket.result ≡ held.ticket = c.ticket.ensures ∙ c.poll-polled.ensures.ticket in
    let fresh : held.is_done ≡ false = subst (λ (o : Option (PendingAnswer g.row.L.Denot g.L.LogId)). IsUnfinished o) is old.unfinished in
    let nothing : c.poll-polled.result.0 ≡ Ready (Ok None) = search rules in
    let unknown = subst (λ (p : Poll (Result (Option Answer) (NoAnswer g.row.L.Denot))). IfReady p (λ o. o ≡ Ok None → IsUnknown shards held.ticket c.poll-polled.result.1)) nothing (c.poll-polled.ensures.unknown fresh) refl in
    (rw is (inl own), subst (λ (t : Ticket). IsUnknown shards t c.poll-polled.result.1) (sym own) unknown)

pub returns-clause-missing : goal.returns-clause-missing
returns-clause-missing g c =
    let old = c.args.self.now in
    let held = c.in-Some.held in
    let stopped = c.in-Err.stopped in
    let is : old.held ≡ Some held = search rules in
    let own : c.ticket-in-Err.result ≡ held.ticket = c.ticket-in-Err.ensures ∙ c.poll-polled.ensures.ticket in
    let named : stopped.ticket.value ≡ c.ticket-in-Err.result = search rules in
    let at : IsStopped stopped.fault c.ticket-in-Err.result.shard c.again-in-Err.result = search rules in
    (rw is (inl own), (named, at))
