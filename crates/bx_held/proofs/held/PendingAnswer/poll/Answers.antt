use Rattle.std.proofs.Common.{◌∙◌, ap, subst}
use Rattle.bx_connects.specs.declared.watch.Watch.{Watch}
use Rattle.bx_connects.specs.declared.watch.Watch.TheVariants.{Unknown}
use Rattle.bx_entry.specs.declared.entry.Ticket.{Ticket}
use Rattle.bx_hub.specs.Watches.{IsBack, IsToldOf}
use Rattle.bx_held.proofs.Waiting.{on_pending, waited_for}
use Rattle.bx_held.specs.Waiting.{IsUnknown}
use Rattle.bx_held.proofs.held.PendingAnswer.poll.Goals as goal

pub returns-in-Stored-clause-left : goal.returns-in-Stored-clause-left
returns-in-Stored-clause-left g c =
    let shards = g.L.LogId.config.shards in
    let ticket = c.ask.new.self.ticket in
    let waker = c.in-Some-take.waker in
    let evidence = c.watch-said.result.1 in
    let told = subst (λ (said : Watch). IsToldOf shards ticket waker said evidence) c.in-Stored.is c.watch-said.ensures.told in
    on_pending c.register-pending.result (waited_for shards c.register-pending.new.slot waker c.in-Stored.older ticket
    evidence c.args.cx.now c.register-pending.new.self (cc (c.in-Some-take.ensures.value))
    c.register-pending.ensures.left told)

pub returns-in-Unknown-clause-unknown : goal.returns-in-Unknown-clause-unknown
returns-in-Unknown-clause-unknown g c done none =
    let shards = g.L.LogId.config.shards in
    let waker = c.in-Some-take.waker in
    let evidence = c.watch-said.result.1 in
    let back = subst (λ (said : Watch). IsBack waker said) c.in-Unknown.is c.watch-said.ensures.back in
    let is = c.in-Unknown.is ∙ ap Unknown back in
    let told = subst (λ (said : Watch). IsToldOf shards c.ask.new.self.ticket waker said evidence) is c.watch-said.ensures.told in
    subst (λ (t : Ticket). IsUnknown shards t evidence) c.ask.ensures.same.0 (record { waker = waker; told = told })
