use Rattle.std.proofs.Common.{Bool, nat_eq, ap, arith}
use Rattle.bx_shard.specs.Seen.{state}
use Rattle.bx_hub.proofs.Held.{given_told, learnt_by, stands_in, stands_taken, stands_untaken}
use Rattle.bx_hub.proofs.shard_state.ShardState.take_filed.Goals as goal

pub invariant_of-self : goal.invariant_of-self
invariant_of-self g c =
    let d = c.args.self.now in
    let own : Bool = nat_eq c.args.ticket.shard d.shard.index in
    let new = state g.P.Placing.place_of c.take.new.self in
    let t = stands_taken c.args.ticket.place new own c.take.result c.in-Some.answer (stands_in d) (omega (arith, g.L.LogId.config.limits.some_batch)) c.take.ensures.answer c.in-Some.is c.take.ensures.taken c.take.ensures.sound c.push.ensures in
    record { learnt = learnt_by t; within = t.within; holds = t.holds }

pub invariant_of-self-in-None : goal.invariant_of-self-in-None
invariant_of-self-in-None g c =
    let d = c.args.self.now in
    let own : Bool = nat_eq c.args.ticket.shard d.shard.index in
    let new = state g.P.Placing.place_of c.take.new.self in
    let t = stands_untaken c.args.ticket.place new own c.take.result (stands_in d) c.take.ensures.answer c.in-None.is c.take.ensures.taken (λ e. ap (λ s. state g.P.Placing.place_of s) (c.take.ensures.other e)) c.take.ensures.sound in
    record { learnt = learnt_by t; within = t.within; holds = t.holds }

pub returns-in-Some-clause-answer : goal.returns-in-Some-clause-answer
returns-in-Some-clause-answer g c =
    let d = c.args.self.now in
    let own : Bool = nat_eq c.args.ticket.shard d.shard.index in
    given_told c.args.ticket.place own c.take.result c.in-Some.answer (stands_in d) (omega (arith, g.L.LogId.config.limits.some_batch)) c.take.ensures.answer c.in-Some.is
