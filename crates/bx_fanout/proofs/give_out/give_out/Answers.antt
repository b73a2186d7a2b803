use Rattle.bx_fanout.proofs.TakingIn.{gives-held, gives-own}
use Rattle.bx_fanout.proofs.give_out.give_out.Goals as goal

pub returns-in_err-give-clause-gives : goal.returns-in_err-give-clause-gives
returns-in_err-give-clause-gives c = gives-held c.args.held.now c.give.new.self c.args.stage.now c.args.outs.now.items c.give.new.outs.items c.give.ensures.gives

pub returns-clause-gives : goal.returns-clause-gives
returns-clause-gives c =
    gives-own c.args.held.now c.give.new.self c.args.stage.now c.give_own.new.stage c.args.outs.now.items c.give.new.outs.items c.give_own.new.outs.items c.give_own.result
    c.give.ensures.gives c.in_ok-give.ensures.all c.give_own.ensures.all c.give_own.ensures.added c.give_own.ensures.left c.give_own.ensures.same c.give_own.ensures.collecting
