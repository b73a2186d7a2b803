use Rattle.std.proofs.Common.{arith}
use Rattle.bx_hub.proofs.Lists.{list_length}
use Rattle.bx_held.proofs.held.PendingAnswer.ask.Goals as goal

pub invariant_of-self : goal.invariant_of-self
invariant_of-self g c = record { reached = omega (arith, c.args.self.now.reached, list_length c.args.self.now.pass c.poll_answer-polled.new.pass c.poll_answer-polled.ensures.seen) }

pub invariant_of-self-in-Ok-Some : goal.invariant_of-self-in-Ok-Some
invariant_of-self-in-Ok-Some g c = record { reached = omega (arith, c.args.self.now.reached, list_length c.args.self.now.pass c.poll_answer-polled.new.pass c.poll_answer-polled.ensures.seen) }

pub invariant_of-self-in-Err : goal.invariant_of-self-in-Err
invariant_of-self-in-Err g c = record { reached = omega (arith, c.args.self.now.reached, list_length c.args.self.now.pass c.poll_answer-polled.new.pass c.poll_answer-polled.ensures.seen) }
