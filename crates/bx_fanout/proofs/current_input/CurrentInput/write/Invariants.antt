use Rattle.std.proofs.Common.{◌≡◌, length}
use Rattle.bx_fanout.specs.CurrentInputs.{OthersStay, response_of}
use Rattle.bx_fanout.proofs.current_input.CurrentInput.write.Given as goal

abbrev pub invariant-loop-answer : goal.invariant-loop-answer
invariant-loop-answer l = record {
  items : response_of l.self ≡ response_of l.fn.self;
  others : OthersStay l.fn.self l.self;
}

abbrev pub decreases-loop-answer : goal.decreases-loop-answer
decreases-loop-answer l = length l.self.answers.items
