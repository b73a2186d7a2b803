use Rattle.std.proofs.Common.{rules, ◌≡◌, ◌∙◌, ◌++◌, [], List, ap, append-nil, sym}
use Rattle.bx_fanout.specs.declared.held_inputs.HeldInput.{HeldInput}
use Rattle.bx_fanout.proofs.Waiting.{waiting_in, waiting-are}
use Rattle.bx_fanout.proofs.held_inputs.HeldInputs.waiting.Goals as goal

pub returns : goal.returns
returns c =
    let items = c.loop-held.numbers.items in
    let done : c.loop-held.held-iterator ≡ [] = search rules in
    sym (append-nil items) ∙ ap (λ (hs : List HeldInput). items ++ waiting_in hs) (sym done) ∙ c.loop-held.invariant ∙ waiting-are c.args.self.now
