use Rattle.std.proofs.Common.{ap, sym, ◌∙◌, arith, subst, List, vec_capacity, count_by, ◌+◌, ◌≤◌}
use Rattle.bx_history.specs.Members.{has}
use Rattle.bx_fanout.specs.HeldInputs.{IsMarked, Row, answered_places, waits, answered_at}
use Rattle.bx_fanout.proofs.HeldInputs.{fewer-wait, marked-answered, unchanged}
use Rattle.bx_fanout.proofs.held_inputs.HeldInputs.answer.Goals as goal

pub push_reserved-requires : goal.push_reserved-requires
push_reserved-requires c =
    let rows = c.self.inside.held.entries in
    let fewer : count_by waits (answered_at c.args.place c.args.answer rows) + 1 ≤ count_by waits rows = fewer-wait c.args.place c.args.answer rows (sym c.put.ensures.waits ∙ c.if-put.true) in
    omega (arith, c.self.invariant.room)

pub invariant_of-self : goal.invariant_of-self
invariant_of-self c =
    let rows = c.self.inside.held.entries in
    let there = sym c.put.ensures.waits ∙ c.if-put.true in
    let fewer : count_by waits (answered_at c.args.place c.args.answer rows) + 1 ≤ count_by waits rows = fewer-wait c.args.place c.args.answer rows there in
    record {
      ordered = c.put.ensures.ordered;
      marked = λ n. marked-answered c.args.place c.args.answer c.self.inside.answered.items _ rows there c.push_reserved.ensures.items c.self.invariant.marked n ∙ ap (λ (rs : List Row). has n (answered_places rs)) (sym c.put.ensures.put);
      room =
          let count = ap (count_by waits) c.put.ensures.put in
          omega (arith, c.self.invariant.room, c.push_reserved.ensures.len, c.push_reserved.ensures.capacity);
    }

pub invariant_of-self-else-put : goal.invariant_of-self-else-put
invariant_of-self-else-put c =
    let rows = c.self.inside.held.entries in
    let same = c.put.ensures.put ∙ unchanged c.args.place c.args.answer rows (sym c.put.ensures.waits ∙ c.if-put.false) in
    subst (λ (rs : List Row). IsMarked rs c.self.inside.answered.items (vec_capacity c.self.inside.answered)) (sym same) c.self.invariant
