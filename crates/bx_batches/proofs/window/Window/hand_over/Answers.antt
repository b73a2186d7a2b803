use Rattle.std.proofs.Common.{rules, ◌≡◌, ◌++◌, take, arith, sym, ap, ◌∙◌}
use Rattle.std.specs.List.{sum_by}
use Rattle.bx_message.specs.Events.{event_size}
use Rattle.bx_entry.specs.Answers.{events_of}
use Rattle.bx_batches.proofs.Parts.{events_behind, first_events, parted_bytes}
use Rattle.bx_batches.proofs.window.Window.hand_over.Goals as goal

pub invariant_of-self : goal.invariant_of-self
invariant_of-self c =
    let count = c.args.count in
    let events = c.self.inside.events.items in
    let moved : c.move_front.new.into.items ≡ take count events = c.move_front.ensures.moved ∙ ap (λ xs. xs ++ take count events) c.requires.empty in
    let seen : c.as_slice.result.now ≡ c.move_front.new.into.items = search rules in
    let given = c.bytes_in.ensures ∙ ap (sum_by event_size) (seen ∙ moved) in
    let left = ap (sum_by event_size) c.move_front.ensures.left in
    let parted = parted_bytes count events in (
      ap events_of c.forget.ensures ∙ events_behind count c.self.inside.queue events c.self.invariant.0 ∙ sym c.move_front.ensures.left,
      search rules,
      omega (arith, left, parted, given, c.self.invariant.2),
    )

pub returns-clause-given : goal.returns-clause-given
returns-clause-given c =
    let moved : c.move_front.new.into.items ≡ take c.args.count c.self.inside.events.items = c.move_front.ensures.moved ∙ ap (λ xs. xs ++ take c.args.count c.self.inside.events.items) c.requires.empty in
    moved ∙ first_events c.args.count c.self.inside.queue c.self.inside.events.items c.self.invariant.0 ∙ search rules
