use Rattle.std.proofs.Common.{rules, arith, sym, ap, ◌∙◌}
use Rattle.std.specs.List.{sum_by}
use Rattle.bx_message.specs.Events.{event_size}
use Rattle.bx_entry.specs.Answers.{events_of}
use Rattle.bx_batches.proofs.Parts.{events_behind, parted_bytes}
use Rattle.bx_batches.proofs.window.Window.acknowledge.Goals as goal

pub invariant_of-self : goal.invariant_of-self
invariant_of-self c =
    let done = c.acknowledged-done.result in
    let left = ap (sum_by event_size) c.drop_front.ensures.left in
    let parted = parted_bytes done c.self.inside.events.items in
    let bytes = c.drop_front.ensures.bytes in (
      ap events_of c.forget.ensures ∙ events_behind done c.self.inside.queue c.self.inside.events.items c.self.invariant.0 ∙ sym c.drop_front.ensures.left,
      search rules,
      omega (arith, left, parted, bytes, c.self.invariant.2),
    )
