use Rattle.std.proofs.Common.{◌≡◌, ◌≤◌, ◌+◌, ◌++◌, length, map, vec_capacity}
use Rattle.bx_message.specs.declared.reply.Item.TheVariants.{EventItem}
use Rattle.bx_fanout.proofs.items.add_items.Given as goal

abbrev pub invariant-loop-event : goal.invariant-loop-event
invariant-loop-event l = record {
  whole : l.items.items ++ map EventItem l.event-iterator.rest.items ≡ l.fn.items.items ++ map EventItem l.fn.answer.events;
  room : length l.items.items + length l.event-iterator.rest.items + 1 ≤ vec_capacity l.items;
}
