use Rattle.std.specs.Prelude.{◌≡◌, ◌++◌, map}
use Rattle.bx_message.specs.declared.reply.Item.TheVariants.{EventItem}
use Rattle.bx_service.proofs.gathering.add_answer.Given as goal

abbrev pub invariant-loop-event : goal.invariant-loop-event
invariant-loop-event l = l.items.items ++ map EventItem l.event-iterator.rest.items ≡ l.initial.items.items ++ map EventItem l.fn.answer.events
