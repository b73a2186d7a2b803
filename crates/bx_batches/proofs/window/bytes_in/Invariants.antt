use Rattle.std.proofs.Common.{◌≡◌, take}
use Rattle.std.specs.List.{sum_by}
use Rattle.bx_message.specs.Events.{event_size}
use Rattle.bx_batches.proofs.window.bytes_in.Given as goal

abbrev pub invariant-loop-event : goal.invariant-loop-event
invariant-loop-event l = l.bytes ≡ sum_by event_size (take l.event-index l.events)
