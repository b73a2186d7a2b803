use Rattle.std.proofs.Common.{◌≡◌, ◌<◌, ◌^◌, ◌+◌, take, drop}
use Rattle.std.specs.List.{sum_by}
use Rattle.bx_message.specs.Events.{event_size}
use Rattle.bx_batches.proofs.window.drop_front.Given as goal

abbrev pub decreases-loop-left : goal.decreases-loop-left
decreases-loop-left l = l.left

abbrev pub invariant-loop-left : goal.invariant-loop-left
invariant-loop-left l =
    (drop l.left l.events.items ≡ drop l.initial.count l.initial.events.items)
    × (l.events.cap ≡ l.initial.events.cap)
    × (l.bytes + sum_by event_size (take l.left l.events.items) ≡ sum_by event_size (take l.initial.count l.initial.events.items))
    × (sum_by event_size (take l.initial.count l.initial.events.items) < 2 ^ 64)
