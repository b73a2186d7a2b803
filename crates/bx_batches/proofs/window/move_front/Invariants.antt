use Rattle.std.proofs.Common.{◌≡◌, ◌≤◌, ◌+◌, ◌++◌, take, drop}
use Rattle.bx_batches.proofs.window.move_front.Given as goal

abbrev pub decreases-loop-left : goal.decreases-loop-left
decreases-loop-left l = l.left

abbrev pub invariant-loop-left : goal.invariant-loop-left
invariant-loop-left l =
    (l.into.items ++ take l.left l.events.items ≡ l.initial.into.items ++ take l.initial.count l.initial.events.items)
    × (drop l.left l.events.items ≡ drop l.initial.count l.initial.events.items)
    × (l.into.len + l.left ≤ l.into.cap)
    × (l.events.cap ≡ l.initial.events.cap)
