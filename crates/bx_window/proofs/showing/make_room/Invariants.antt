use Rattle.std.proofs.Common.{◌≡◌, []}
use Rattle.left_right.specs.Handles.{published, pending}
use Rattle.bx_window.proofs.showing.make_room.Given as goal

abbrev pub invariant-loop : goal.invariant-loop
invariant-loop g l = (pending l.handle ≡ []) × ((published l.handle).front ≡ [])
