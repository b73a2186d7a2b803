use Rattle.std.proofs.Common.{◌≡◌, length}
use Rattle.std.specs.List.{All}
use Rattle.bx_hub.specs.Changes.{IsKeptBy}
use Rattle.bx_hub.proofs.hub.Hub.change_all.Given as goal

abbrev pub invariant-loop-index : goal.invariant-loop-index
invariant-loop-index g l = (length l.all.done ≡ l.index) × (l.all.change.value ≡ l.change) × All (IsKeptBy l.change) l.all.done
