use Rattle.std.proofs.Common.{◌≡◌, drop}
use Rattle.bx_window.proofs.ring.drop_first.Given as goal

abbrev pub invariant-loop : goal.invariant-loop
invariant-loop g l = (l.items.items ≡ drop l.counter l.initial.items.items) × (l.items.capacity ≡ l.initial.items.capacity)
