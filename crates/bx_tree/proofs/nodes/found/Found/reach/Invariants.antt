use Rattle.std.proofs.Common.{◌≡◌, ◌++◌, map}
use Rattle.bx_tree.proofs.nodes.found.Found.reach.Given as goal

abbrev pub invariant-loop-number : goal.invariant-loop-number
invariant-loop-number l = record { items : l.self.numbers.items ≡ l.initial.self.numbers.items ++ map (λ r. r.now) l.yielded; visited : l.self.visited ≡ l.initial.self.visited }
