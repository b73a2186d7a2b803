-- Membership of numbers in lists.
use Rattle.std.specs.Prelude.{ℕ, ◌==◌, Bool, List}
use Rattle.std.specs.List.{list_any}

-- Whether `n` is in `ns`.
abbrev pub has : ℕ → List ℕ → Bool
has n ns = list_any (λ (m : ℕ). m == n) ns
