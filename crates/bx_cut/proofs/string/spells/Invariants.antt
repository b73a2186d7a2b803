use Rattle.std.proofs.Common.{◌≡◌, ℕ, List, ◌++◌, length}
use denote.Text.{Utf8}
use denote.Shadow.{shadow}
use Rattle.json.specs.Text.{content, plain, prepend}
use Rattle.bx_cut.specs.Strings.{spelled}
use Rattle.bx_cut.proofs.string.spells.Given as goal

abbrev pub invariant-loop-left : goal.invariant-loop-left
invariant-loop-left l = shadow (Utf8 l.rest) × ((done : List ℕ) × (l.text ≡ done ++ l.wanted) × (spelled l.value ≡ prepend done (content plain l.rest)))

abbrev pub decreases-loop-left : goal.decreases-loop-left
decreases-loop-left l = length l.rest
