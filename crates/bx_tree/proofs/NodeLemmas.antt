-- How a change in one of the three maps changes which sessions are stored for each pattern.
use Rattle.std.proofs.Common.{◌≡◌, ℕ, Bool, true, false, ◌==◌, ◌&&◌, List, arith}
use Rattle.std.specs.Str.{bytes_eq}
use Rattle.std.proofs.Math.Bool.{and-false}
use Rattle.bx_names.specs.Words.{path_of, Glob, same_tail, same_glob}
use Rattle.bx_names.specs.declared.tail.Tail.{Tail}
use Rattle.bx_names.specs.declared.tail.Tail.TheVariants.{Exact, One, Many}
use Rattle.bx_tree.specs.declared.nodes.Nodes.{Nodes}
use Rattle.bx_tree.specs.Words.{AreWhole, stands_at, lists_of, stands_for}
use Rattle.bx_tree.proofs.WholeLemmas.{paths_decide}
use Rattle.std.proofs.lemmas.Grind.{common_steps}

and_true : (b : Bool) → (b && true) ≡ b
and_true b = grind (arith, common_steps)

-- `old` and `new` have the same lists for every tail except `tail`.
abbrev OthersSame : Nodes → Nodes → Tail → Type 0
OthersSame old new tail = (other : Tail) → same_tail other tail ≡ false → lists_of new other ≡ lists_of old other

pub but_exact : (old new : Nodes) → new.one ≡ old.one → new.many ≡ old.many → OthersSame old new Exact
but_exact old new h1 h2 = grind (arith, common_steps)

pub but_one : (old new : Nodes) → new.exact ≡ old.exact → new.many ≡ old.many → OthersSame old new One
but_one old new h1 h2 = grind (arith, common_steps)

pub but_many : (old new : Nodes) → new.exact ≡ old.exact → new.one ≡ old.one → OthersSame old new Many
but_many old new h1 h2 = grind (arith, common_steps)

pub changed_for : (step : Bool → Bool → Bool) → ((b : Bool) → step b false ≡ b) → (old new : Nodes) (p : Glob) (tail : Tail) (path : List ℕ) (number : ℕ) → p.tail ≡ tail → path ≡ path_of p.segments → AreWhole p.segments
    → ((other : List ℕ) (n : ℕ) → stands_at (lists_of new tail) other n ≡ step (stands_at (lists_of old tail) other n) (bytes_eq path other && (n == number)))
    → OthersSame old new tail
    → (other : Glob) → AreWhole other.segments → (n : ℕ) → stands_for new other n ≡ step (stands_for old other n) (same_glob other p && (n == number))
changed_for step idle old new p tail path number tail_is path_is whole here others other other_whole n =
    grind (arith, common_steps, paths_decide, and_true, and-false)
