-- Lemmas about truth values, and about comparisons of numbers.
use Rattle.std.proofs.Common.{◌≡◌, ℕ, Bool, true, false, ◌||◌, ◌==◌, ◌<◌, refl, sym, arith}
use Rattle.std.proofs.lemmas.Bool.Decides.{nat_tests}
use Rattle.std.specs.Ordering.{nat_cmp}
use Rattle.std.specs.declared.cmp.Ordering.TheVariants.{Less}

pub either : (b : Bool) (P : Type 0) → (b ≡ true → P) → (b ≡ false → P) → P
either b P at_true at_false = let Q : Bool → Type 0 = λ c. b ≡ c → P in (elim b as Q [ true ↦ at_true | false ↦ at_false ]) refl

pub or_assoc : (a b c : Bool) → ((a || b) || c) ≡ (a || (b || c))
or_assoc true b c = refl
or_assoc false b c = refl

pub same-tests : (a b : Bool) → (a ≡ true → b ≡ true) → (b ≡ true → a ≡ true) → a ≡ b
same-tests true b f g = sym (f refl)
same-tests false true f g = g refl
same-tests false false f g = refl

pub eqb_sym : (a b : ℕ) → (a == b) ≡ (b == a)
eqb_sym a b = grind (arith, nat_tests)

pub less-from-cmp : (a b : ℕ) → nat_cmp a b ≡ Less → a < b
less-from-cmp a b e = grind (arith, nat_tests)
