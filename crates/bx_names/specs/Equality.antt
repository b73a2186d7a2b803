-- Proofs that the tests of equality are correct. The laws of `==` on names and patterns need them.
use Rattle.std.proofs.Common.{◌≡◌, List, ℕ, refl, ap}
use Rattle.std.specs.Bool.{Decides}
use Rattle.std.proofs.lemmas.{Bool.Decides.Decides-and, Slice.Eq.bytes_eq-Decides, Slice.Eq.slice_eq-Decides}
use Rattle.bx_names.specs.Globs.{Glob, same_tail, same_segments, same_glob}
use Rattle.bx_names.specs.declared.tail.Tail.{Tail}
use Rattle.bx_names.specs.declared.tail.Tail.TheVariants.{Exact, One, Many}

pub same_tail-decides : (s t : Tail) → Decides (same_tail s t) (s ≡ t)
same_tail-decides Exact Exact = (λ e. refl, λ e. refl)
same_tail-decides Exact One = (λ e. cc, λ e. cc)
same_tail-decides Exact Many = (λ e. cc, λ e. cc)
same_tail-decides One Exact = (λ e. cc, λ e. cc)
same_tail-decides One One = (λ e. refl, λ e. refl)
same_tail-decides One Many = (λ e. cc, λ e. cc)
same_tail-decides Many Exact = (λ e. cc, λ e. cc)
same_tail-decides Many One = (λ e. cc, λ e. cc)
same_tail-decides Many Many = (λ e. refl, λ e. refl)

-- `same_segments` decides whether two lists of segments are equal.
pub same_segments-decides : (ss ts : List (List ℕ)) → Decides (same_segments ss ts) (ss ≡ ts)
same_segments-decides ss ts = slice_eq-Decides bytes_eq-Decides ss ts (same_segments ss ts) refl

-- `same_glob` decides whether two patterns are equal.
pub same_glob-decides : (p q : Glob) → Decides (same_glob p q) (p ≡ q)
same_glob-decides p q =
    let both = Decides-and (same_segments p.segments q.segments) (same_tail p.tail q.tail) (same_segments-decides p.segments q.segments) (same_tail-decides p.tail q.tail) in (
      λ h i. record { segments = (both.0 h).0 i; tail = (both.0 h).1 i },
      λ e. both.1 (ap (λ (x : Glob). x.segments) e, ap (λ (x : Glob). x.tail) e),
    )
