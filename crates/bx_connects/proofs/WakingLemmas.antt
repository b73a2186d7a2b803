-- Wakers that several calls remove, one after another.
use Rattle.std.proofs.Common.{◌≡◌, ℕ, nat_eq, ◌++◌, Option, List, [], ◌∷◌, sym, subst, if◌then◌else◌, append-nil, ◌≤◌, length, arith}
use Rattle.std.proofs.lemmas.List.{append_assoc, length-append}
use Rattle.std.specs.List.Sorted.{IsPermutation}
use Rattle.std.proofs.lemmas.List.Sorted.{IsPermutation-append_left, IsPermutation-middle, IsPermutation-push_more, IsPermutation-sym, length_permutation}
use Rattle.futures.specs.declared.task.waker.Waker.{Waker}
use Rattle.bx_connects.specs.declared.connects.ConnectState.{ConnectState}
use Rattle.bx_connects.specs.Words.{AreTaken, AreWoken, waker_of, without}
use Rattle.std.proofs.lemmas.Grind.{common_steps}

taken_from : (ws : List Waker) (before same after : ℕ → Option Waker) → ((p : ℕ) → same p ≡ before p) → AreTaken ws before after → AreTaken ws same after
taken_from ws before same after h1 h2 = grind (arith, common_steps)

taken_onwards : (ws more : List Waker) (before between after : ℕ → Option Waker) → AreTaken ws before between → AreTaken more between after → AreTaken (ws ++ more) before after
taken_onwards [] more before between after t u = taken_from more between before after (λ p. sym (t p)) u
taken_onwards (w ∷ ws) more before between after t u = (t.0, t.1, taken_onwards ws more (without t.0 before) between after t.2 u)

pub woken_still : (before after : ℕ → Option ConnectState) (wakers : List Waker) → ((p : ℕ) → waker_of (after p) ≡ waker_of (before p)) → AreWoken before after wakers wakers
woken_still before after wakers h = record { added = []; behind = sym (append-nil wakers); taken = h }

pub woken_onwards : (before between after : ℕ → Option ConnectState) (old mid new : List Waker) → AreWoken before between old mid → AreWoken between after mid new → AreWoken before after old new
woken_onwards before between after old mid new a b = grind (arith, common_steps, append_assoc, taken_onwards)

pub woken_put : (place : ℕ) (before after : ℕ → Option ConnectState) (o : Option ConnectState) (wakers : List Waker) → ((p : ℕ) → after p ≡ (if nat_eq place p then o else before p)) →
    waker_of o ≡ waker_of (before place) → AreWoken before after wakers wakers
woken_put place before after o wakers h same = grind (arith, common_steps, woken_still)

pub pushed_last : (given at_once list : List Waker) (waker : Waker) → IsPermutation given (at_once ++ list) → IsPermutation (given ++ waker ∷ []) (at_once ++ (list ++ waker ∷ []))
pushed_last given at_once list waker h =
    subst (IsPermutation (given ++ waker ∷ [])) (append_assoc at_once list (waker ∷ [])) (IsPermutation-append_left (waker ∷ []) given (at_once ++ list) h)

pub pushed_at_once : (given at_once list : List Waker) (waker : Waker) → IsPermutation given (at_once ++ list) → IsPermutation (given ++ waker ∷ []) ((at_once ++ waker ∷ []) ++ list)
pushed_at_once given at_once list waker h =
    let moved = IsPermutation-sym (at_once ++ waker ∷ list) (waker ∷ (at_once ++ list)) (IsPermutation-middle at_once waker list) in
    let last = subst (IsPermutation (waker ∷ (at_once ++ list))) (sym (append_assoc at_once (waker ∷ []) list)) moved in
    IsPermutation-push_more given (at_once ++ list) ((at_once ++ waker ∷ []) ++ list) waker h last

pub ruleset pushed = (pushed_last, pushed_at_once, common_steps)

pub no_more : (given at_once list : List Waker) → IsPermutation given (at_once ++ list) → length list ≤ length given
no_more given at_once list h = grind (arith, common_steps, length_permutation, length-append)
