-- The wakers of a shard's connects, and which wakers a call added to a list.
use Rattle.std.proofs.Common.{◌≡◌, ℕ, Option, List, ap}
use Rattle.futures.specs.declared.task.waker.Waker.{Waker}
use Rattle.bx_connects.specs.declared.connects.ConnectState.{ConnectState}
use Rattle.bx_connects.specs.Words.{AreWoken, waker_of}
use Rattle.bx_connects.proofs.WakingLemmas.{woken_onwards, woken_still}

pub woken_along : (first before between after : ℕ → Option ConnectState) (old mid new : List Waker) → AreWoken first before old mid → ((p : ℕ) → between p ≡ before p) → AreWoken between after mid new →
    AreWoken first after old new
woken_along first before between after old mid new a h b =
    woken_onwards first between after old mid new (woken_onwards first before between old mid mid a (woken_still before between mid (λ p. ap waker_of (h p)))) b
