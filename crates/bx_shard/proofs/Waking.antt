-- A shard still agrees with its definition `shard_at` after its wakers change.
use Rattle.std.proofs.Common.{arith, ◌≡◌, ℕ, nat_eq, if◌then◌else◌, Bool, Option, None, option_map, refl, ap, ◌∙◌}
use Rattle.futures.specs.declared.task.waker.Waker.{Waker}
use Rattle.bx_connects.specs.declared.connects.ConnectState.{ConnectState}
use Rattle.bx_advice.specs.declared.config.Config.{Config}
use Rattle.bx_entry.specs.Keeping.{Kept}
use Rattle.bx_connects.specs.Words.{waker_of, session_at, unwatched, with_waker}
use Rattle.bx_shard.specs.Words.{completed_by, held_until, connect_in, RefinesShut, RefinesWatched, filed_with_place}
use Rattle.bx_shard.proofs.{Holding.refines_same, Keeps.unwatched_session, Keeps.watched_session}

watched_filed : (shut : Bool) (waker : Waker) (o : Option ConnectState) → filed_with_place (with_waker shut waker o) ≡ filed_with_place o
watched_filed shut waker o = grind arith

pub watched_none : (shut : Bool) (waker : Waker) (o : Option ConnectState) → o ≡ None → with_waker shut waker o ≡ None
watched_none shut waker o h = grind arith

unwatched_filed : (o : Option ConnectState) → filed_with_place (option_map unwatched o) ≡ filed_with_place o
unwatched_filed o = grind arith

pub watched_held : (shut : Bool) (waker : Waker) (o : Option ConnectState) (n : ℕ) → held_until (with_waker shut waker o) n ≡ held_until o n
watched_held shut waker o n = grind arith

pub at_each : (P : Option ConnectState → Option ConnectState → Type 0) (shut : Bool) (connect : ℕ) (waker : Waker) (old new : ℕ → Option ConnectState) →
    ((p : ℕ) → new p ≡ (if nat_eq connect p then with_waker shut waker (old connect) else old p)) →
    ((o : Option ConnectState) → P o o) → ((o : Option ConnectState) → P o (with_waker shut waker o)) → (p : ℕ) → P (old p) (new p)
at_each P shut connect waker old new stored same turned p = grind (arith, stored p, same (old p), turned (old p))

pub refines_watched : RefinesWatched
refines_watched setup list taken shard n connect waker old new h w sound =
    let each : (P : Option ConnectState → Option ConnectState → Type 0) → ((o : Option ConnectState) → P o o) → ((o : Option ConnectState) → P o (with_waker old.shut waker o)) → (p : ℕ) → P (connect_in old p) (connect_in new p) =
    λ P. at_each P old.shut connect waker (connect_in old) (connect_in new) w.connects in
    refines_same setup list taken shard n old new h (w.setup, w.index, w.place) sound w.sessions
    (each (λ o q. filed_with_place q ≡ filed_with_place o) (λ o. refl) (watched_filed old.shut waker))
    (each (λ o q. o ≡ None → q ≡ None) (λ o e. e) (watched_none old.shut waker))
    (each (λ o q. session_at q ≡ session_at o) (λ o. refl) (watched_session old.shut waker))

pub refines_shut : RefinesShut
refines_shut setup list taken shard n old new h w sound =
    refines_same setup list taken shard n old new h (w.setup, w.index, w.place) sound w.sessions
    (λ p. ap filed_with_place (w.connects p) ∙ unwatched_filed (connect_in old p)) (λ p none. w.connects p ∙ ap (option_map unwatched) none)
    (λ p. ap session_at (w.connects p) ∙ unwatched_session (connect_in old p))

pub completed_waker : (config : Config) (k : Option Kept) (o : Option ConnectState) → waker_of (completed_by config k o) ≡ waker_of o
completed_waker config k o = grind arith
