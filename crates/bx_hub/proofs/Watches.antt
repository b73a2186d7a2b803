-- The result of registering a waker is true of the connect afterwards.
use Rattle.std.proofs.Common.{ℕ, ◌≡◌, Bool, true, false, if◌then◌else◌, Option, Some, None, refl, sym, ◌∙◌, ap, subst}
use Rattle.std.proofs.lemmas.Bool.{eq-eqb}
use Rattle.bx_connects.specs.Words.{watched, with_waker}
use Rattle.bx_connects.specs.declared.{connects.ConnectState.ConnectState, watch.Watch.Watch}
use Rattle.bx_connects.specs.declared.connects.ConnectState.TheVariants.{Held, Filed}
use Rattle.bx_shard.specs.States.{State, Watched, connect_in}
use Rattle.bx_hub.specs.Watches.{HoldsOf, IsBack}
use Rattle.futures.specs.declared.task.waker.Waker.{Waker}

holds : (shut : Bool) (waker : Waker) (c : Option ConnectState)
    → HoldsOf shut waker (with_waker shut waker c) (watched shut waker c)
holds true waker None = (refl, refl)
holds false waker None = (refl, refl)
holds true waker (Some (Held session deadline older)) = (refl, refl, refl)
holds false waker (Some (Held session deadline older)) = refl
holds true waker (Some (Filed session place answer)) = (refl, refl)
holds false waker (Some (Filed session place answer)) = (refl, refl)

pub holds_after : (place : ℕ) (waker : Waker) (old new : State) (said : Watch)
    → said ≡ watched old.shut waker (connect_in old place) → Watched place waker old new →
    HoldsOf new.shut waker (connect_in new place) said
holds_after place waker old new said is w =
    let at : connect_in new place ≡ with_waker old.shut waker (connect_in old place) =
    w.connects place ∙ ap (λ (b : Bool). if b then with_waker old.shut waker (connect_in old place) else
    connect_in old place) (eq-eqb place place refl) in
    let there = subst (λ (c : Option ConnectState). HoldsOf old.shut waker c
    (watched old.shut waker (connect_in old place))) (sym at) (holds old.shut waker (connect_in old place)) in
    let shut = subst (λ (b : Bool). HoldsOf b waker (connect_in new place)
    (watched old.shut waker (connect_in old place))) (sym w.shut) there in
    subst (λ (v : Watch). HoldsOf new.shut waker (connect_in new place) v) (sym is) shut

back : (shut : Bool) (waker : Waker) (c : Option ConnectState) → IsBack waker (watched shut waker c)
back true waker None = refl
back false waker None = refl
back true waker (Some (Held session deadline older)) = refl
back false waker (Some (Held session deadline older)) = tt
back true waker (Some (Filed session place answer)) = refl
back false waker (Some (Filed session place answer)) = refl

pub back_of : (shut : Bool) (waker : Waker) (c : Option ConnectState) (said : Watch) → said ≡ watched shut waker c → IsBack waker said
back_of shut waker c said is = subst (λ (w : Watch). IsBack waker w) (sym is) (back shut waker c)
