-- The slots planned for a request are those that the definitions give at its places.
use Rattle.std.proofs.Common.{◌≡◌, ℕ, List, [], ◌∷◌, ◌++◌, length, map, drop, refl, sym, ap, ◌∙◌, subst}
use Rattle.std.proofs.Math.Seq.{drop-append_seam}
use Rattle.std.proofs.lemmas.List.{length-map, map-append}
use Rattle.bx_advice.specs.declared.config.Config.{Config}
use Rattle.bx_entry.specs.declared.entry.Slot.{Slot}
use Rattle.bx_entry.specs.Listing.{Listed, Post, Tick}
use Rattle.bx_entry.specs.Placings.{Setup}
use Rattle.bx_entry.specs.Registry.{Judged, PlaceSlot, registry}
use Rattle.bx_theory.proofs.Lists.{judged_length}
use Rattle.bx_registry.specs.Words.{Roll, admitted_slots, found, given_by, given_from, next, roll_at, slots_in, slots_of, step}
use Rattle.bx_registry.proofs.Longer.{judged_on}

all_answered : (setup : Setup) (roll : Roll) (added : List Listed) → slots_in setup (found roll added) ≡ given_from setup roll.length (map (λ (j : Judged). j.slot) (found roll added))
all_answered setup roll [] = refl
all_answered setup roll (Post p ∷ added) = ap (λ (slots : List Slot). given_by setup roll.length (step roll (Post p)).found.slot ++ slots) (all_answered setup (next roll (Post p)) added)
all_answered setup roll (Tick moment ∷ added) = all_answered setup (next roll (Tick moment)) added

pub slots_given : (setup : Setup) (list added : List Listed) → slots_in setup (found (roll_at setup.config list) added) ≡ admitted_slots setup list added
slots_given setup list added =
    let config : Config = setup.config in
    let slot : Judged → PlaceSlot = λ j. j.slot in
    let before : List Judged = (registry config list).judged in
    let more : List Judged = found (roll_at config list) added in
    let behind : drop (length list) (map slot before ++ map slot more) ≡ map slot more =
    subst (λ (n : ℕ). drop n (map slot before ++ map slot more) ≡ map slot more) (length-map before slot ∙ judged_length config list)
    (drop-append_seam (map slot before) (map slot more)) in
    let last : drop (length list) (slots_of (registry config (list ++ added))) ≡ map slot more =
    ap (λ (js : List Judged). drop (length list) (map slot js)) (judged_on config list added) ∙ ap (drop (length list)) (map-append slot before more) ∙ behind in
    all_answered setup (roll_at config list) added ∙ ap (λ (n : ℕ). given_from setup n (map slot more)) (judged_length config list) ∙ ap (given_from setup (length list)) (sym last)

pub tick_slots : (setup : Setup) (list : List Listed) (moment : ℕ) → admitted_slots setup list (Tick moment ∷ []) ≡ []
tick_slots setup list moment = sym (slots_given setup list (Tick moment ∷ []))
