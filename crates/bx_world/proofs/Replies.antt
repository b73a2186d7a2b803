-- Each reply that an admission returns at once is the one that the list gives.
use Rattle.std.proofs.Common.{◌≡◌, ℕ, zero, suc, ◌+◌, ⊎_elim, ◌==◌, ◌||◌, Bool, false, Option, Some, None, List, [], ◌∷◌, ◌++◌, length, take, drop, map, option_map, slice_get, refl, sym, ap, ◌∙◌, subst, arith, append_assoc}
use Rattle.std.proofs.lemmas.List.{map-append, length-map, drop_at}
use Rattle.std.proofs.Math.Seq.{take-append_seam}
use Rattle.bx_advice.specs.declared.config.Config.{Config}
use Rattle.bx_message.specs.declared.message.Message.{Message}
use Rattle.bx_message.specs.MessageKinds.{is_handshake}
use Rattle.bx_entry.specs.Words.{Listed, Post, Posted, listed_from, read_input, Registry, Judged, PlaceSlot, Ready, Waiting, NoSlot, judge, refusal, registry, entries_of, answer_at, answer_by, refusal_of}
use Rattle.bx_entry.specs.Listing as messages
use Rattle.bx_entry.specs.Inputs.{ReadInput, Request, Unread, Tick, added_by}
use Rattle.bx_entry.specs.declared.{entry.Slot.Slot, input.Input.Input, input.Refusal.Refusal}
use Rattle.bx_entry.specs.Placings.{Setup}
use Rattle.bx_world.specs.Words.{WorldState, IsOutput, Runs, after, output_admit, EachSlot, IsAdmitted, RepliedBy, Replied, EachReplied, RepliesAreAnswers}
use Rattle.bx_registry.specs.Slots.{given_by, given_from, admitted_slots}
use Rattle.bx_world.specs.declared.step.{Step.Step, StepOut.StepOut}
use Rattle.bx_world.specs.declared.step.Step.TheVariants.{Admit}
use Rattle.bx_world.specs.declared.step.StepOut.TheVariants.{Admitted}
use Rattle.bx_world.proofs.Takes.{Longer, run_longer}
use Rattle.bx_theory.proofs.{Verdicts.Slotted, Verdicts.found_from, Verdicts.judged_after, Verdicts.slotted, Lists.judged_more, Lists.judged_length}

-- ---- the slots of found elements

abbrev AllSlotted : List Listed → List Judged → Type 0
AllSlotted [] [] = Unit {0}
AllSlotted [] (j ∷ js) = ⊥
AllSlotted (x ∷ xs) [] = ⊥
AllSlotted (x ∷ xs) (j ∷ js) = Slotted x j.slot × AllSlotted xs js

all_slotted : (config : Config) (r : Registry) (xs : List Listed) → AllSlotted xs (found_from config r xs)
all_slotted config r [] = tt
all_slotted config r (x ∷ xs) = (slotted config r x, all_slotted config (judge config r x) xs)

-- ---- the slots of an input

abbrev Messages : List Listed → Type 0
Messages [] = Unit {0}
Messages (Post p ∷ xs) = Messages xs
Messages (messages.Tick moment ∷ xs) = ⊥

listed_messages : (moment nonce : ℕ) (sole seen : Bool) (ms : List Message) → Messages (listed_from moment nonce sole seen ms) × (length (listed_from moment nonce sole seen ms) ≡ length ms)
listed_messages moment nonce sole seen [] = (tt, refl)
listed_messages moment nonce sole seen (m ∷ ms) =
    let rest = listed_messages moment nonce sole (seen || is_handshake m) ms in
    (rest.0, ap suc rest.1)

slot_here : (setup : Setup) (list : List Listed) (place : ℕ) (p : Posted) (j : Judged) (slot : PlaceSlot) (rest : List Slot) → j.slot ≡ slot → slice_get (registry setup.config list).judged place ≡ Some j →
    Slotted (Post p) slot → EachSlot setup list (place + 1) rest → EachSlot setup list place (given_by setup place slot ++ rest)
slot_here setup list place p j (Ready reply) rest e g s d =
    let r : Registry = registry setup.config list in
    (ap (answer_at setup.config (entries_of r) place) g ∙ ap (answer_by setup.config (entries_of r) place) e, d)
slot_here setup list place p j (Waiting number) rest e g s d =
    (record { session = number; waits = ap (option_map (λ (i : Judged). i.slot)) g ∙ ap Some e; place = refl; shard = refl }, d)
slot_here setup list place p j NoSlot rest e g s d = absurd s

each_slot : (setup : Setup) (list : List Listed) (place : ℕ) (xs : List Listed) (js : List Judged) → Messages xs → AllSlotted xs js →
    ((k n : ℕ) (j : Judged) → place + k ≡ n → slice_get js k ≡ Some j → slice_get (registry setup.config list).judged n ≡ Some j) →
    EachSlot setup list place (given_from setup place (map (λ (j : Judged). j.slot) js))
each_slot setup list place [] [] m a h = tt
each_slot setup list place [] (j ∷ js) m a h = absurd a
each_slot setup list place (x ∷ xs) [] m a h = absurd a
each_slot setup list place (Post p ∷ xs) (j ∷ js) m a h =
    slot_here setup list place p j j.slot (given_from setup (place + 1) (map (λ (i : Judged). i.slot) js)) refl (h 0 place j (omega arith) refl) a.0
    (each_slot setup list (place + 1) xs js m a.1 (λ k n i e g. h (suc k) n i (omega (arith, e)) g))
each_slot setup list place (messages.Tick moment ∷ xs) (j ∷ js) m a h = absurd m

slot_count : (setup : Setup) (place : ℕ) (p : Posted) (slot : PlaceSlot) (rest : List Slot) → Slotted (Post p) slot → length (given_by setup place slot ++ rest) ≡ suc (length rest)
slot_count setup place p NoSlot rest s = absurd s
slot_count setup place p _ rest s = refl

slots_count : (setup : Setup) (place : ℕ) (xs : List Listed) (js : List Judged) → Messages xs → AllSlotted xs js → length (given_from setup place (map (λ (j : Judged). j.slot) js)) ≡ length xs
slots_count setup place [] [] m a = refl
slots_count setup place [] (j ∷ js) m a = absurd a
slots_count setup place (x ∷ xs) [] m a = absurd a
slots_count setup place (Post p ∷ xs) (j ∷ js) m a =
    slot_count setup place p j.slot (given_from setup (place + 1) (map (λ (i : Judged). i.slot) js)) a.0 ∙ ap suc (slots_count setup (place + 1) xs js m a.1)
slots_count setup place (messages.Tick moment ∷ xs) (j ∷ js) m a = absurd m

tick_slot : (setup : Setup) (place moment : ℕ) (slot : PlaceSlot) → Slotted (messages.Tick moment) slot → given_from setup place (slot ∷ []) ≡ []
tick_slot setup place moment NoSlot s = refl
tick_slot setup place moment _ s = absurd s

tick_slots : (setup : Setup) (place moment : ℕ) (js : List Judged) → AllSlotted (messages.Tick moment ∷ []) js → given_from setup place (map (λ (j : Judged). j.slot) js) ≡ []
tick_slots setup place moment [] a = absurd a
tick_slots setup place moment (j ∷ []) a = tick_slot setup place moment j.slot a.0
tick_slots setup place moment (j ∷ i ∷ js) a = absurd a.1

record Judging (setup : Setup) (xs ys list : List Listed) : Type 0 where
  more : List Judged
  slotted : AllSlotted ys more
  slots : admitted_slots setup xs ys ≡ given_from setup (length xs) (map (λ (j : Judged). j.slot) more)
  behind : (k n : ℕ) (j : Judged) → length xs + k ≡ n → slice_get more k ≡ Some j → slice_get (registry setup.config list).judged n ≡ Some j

got_behind : (front rest : List Judged) (k n : ℕ) → length front + k ≡ n → slice_get (front ++ rest) n ≡ slice_get rest k
got_behind [] rest k n e = let h : n ≡ k = omega (arith, e) in ap (slice_get rest) h
got_behind (i ∷ front) rest k zero e = absurd (omega (arith, e))
got_behind (i ∷ front) rest k (suc n) e = got_behind front rest k n (omega (arith, e))

judging : (setup : Setup) (xs ys more list : List Listed) → list ≡ (xs ++ ys) ++ more → Judging setup xs ys list
judging setup xs ys more list e =
    let r : Registry = registry setup.config xs in
    let js : List Judged = found_from setup.config (registry setup.config xs) ys in
    let many : length (registry setup.config xs).judged ≡ length xs = judged_length setup.config xs in
    record {
      more = js;
      slotted = all_slotted setup.config r ys;
      slots = ap (λ (slots : List PlaceSlot). given_from setup (length xs) (drop (length xs) slots))
          (ap (map (λ (j : Judged). j.slot)) (judged_after setup.config xs ys) ∙ map-append (λ (j : Judged). j.slot) r.judged js)
          ∙ ap (given_from setup (length xs)) (drop_at (map (λ (j : Judged). j.slot) r.judged) (map (λ (j : Judged). j.slot) js) (length xs) (length-map r.judged (λ (j : Judged). j.slot) ∙ many));
      behind = λ k n j h g. ap (λ (zs : List Listed). slice_get (registry setup.config zs).judged n) e
          ∙ judged_more setup.config (xs ++ ys) more n j (ap (λ (ks : List Judged). slice_get ks n) (judged_after setup.config xs ys) ∙ got_behind r.judged js k n (omega (arith, h, many)) ∙ g);
    }

-- ---- an admission

listed_there : (xs ys more list : List Listed) → list ≡ (xs ++ ys) ++ more → take (length ys) (drop (length xs) list) ≡ ys
listed_there xs ys more list e =
    ap (λ (zs : List Listed). take (length ys) (drop (length xs) zs)) (e ∙ append_assoc xs ys more)
    ∙ ap (take (length ys)) (drop_at xs (ys ++ more) (length xs) refl)
    ∙ take-append_seam ys more

admitted : (setup : Setup) (xs more list : List Listed) (input : ReadInput) → list ≡ (xs ++ added_by input) ++ more → refusal_of (length xs) input ≡ None → IsAdmitted setup list input (length xs) (admitted_slots setup xs (added_by input))
admitted setup xs more list (Request moment nonce ms) e none =
    let j : Judging setup xs (added_by (Request moment nonce ms)) list = judging setup xs (added_by (Request moment nonce ms)) more list e in
    let m = listed_messages moment nonce (length ms == 1) false ms in
    record {
      listed = listed_there xs (added_by (Request moment nonce ms)) more list e;
      many = ap length j.slots ∙ slots_count setup (length xs) (added_by (Request moment nonce ms)) j.more m.0 j.slotted ∙ m.1;
      each = subst (EachSlot setup list (length xs)) (sym j.slots) (each_slot setup list (length xs) (added_by (Request moment nonce ms)) j.more m.0 j.slotted j.behind);
    }
admitted setup xs more list (Unread fault) e none = cc
admitted setup xs more list (Tick moment) e none =
    let j : Judging setup xs (messages.Tick moment ∷ []) list = judging setup xs (messages.Tick moment ∷ []) more list e in
    let empty : admitted_slots setup xs (messages.Tick moment ∷ []) ≡ [] = j.slots ∙ tick_slots setup (length xs) moment j.more j.slotted in
    record {
      listed = listed_there xs (messages.Tick moment ∷ []) more list e;
      many = ap length empty;
      each = subst (EachSlot setup list (length xs)) (sym empty) tt;
    }

-- ---- schedules

admit_replied : (setup : Setup) (w : WorldState) (input : Input) (out : StepOut) (last : WorldState) (o : Option Refusal) → refusal_of (length w.list) (read_input input) ≡ o →
    out ≡ output_admit setup w (read_input input) o → Longer (after w (Admit input) out) last → RepliedBy setup last.list input out
admit_replied setup w input (Admitted first slots) last None n e l =
    let same_first : first ≡ length w.list = cc in
    let same_slots : slots ≡ admitted_slots setup w.list (added_by (read_input input)) = cc in
    subst (λ (ss : List Slot). IsAdmitted setup last.list (read_input input) first ss) (sym same_slots)
    (subst (λ (k : ℕ). IsAdmitted setup last.list (read_input input) k (admitted_slots setup w.list (added_by (read_input input)))) (sym same_first)
    (admitted setup w.list l.more last.list (read_input input) l.list n))
admit_replied setup w input (Admitted first slots) last (Some refusal) n e l = cc
admit_replied setup w input _ last o n e l = tt

replied : (setup : Setup) (w : WorldState) (step : Step) (out : StepOut) (last : WorldState) → IsOutput setup w step out → Longer (after w step out) last → Replied setup last.list step out
replied setup w (Admit input) out last i l =
    ⊎_elim (λ e. admit_replied setup w input out last (refusal_of (length w.list) (read_input input)) refl e l)
    (λ m. subst (RepliedBy setup last.list input) (sym m.1) tt) i
replied setup w _ out last i l = tt

each_replied : (setup : Setup) (w : WorldState) (steps : List Step) (outs : List StepOut) (last : WorldState) → Runs setup w steps outs last → EachReplied setup last.list steps outs
each_replied setup w [] outs last r = tt
each_replied setup w (step ∷ steps) [] last r = tt
each_replied setup w (step ∷ steps) (out ∷ outs) last r = (
  replied setup w step out last r.0 (run_longer setup (after w step out) steps outs last r.1),
  each_replied setup (after w step out) steps outs last r.1,
)

pub replies_match_one_thread : RepliesAreAnswers
replies_match_one_thread setup first steps outs last room r = each_replied setup first steps outs last r
