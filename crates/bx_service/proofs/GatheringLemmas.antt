-- The steps of a gathering leave the same items to come.
use Rattle.std.proofs.Common.{◌≡◌, ◌<◌, inr, List, ◌∷◌, ◌++◌, Option, Some, None, Result, Ok, Err, IfErr, ap, subst, sym, ◌∙◌}
use Rattle.std.specs.Prelude.{ℕ, option_and_then}
use mathlib.Core.List.{IsPrefix}
use Rattle.bx_advice.specs.declared.config.Config.{Config}
use Rattle.bx_entry.specs.declared.entry.{Slot.Slot, Ticket.Ticket}
use Rattle.bx_entry.specs.declared.entry.Slot.TheVariants.{Waiting}
use Rattle.bx_held.specs.declared.held.PendingAnswer.{PendingAnswer}
use Rattle.bx_hub.proofs.Held.{over_longer}
use Rattle.bx_hub.specs.Held.{answer_over}
use Rattle.bx_message.specs.declared.reply.{Answer.Answer, Item.Item}
use Rattle.bx_window.proofs.Fronts.{prefix_trans}
use Rattle.bx_window.specs.declared.law.LogId as LogId
use Rattle.bx_window.specs.declared.law.LogStep.{LogStep}
use Rattle.bx_service.specs.Gatherings.{AreGathered, Gathers, IsAwaited, IsMissed, IsMissing, IsOnWay, items_after, items_of, left_in}
use Rattle.bx_service.specs.declared.{backend.Answered.Answered, backend.Unanswered.Unanswered, gathering.Missing.Missing}
use Rattle.bx_service.specs.declared.backend.Unanswered.TheVariants as unanswered
use Rattle.bx_service.specs.declared.gathering.Missing.TheVariants as missing
use Rattle.bx_service.specs.declared.witness.{HubWitness.HubWitness, Stamp.Stamp}
use Rattle.bx_service.specs.declared.witness.HubWitness.TheVariants.{Answering, Lacking, Rejecting}

-- The answer over `from` is also the answer over each front that extends `now`, which extends
-- `from`.
pub on_way_given : (config : Config) (seen from now : List LogStep) (there : List Item) (ticket : Ticket) (slots : List Slot) (a : Answer) → 0 < config.limits.batch → IsPrefix seen now → IsPrefix from now
    → answer_over config from ticket.place ≡ Some a → IsOnWay config seen there (Waiting ticket ∷ slots) now (there ++ items_of a) slots
on_way_given config seen from now there ticket slots a room grows further is = record {
  grows = grows;
  same = λ front longer. ap (option_and_then (λ b. items_after config front (there ++ items_of b) slots))
      (over_longer config from front ticket.place a room (prefix_trans from now front further longer) is);
  awaited = λ other waits. inr waits;
}

pub on_way_then : (config : Config) (a : List LogStep) (t : List Item) (l : List Slot) (b : List LogStep) (u : List Item) (m : List Slot) (c : List LogStep) (v : List Item) (n : List Slot)
    → IsOnWay config a t l b u m → IsOnWay config b u m c v n → IsOnWay config a t l c v n
on_way_then config a t l b u m c v n first then = record {
  grows = prefix_trans a b c first.grows then.grows;
  same = λ front longer. first.same front (prefix_trans b c front then.grows longer) ∙ then.same front longer;
  awaited = λ ticket waits. first.awaited ticket (then.awaited ticket waits);
}

-- Without a pending answer, the next step is that of the first slot.
pub on_way_next : {L : Type 0} {g : LogId.Ghosts L} (config : Config) (held : Option (PendingAnswer L g)) (slots rest : List Slot) (slot : Slot)
    (a : List LogStep) (t : List Item) (l : List Slot) (b : List LogStep) (u : List Item) (c : List LogStep) (v : List Item) (n : List Slot)
    → held ≡ None → slots ≡ slot ∷ rest → IsOnWay config a t l b u (left_in held slots) → IsOnWay config b u (slot ∷ rest) c v n → IsOnWay config a t l c v n
on_way_next config None slots rest slot a t l b u c v n none is first then =
    on_way_then config a t l b u (slot ∷ rest) c v n (subst (λ (m : List Slot). IsOnWay config a t l b u m) is first) then
on_way_next config (Some held) slots rest slot a t l b u c v n none is first then = absurd (cc none)

-- Without a pending answer, an answer that is missing of the next slots was missing before.
pub missing_next : {L : Type 0} {g : LogId.Ghosts L} (shards : ℕ) (config : Config) (held : Option (PendingAnswer L g)) (slots rest : List Slot) (slot : Slot)
    (a : List LogStep) (t : List Item) (l : List Slot) (b : List LogStep) (u : List Item) (why : Missing L)
    → held ≡ None → slots ≡ slot ∷ rest → IsOnWay config a t l b u (left_in held slots) → IsMissing shards (slot ∷ rest) why → IsMissing shards l why
missing_next shards config None slots rest slot a t l b u (missing.Answer ticket front lack) none is way lacks =
    (way.awaited ticket (subst (λ (m : List Slot). IsAwaited ticket m) (sym is) lacks.0), lacks.1)
missing_next shards config None slots rest slot a t l b u missing.Memory none is way lacks = tt
missing_next shards config (Some held) slots rest slot a t l b u why none is way lacks = absurd (cc none)

pub on_missing : {L A : Type 0} (shards : ℕ) (slots : List Slot) (why : Missing L) (r : Result A (Missing L)) → r ≡ Err why → IsMissing shards slots why → IfErr r (IsMissing shards slots)
on_missing shards slots why r is lacks = rw is lacks

module _ {L : Type 0} {g : LogId.Ghosts L} (config : Config) (stamp : Stamp) (first : ℕ) (posted seen : List LogStep) (there : List Item) (slots : List Slot)
    (now : List LogStep) (more : List Item) (rest : List Slot) (way : IsOnWay config seen there slots now more rest) where
  gathered_before : (items : List Item) (witness : HubWitness L g) → AreGathered config stamp first posted now more rest items witness
      → AreGathered config stamp first posted seen there slots items witness
  gathered_before items (Answering s f p w) holds =
      (holds.0, holds.1, holds.2, prefix_trans seen now w way.grows holds.3, way.same w holds.3 ∙ holds.4)
  gathered_before items (Lacking s f p w ticket lack) holds = absurd holds
  gathered_before items (Rejecting s w rejection) holds = absurd holds

  missed_before : (witness : HubWitness L g) → IsMissed config stamp first posted now rest witness → IsMissed config stamp first posted seen slots witness
  missed_before (Answering s f p w) holds = absurd holds
  missed_before (Lacking s f p w ticket lack) holds =
      (holds.0, holds.1, holds.2, way.awaited ticket holds.3, holds.4)
  missed_before (Rejecting s w rejection) holds = absurd holds

  gathers_before : (output : Result (Answered (HubWitness L g)) (Unanswered (HubWitness L g)))
      → Gathers config stamp first posted now more rest output → Gathers config stamp first posted seen there slots output
  gathers_before (Ok answered) holds = gathered_before answered.items.items answered.witness holds
  gathers_before (Err (unanswered.Unavailable witness)) holds = missed_before witness holds
  gathers_before (Err unanswered.Memory) holds = tt

  -- What a future may give later, with the same post, it may give before.
  pub gathers_earlier : (s : Stamp) (f : ℕ) (p : List LogStep) (output : Result (Answered (HubWitness L g)) (Unanswered (HubWitness L g))) → s ≡ stamp → f ≡ first → p ≡ posted
      → Gathers config s f p now more rest output → Gathers config stamp first posted seen there slots output
  gathers_earlier s f p output stamps firsts posts holds =
      gathers_before output (subst (λ (q : List LogStep). Gathers config stamp first q now more rest output) posts
      (subst (λ (q : ℕ). Gathers config stamp q p now more rest output) firsts (subst (λ (q : Stamp). Gathers config q f p now more rest output) stamps holds)))
