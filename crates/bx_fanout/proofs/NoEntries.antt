-- Proves that an input that adds no entries is complete at once.
use Rattle.std.proofs.Common.{◌≡◌, ℕ, ◌+◌, ◌<◌, ◌≤◌, Bool, true, false, not, List, [], ◌∷◌, ◌++◌, length, map, filter, refl, sym, ap, subst, ◌∙◌, cond, arith, Option, Some, None, option_map, append-nil}
use Rattle.std.specs.Prelude.{is_some}
use Rattle.std.specs.List.{AllByRecursion}
use Rattle.std.proofs.lemmas.List.{length-append}
use Rattle.bx_advice.specs.declared.config.Config.{Config}
use Rattle.bx_entry.specs.Words.{PlacedAnswer, answer_in, latest, Listed, ReadInput, Registry, Waiting, read_input, registry, taken_in}
use Rattle.bx_entry.specs.Runs as runs
use Rattle.bx_entry.specs.declared.{Placing.Ghosts, entry.Slot.Slot}
use Rattle.bx_entry.specs.declared.entry.Slot.TheVariants as slots
use Rattle.bx_entry.specs.Placings.{Setup}
use Rattle.bx_shard.specs.Words.{is_taken, given_of}
use Rattle.bx_theory.specs.Opens.{Numbered, is_whole, numbered_from, open_after}
use Rattle.bx_theory.proofs.{Below.answer_below, Sole.incomplete_input_is_one_held_connect}
use Rattle.bx_world.specs.Words.{EachSlot, IsSlot, setup_of, world_of, WorldState}
use Rattle.bx_fanout.specs.CurrentInputs.{IsLevel, given_at, next_place, out_of}
use Rattle.bx_fanout.specs.Words.{Row, AllUntaken, Drained, IsCollecting, IsConsistent, IsGiving, IsStaged, IsTakenIn, bare, filled, is_collecting, seen_out}
use Rattle.bx_fanout.specs.declared.{current_input.CurrentInput.CurrentInput, round_state.RoundState.RoundState, stage.Stage.Stage}
use Rattle.bx_fanout.specs.declared.stage.Stage.TheVariants.{Collecting, Complete}
use Rattle.bx_fanout.proofs.{Stages.IsSole, Stages.all-sole, Stages.giving-whole, Stages.whole-sole, TakingIn.fresh-behind, TakingIn.grows, TakingIn.slot-within}

-- ---- The list is unchanged

none-long : (xs : List Listed) → length xs ≤ 0 → xs ≡ []
none-long [] few = refl
none-long (x ∷ xs) few = absurd (omega arith)

same-list : (setup : Setup) (inputs : List ReadInput) (input : ReadInput) (w : WorldState) (rows : List Row) (n : CurrentInput) (added : List runs.Out) → IsCollecting setup inputs input w rows n added → length w.list ≤ n.first → w.list ≡ (taken_in inputs).list
same-list setup inputs input w rows n added c few =
    let before : List Listed = (taken_in inputs).list in
    let more = grows inputs input in
    let is : w.list ≡ before ++ more.0 = c.list ∙ more.1 in
    let long : length w.list ≡ length before + length more.0 = ap (λ (ls : List Listed). length ls) is ∙ length-append before more.0 in
    let first : n.first ≡ length before = c.first in
    is ∙ ap (λ (ls : List Listed). before ++ ls) (none-long more.0 (omega arith)) ∙ append-nil before

-- ---- No message is left to answer

slot-below : (setup : Setup) (list : List Listed) (place : ℕ) (slot : Slot) → 0 < setup.config.limits.batch → IsSlot setup list place slot → place < length list
slot-below setup list place (slots.Ready reply) batch is = answer_below setup.config list place (record { place = place; events = []; reply = reply }) batch is
slot-below setup list place (slots.Waiting ticket) batch is = slot-within setup.config list place (Waiting is.session) is.waits

none-left : (setup : Setup) (list : List Listed) (place : ℕ) (ss : List Slot) → 0 < setup.config.limits.batch → length list ≤ place → EachSlot setup list place ss → ss ≡ []
none-left setup list place [] batch past each = refl
none-left setup list place (s ∷ ss) batch past each = let below : place < length list = slot-below setup list place s batch each.0 in absurd (omega arith)

-- ---- The held connects stay as they are

missing-by : (x : Option PlacedAnswer) → is_some (latest 0 (x ∷ [])) ≡ false → option_map given_of x ≡ None
missing-by None missing = refl
missing-by (Some p) missing = cc

open-by : (p : Numbered → Bool) (o : Numbered) (os : List Numbered) → AllByRecursion (λ (n : Numbered). p n ≡ false) (filter (λ (n : Numbered). not (p n)) os) → (b : Bool) → p o ≡ b →
    AllByRecursion (λ (n : Numbered). p n ≡ false) (cond (not b) (o ∷ filter (λ (n : Numbered). not (p n)) os) (filter (λ (n : Numbered). not (p n)) os))
open-by p o os ih true e = ih
open-by p o os ih false e = (e, ih)

all-open : (p : Numbered → Bool) (os : List Numbered) → AllByRecursion (λ (n : Numbered). p n ≡ false) (filter (λ (n : Numbered). not (p n)) os)
all-open p [] = tt
all-open p (o ∷ os) = open-by p o os (all-open p os) (p o) refl

still-bare : (config : Config) (list : List Listed) (os : List Numbered) → AllByRecursion IsSole os → AllByRecursion (λ (o : Numbered). is_whole config (registry config list) o ≡ false) os →
    map (filled config list) (map bare os) ≡ map bare os
still-bare config list [] sole none = refl
still-bare config list (o ∷ os) sole none =
    let r : Registry = registry config list in
    let missing : given_at config list o.intake.first ≡ None = missing-by (answer_in config r o.intake.first) (sym (whole-sole config r o sole.0) ∙ none.0) in
    ap (λ (a : Option _). (o.intake.first, record { number = o.number; answer = a }) ∷ map (filled config list) (map bare os)) missing
    ∙ ap (λ (rows : List Row). bare o ∷ rows) (still-bare config list os sole.1 none.1)

untaken-bare : (config : Config) (list : List Listed) (taken : List ℕ) (os : List Numbered) → AllUntaken taken os → AllByRecursion (λ (row : Row). given_at config list row.0 ≡ None → is_taken taken row.0 ≡ false) (map bare os)
untaken-bare config list taken [] untaken = tt
untaken-bare config list taken (o ∷ os) untaken = ((λ none. untaken.0), untaken-bare config list taken os untaken.1)

-- ---- The input is complete

giving-same-list : (setup : Setup) (inputs : List ReadInput) (input : ReadInput) (w : WorldState) (rows : List Row) (n : CurrentInput) (added : List runs.Out) → 0 < setup.config.limits.batch → IsCollecting setup inputs input w rows n added →
    length w.list ≤ n.first → IsGiving setup (inputs ++ input ∷ []) w rows (seen_out (out_of n) ∷ []) added
giving-same-list setup inputs input w rows n added batch c few =
    let config : Config = setup.config in
    let opens : List Numbered = open_after config inputs in
    let before : List Listed = (taken_in inputs).list in
    let same : w.list ≡ before = same-list setup inputs input w rows n added c few in
    let sole : AllByRecursion IsSole opens = all-sole config before opens (incomplete_input_is_one_held_connect config inputs batch) in
    let opened : AllByRecursion (λ (o : Numbered). is_whole config (registry config before) o ≡ false) opens = all-open (is_whole config (registry config before)) (numbered_from 0 (taken_in inputs).intake) in
    let still : map (filled config w.list) (map bare opens) ≡ map bare opens = ap (λ (ls : List Listed). map (filled config ls) (map bare opens)) same ∙ still-bare config before opens sole opened in
    let drained : Drained setup w rows w rows = record {
      list = refl;
      applied = refl;
      rows = c.held ∙ sym (ap (map (filled config w.list)) c.held ∙ still);
      untaken = subst (AllByRecursion (λ (row : Row). given_at config w.list row.0 ≡ None → is_taken w.taken row.0 ≡ false)) (sym c.held) (untaken-bare config w.list w.taken opens c.untaken);
      fresh = fresh-behind setup inputs input w rows n added c;
    } in
    giving-whole setup inputs input w w rows rows n added batch c (none-left setup w.list (next_place n) n.slots.items batch (omega arith) c.collected.slots) drained

pub giving-no-entries : (setup : Setup) (inputs : List ReadInput) (w : WorldState) (rows : List Row) (n : CurrentInput) (added : List runs.Out) → 0 < setup.config.limits.batch → IsTakenIn setup inputs w rows n added →
    length w.list ≤ n.first → IsGiving setup inputs w rows (seen_out (out_of n) ∷ []) added
giving-no-entries setup inputs w rows n added batch d few =
    subst (λ (is : List ReadInput). IsGiving setup is w rows (seen_out (out_of n) ∷ []) added) (sym d.are) (giving-same-list setup d.earlier d.last w rows n added batch d.collecting few)

-- ---- The state after an input starts

module _ {P : Type 0} {g : Ghosts P} where
  pub consistent-collecting : (p : RoundState P g) (n : CurrentInput) → p.stage ≡ Collecting n → p.intake ≡ length p.inputs → IsTakenIn (setup_of p.world) (map read_input p.inputs) (world_of p.world) p.held n (map seen_out p.added) →
      ¬ IsLevel (world_of p.world) → IsConsistent p
  consistent-collecting p n is counted intake lags = record {
    counted = counted;
    staged = subst (λ (s : Stage). IsStaged (setup_of p.world) (map read_input p.inputs) (world_of p.world) p.held s (map seen_out p.added)) (sym is) intake;
    lags = λ some. lags;
  }

  pub consistent-complete : (p : RoundState P g) (n : CurrentInput) → p.stage ≡ Complete n → p.intake ≡ length p.inputs → IsTakenIn (setup_of p.world) (map read_input p.inputs) (world_of p.world) p.held n (map seen_out p.added) →
      length (world_of p.world).list ≤ n.first → IsConsistent p
  consistent-complete p n is counted intake few = record {
    counted = counted;
    staged = subst (λ (s : Stage). IsStaged (setup_of p.world) (map read_input p.inputs) (world_of p.world) p.held s (map seen_out p.added)) (sym is)
        (giving-no-entries (setup_of p.world) (map read_input p.inputs) (world_of p.world) p.held n (map seen_out p.added) p.world.registry.config.limits.some_batch intake few);
    lags = λ some. let none : is_collecting p.stage ≡ false = ap is_collecting is in cc;
  }
