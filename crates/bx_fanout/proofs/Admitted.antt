-- Proves what holds of an input when it starts.
use Rattle.std.proofs.Common.{◌≡◌, ℕ, ◌+◌, ◌<◌, false, List, [], ◌∷◌, ◌++◌, length, map, filter, refl, sym, ap, subst, ◌∙◌, inl, inr, Option, Some, None, append-nil, add-zero, zero-add}
use Rattle.std.specs.Prelude.{◌==◌}
use Rattle.bx_entry.proofs.RequestLemmas.{length-listed}
use Rattle.bx_entry.specs.Words.{ReadInput, Request, added_by, refusal_of, Listed, request, read_input, Taking, outs, places_of, taken_as, taken_in}
use Rattle.bx_entry.specs.Runs as runs
use Rattle.bx_entry.specs.declared.{entry.Slot.Slot, input.Input.Input, input.Refusal.Refusal}
use Rattle.bx_message.specs.declared.reply.Answer.{Answer}
use Rattle.bx_entry.specs.Placings.{Setup}
use Rattle.bx_world.specs.Words.{EachSlot, asked_by, IsOutput, WorldState, after, output_admit}
use Rattle.bx_world.specs.declared.step.Step.TheVariants.{Admit}
use Rattle.bx_world.specs.declared.step.StepOut.TheVariants.{Admitted, NotAdmitted, OutOfMemory}
use Rattle.bx_world.proofs.Replies.{replies_match_one_thread}
use Rattle.bx_fanout.specs.Words.{Row, outs_of, waits, AreAnswers, NoneTakenFrom, next_place, AllUntaken, IsCollecting, IsTakenIn, IsGiving, seen_out}
use Rattle.bx_theory.specs.Opens.{intake_as, open_after}
use Rattle.bx_fanout.specs.declared.current_input.CurrentInput.{CurrentInput}
use Rattle.bx_fanout.proofs.{TakingIn.none-left, TakingIn.taken-one, Stages.length-numbers}

-- ---- The number of answers

asked : (len : ℕ) (input : ReadInput) → length (places_of (intake_as len input None) input) ≡ asked_by input
asked len (Request moment nonce ms) = length-numbers len (length (request moment nonce ms)) ∙ length-listed moment nonce (length ms == 1) false ms
asked len _ = refl

refused-asked : (len : ℕ) (input : ReadInput) (refusal : Refusal) → length (places_of (intake_as len input (Some refusal)) input) ≡ 0
refused-asked len (Request moment nonce ms) refusal = refl
refused-asked len _ refusal = refl

-- ---- The result of the admission

pub record Took (len : ℕ) (refusal : Option Refusal) (first : ℕ) : Type 0 where
  pub none : refusal ≡ None
  pub at : first ≡ len

took-by : (setup : Setup) (w : WorldState) (input : ReadInput) (first : ℕ) (slots : List Slot) (o : Option Refusal) → Admitted first slots ≡ output_admit setup w input o → Took (length w.list) o first
took-by setup w input first slots None e = record { none = refl; at = cc }
took-by setup w input first slots (Some refusal) e = cc

pub took : (setup : Setup) (w : WorldState) (i : Input) (first : ℕ) (slots : List Slot) → IsOutput setup w (Admit i) (Admitted first slots) → Took (length w.list) (refusal_of (length w.list) (read_input i)) first
took setup w i first slots (inl e) = took-by setup w (read_input i) first slots (refusal_of (length w.list) (read_input i)) e
took setup w i first slots (inr (may, e)) = let no : Admitted first slots ≡ OutOfMemory = e in cc

refused-by : (setup : Setup) (w : WorldState) (input : ReadInput) (refusal : Refusal) (o : Option Refusal) → NotAdmitted refusal ≡ output_admit setup w input o → o ≡ Some refusal
refused-by setup w input refusal None e = cc
refused-by setup w input refusal (Some r) e = cc

refused : (setup : Setup) (w : WorldState) (i : Input) (refusal : Refusal) → IsOutput setup w (Admit i) (NotAdmitted refusal) → refusal_of (length w.list) (read_input i) ≡ Some refusal
refused setup w i refusal (inl e) = refused-by setup w (read_input i) refusal (refusal_of (length w.list) (read_input i)) e
refused setup w i refusal (inr (may, e)) = let no : NotAdmitted refusal ≡ OutOfMemory = e in cc

-- ---- The input starts

pub all-added : (setup : Setup) (inputs : List ReadInput) (w : WorldState) (rows : List Row) (added : List runs.Out) → IsGiving setup inputs w rows [] added → rows ≡ filter waits rows → added ≡ outs setup.config inputs
all-added setup inputs w rows added g settled =
    sym (append-nil added) ∙ ap (λ (os : List runs.Out). added ++ os) (sym (ap (map seen_out) (none-left rows rows settled))) ∙ sym (append-nil (added ++ map seen_out (outs_of rows))) ∙ g.left

list-after : (inputs : List ReadInput) (input : ReadInput) (o : Option Refusal) → refusal_of (length (taken_in inputs).list) input ≡ o → (taken_in (inputs ++ input ∷ [])).list ≡ (taken_as (taken_in inputs) input o).list
list-after inputs input o e = ap (λ (t : Taking). t.list) (taken-one inputs input) ∙ ap (λ (p : Option Refusal). (taken_as (taken_in inputs) input p).list) e

pub intake-admitted : (setup : Setup) (inputs : List ReadInput) (i : Input) (old new : WorldState) (rows : List Row) (n : CurrentInput) (added : List runs.Out) (first : ℕ) (slots : List Slot) → 0 < setup.config.limits.batch →
    IsGiving setup inputs old rows [] added → rows ≡ filter waits rows → IsOutput setup old (Admit i) (Admitted first slots) → new ≡ after old (Admit i) (Admitted first slots) →
    n.number ≡ length inputs → n.first ≡ first → n.refusal ≡ None → n.items.items ≡ [] → n.answers.items ≡ [] → n.slots.items ≡ slots → IsCollecting setup inputs (read_input i) new rows n added
intake-admitted setup inputs i old new rows n added first slots batch g settled output step number at none items answers are =
    let input : ReadInput = read_input i in
    let t = took setup old i first slots output in
    let len : length old.list ≡ length (taken_in inputs).list = ap (λ (ls : List Listed). length ls) g.list in
    let no : refusal_of (length (taken_in inputs).list) input ≡ None = ap (λ (k : ℕ). refusal_of k input) (sym len) ∙ t.none in
    let reply = (replies_match_one_thread setup old (Admit i ∷ []) (Admitted first slots ∷ []) new batch (output, step)).0 in
    let place : next_place n ≡ first = ap (λ (os : List Answer). n.first + length os) answers ∙ add-zero n.first ∙ at in
    let list : new.list ≡ old.list ++ added_by input = ap (λ (w : WorldState). w.list) step in
    let taken : new.taken ≡ old.taken = ap (λ (w : WorldState). w.taken) step in
    record {
      list = list ∙ ap (λ (ls : List Listed). ls ++ added_by input) g.list ∙ sym (list-after inputs input None no);
      number = number;
      first = at ∙ t.at ∙ len;
      refusal = none ∙ sym (ap (λ (o : Option Refusal). (intake_as (length (taken_in inputs).list) input o).refusal) no);
      items = items;
      many =
          ap (λ (os : List Answer). length os + length n.slots.items) answers ∙ zero-add (length n.slots.items) ∙ ap (λ (ss : List Slot). length ss) are ∙ reply.many ∙ sym (asked (length (taken_in inputs).list) input)
          ∙ sym (ap (λ (o : Option Refusal). length (places_of (intake_as (length (taken_in inputs).list) input o) input)) no);
      collected = record {
        answers = subst (AreAnswers setup.config new.list n.first) (sym answers) tt;
        slots =
            let each : EachSlot setup new.list (next_place n) slots = subst (λ (p : ℕ). EachSlot setup new.list p slots) (sym place) reply.each in
            subst (EachSlot setup new.list (next_place n)) (sym are) each;
        fresh =
            let here : NoneTakenFrom (next_place n) old.taken = subst (λ (p : ℕ). NoneTakenFrom p old.taken) (sym (place ∙ t.at)) g.fresh in
            subst (NoneTakenFrom (next_place n)) (sym taken) here;
      };
      held = settled ∙ g.rest;
      untaken = subst (λ (ns : List ℕ). AllUntaken ns (open_after setup.config inputs)) (sym taken) g.untaken;
      outs_before = all-added setup inputs old rows added g settled;
    }

pub intake-refused : (setup : Setup) (inputs : List ReadInput) (i : Input) (old new : WorldState) (rows : List Row) (n : CurrentInput) (added : List runs.Out) (refusal : Refusal) →
    IsGiving setup inputs old rows [] added → rows ≡ filter waits rows → IsOutput setup old (Admit i) (NotAdmitted refusal) → new ≡ old →
    n.number ≡ length inputs → n.first ≡ length old.list → n.refusal ≡ Some refusal → n.items.items ≡ [] → n.answers.items ≡ [] → n.slots.items ≡ [] → IsCollecting setup inputs (read_input i) new rows n added
intake-refused setup inputs i old new rows n added refusal g settled output step number at none items answers are =
    let input : ReadInput = read_input i in
    let len : length old.list ≡ length (taken_in inputs).list = ap (λ (ls : List Listed). length ls) g.list in
    let no : refusal_of (length (taken_in inputs).list) input ≡ Some refusal = ap (λ (k : ℕ). refusal_of k input) (sym len) ∙ refused setup old i refusal output in
    let place : next_place n ≡ length old.list = ap (λ (os : List Answer). n.first + length os) answers ∙ add-zero n.first ∙ at in
    let taken : new.taken ≡ old.taken = ap (λ (w : WorldState). w.taken) step in
    record {
      list = ap (λ (w : WorldState). w.list) step ∙ g.list ∙ sym (list-after inputs input (Some refusal) no);
      number = number;
      first = at ∙ len;
      refusal = none ∙ sym (ap (λ (o : Option Refusal). (intake_as (length (taken_in inputs).list) input o).refusal) no);
      items = items;
      many =
          ap (λ (os : List Answer). length os + length n.slots.items) answers ∙ zero-add (length n.slots.items) ∙ ap (λ (ss : List Slot). length ss) are ∙ sym (refused-asked (length (taken_in inputs).list) input refusal)
          ∙ sym (ap (λ (o : Option Refusal). length (places_of (intake_as (length (taken_in inputs).list) input o) input)) no);
      collected = record {
        answers = subst (AreAnswers setup.config new.list n.first) (sym answers) tt;
        slots = subst (EachSlot setup new.list (next_place n)) (sym are) tt;
        fresh =
            let here : NoneTakenFrom (next_place n) old.taken = subst (λ (p : ℕ). NoneTakenFrom p old.taken) (sym place) g.fresh in
            subst (NoneTakenFrom (next_place n)) (sym taken) here;
      };
      held = settled ∙ g.rest;
      untaken = subst (λ (ns : List ℕ). AllUntaken ns (open_after setup.config inputs)) (sym taken) g.untaken;
      outs_before = all-added setup inputs old rows added g settled;
    }

pub intake-of : (s setup : Setup) (inputs earlier : List ReadInput) (last : ReadInput) (w : WorldState) (rows : List Row) (n : CurrentInput) (added : List runs.Out) → s ≡ setup → inputs ≡ earlier ++ last ∷ [] → IsCollecting setup earlier last w rows n added →
    IsTakenIn s inputs w rows n added
intake-of s setup inputs earlier last w rows n added same are c =
    subst (λ (t : Setup). IsTakenIn t inputs w rows n added) (sym same) (record { earlier = earlier; last = last; are = are; collecting = c })
