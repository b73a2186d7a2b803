-- What a request or a tick adds to the front of a pass, and why it is not admitted.
use Rattle.std.proofs.Common.{◌≡◌, ◌⊎◌, ℕ, ◌+◌, ◌<◌, ◌≤◌, Option, None, List, [], ◌∷◌, ◌++◌, length, take, drop, refl, sym, ap, ◌∙◌, subst, arith, inl, inr, ⊎_elim, length-append}
use Rattle.std.specs.Prelude.{Result, Ok, Err, IfOk, IfErr, IfSome, IsOkUnless, OnOk, OnErr}
use Rattle.std.proofs.lemmas.{Grind.common_steps, List.drop_at}
use mathlib.Core.List.{IsPrefix}
use Rattle.bx_registry.specs.Standings.{Continues, Standing}
use Rattle.bx_entry.specs.Placings.{placed_by}
use Rattle.bx_registry.specs.Slots.{admitted_slots}
use Rattle.bx_registry.specs.declared.plan.Plan.{Plan}
use Rattle.bx_registry.proofs.Faults.{fault_told, planned_taken}
use Rattle.bx_registry.proofs.Slotting.{tick_slots}
use Rattle.bx_entry.specs.Listing as messages
use Rattle.bx_advice.specs.Limits.{greatest_length}
use Rattle.bx_advice.specs.declared.config.Config.{Config}
use Rattle.bx_entry.specs.Words.{IsFault, ReadInput, added_by, refusal_of, Listed, entries}
use Rattle.bx_entry.specs.declared.input.Input.{Input}
use Rattle.bx_entry.specs.declared.entry.Entry.{Entry}
use Rattle.bx_theory.proofs.Lists.{entries_length}
use Rattle.bx_entry.specs.declared.input.{AdmitFault.AdmitFault, Refusal.Refusal}
use Rattle.bx_entry.specs.declared.input.AdmitFault.TheVariants as admissions
use Rattle.bx_entry.specs.declared.input.Refusal.TheVariants as refusals
use Rattle.bx_entry.specs.Placings.{Setup}
use Rattle.bx_window.specs.Places as places
use Rattle.bx_window.specs.Steps.{list_of, setup_of}
use Rattle.bx_window.specs.declared.law.LogStep.{LogStep}
use Rattle.bx_hub.specs.Faults.{of_admission}
use Rattle.bx_hub.specs.Posts.{AreSlotsAt, IsAdmittedAt, IsReadable, IsRefused, IsRejected, IsUnpublished, IsWhole}
use Rattle.bx_hub.specs.Submissions.{input_of}
use Rattle.bx_hub.specs.declared.submission.Submission.{Submission}
use Rattle.bx_hub.specs.declared.submission.Submission.TheVariants as submission
use Rattle.bx_hub.specs.declared.fault.PostFault.{PostFault}
use Rattle.bx_hub.specs.declared.fault.PostFault.TheVariants.{Refused, TooManyMessages, Closed, Behind, Memory}
use Rattle.bx_hub.proofs.Lists.{list_length}

-- ---- Planned batches

pub entries_many : (l : Standing) (p : Plan) → Continues l p → length p.batch.entries ≡ length p.elements
entries_many l p c =
    let all = entries_length l.config (l.list ++ p.elements) in
    let old = entries_length l.config l.list in
    omega (arith, all, old, ap (λ (es : List Entry). length es) c.entries, length-append (entries l.config l.list) p.batch.entries, length-append l.list p.elements)

pub continues : (config : Config) (list : List Listed) (l : Standing) (p : Plan) (inputs : List Input) → l.config ≡ config → l.list ≡ list → Continues l p → 0 < length p.batch.entries →
    places.Continues config list (record { batch = p.batch; elements = p.elements; inputs = inputs })
continues config list l p inputs same is c some =
    subst (λ (k : Config). places.Continues k list (record { batch = p.batch; elements = p.elements; inputs = inputs })) same
    (subst (λ (xs : List Listed). places.Continues l.config xs (record { batch = p.batch; elements = p.elements; inputs = inputs })) is
    (record { first = c.first; some = some; entries = c.entries }))

pub places_end : (list : List Listed) (l : Standing) (p : Plan) → l.list ≡ list → Continues l p → length list + length p.batch.entries ≤ greatest_length
places_end list l p is c = omega (arith, ap (λ (xs : List Listed). length xs) is, c.change.bounded, length-append l.list p.elements, entries_many l p c)

-- ---- Fronts of a log with one more step

pub none_added : {A : Type 0} (xs : List A) → length xs ≡ 0 → xs ≡ []
none_added [] e = refl
none_added (x ∷ xs) e = absurd (omega (arith, e))

-- A front is within the log before its last step, or is the whole log.
front_parts : (front log : List LogStep) (step : LogStep) → IsPrefix front (log ++ step ∷ []) → IsPrefix front log ⊎ (front ≡ log ++ step ∷ [])
front_parts [] log step b = inl (log, refl)
front_parts (f ∷ front) [] step b =
    let rest : front ++ b.0 ≡ [] = cc b.1 in
    let none : front ≡ [] = none_added front (omega (arith, ap (λ (xs : List LogStep). length xs) rest, length-append front b.0)) in
    let same : f ≡ step = cc b.1 in
    inr (cc (none, same))
front_parts (f ∷ front) (l ∷ log) step b =
    let same : f ≡ l = cc b.1 in
    let rest : front ++ b.0 ≡ log ++ step ∷ [] = cc b.1 in
    ⊎_elim (λ (p : IsPrefix front log). inl (p.0, cc (same, p.1))) (λ (e : front ≡ log ++ step ∷ []). inr (cc (same, e))) (front_parts front log step (b.0, rest))

-- Each front within `new` shows all that is new since `old`, or nothing of it.
abbrev pub ShowsAllOrNone : List LogStep → List LogStep → Type 0
ShowsAllOrNone old new = (front : List LogStep) → IsPrefix front new → (length (list_of front) ≤ length (list_of old)) ⊎ (list_of front ≡ list_of new)

pub shows_none : (log : List LogStep) → ShowsAllOrNone log log
shows_none log front b = inl (list_length front log b)

pub shows_step : (log new : List LogStep) (step : LogStep) → new ≡ log ++ step ∷ [] → ShowsAllOrNone log new
shows_step log new step e =
    subst (ShowsAllOrNone log) (sym e)
    (λ front b. ⊎_elim (λ (p : IsPrefix front log). inl (list_length front log p)) (λ (same : front ≡ log ++ step ∷ []). inr (ap list_of same)) (front_parts front log step b))

pub with_step : {T E : Type 0} (P : T → Type 0) (Q : Type 0) (r : Result T E) → IfOk r P → OnOk r Q → IfOk r (λ a. P a × Q)
with_step P Q (Ok a) p q = (p, q)
with_step P Q (Err e) p q = tt

-- ---- The place in the list

take_front : {A : Type 0} (xs ys : List A) → take (length xs) (xs ++ ys) ≡ xs
take_front [] ys = refl
take_front (x ∷ xs) ys = ap (λ l. x ∷ l) (take_front xs ys)

pub admitted_by : (input : ReadInput) (l : Standing) (p : Plan) (old whole new : List LogStep) → l.list ≡ list_of whole → Continues l p → p.elements ≡ added_by input → refusal_of (length l.list) input ≡ None →
    IsPrefix old whole → list_of new ≡ list_of whole ++ p.elements → ShowsAllOrNone whole new → IsAdmittedAt input p.batch.first old new
admitted_by input l p old whole new is c added allowed pre grown shown =
    let first : p.batch.first ≡ length (list_of whole) = c.first ∙ ap (λ (xs : List Listed). length xs) is in
    let more : list_of new ≡ list_of whole ++ added_by input = grown ∙ ap (λ (xs : List Listed). list_of whole ++ xs) added in
    record {
      allowed = ap (λ (n : ℕ). refusal_of n input) c.first ∙ allowed;
      fresh = omega (arith, first, list_length old whole pre);
      there = ap (drop p.batch.first) more ∙ drop_at (list_of whole) (added_by input) p.batch.first (sym first);
      end = omega (arith, first, ap (λ (xs : List Listed). length xs) more, length-append (list_of whole) (added_by input));
      at_once = λ front b. ⊎_elim (λ (h : length (list_of front) ≤ length (list_of whole)). inl (omega (arith, h, first))) (λ (e : list_of front ≡ list_of new). inr e) (shown front b);
    }

pub slots_by : (setup : Setup) (input : ReadInput) (p : Plan) (whole new : List LogStep) → p.batch.first ≡ length (list_of whole) → p.slots ≡ admitted_slots setup (list_of whole) p.elements → p.elements ≡ added_by input →
    list_of new ≡ list_of whole ++ p.elements → AreSlotsAt setup input p.batch.first new p.slots
slots_by setup input p whole new first slots added grown =
    let front : take p.batch.first (list_of new) ≡ list_of whole =
    ap (λ (xs : List Listed). take p.batch.first xs) grown ∙ ap (λ (n : ℕ). take n (list_of whole ++ p.elements)) first ∙ take_front (list_of whole) p.elements in
    slots ∙ ap (admitted_slots setup (list_of whole)) added ∙ ap (λ (xs : List Listed). admitted_slots setup xs (added_by input)) (sym front)

pub admitted_before : (input : ReadInput) (first : ℕ) (old mid new : List LogStep) → IsPrefix old mid → IsAdmittedAt input first mid new → IsAdmittedAt input first old new
admitted_before input first old mid new p a = record { allowed = a.allowed; fresh = omega (arith, list_length old mid p, a.fresh); there = a.there; end = a.end; at_once = a.at_once }

-- ---- The results of plans

pub slots_planned : (config : Config) (placing place_of : ℕ → ℕ → ℕ) (s : Standing) (list : List Listed) (r : Result Plan AdmitFault) → s.config ≡ config → s.shards ≡ config.shards → place_of ≡ placing → s.list ≡ list →
    IfOk r (λ p. p.slots ≡ admitted_slots (placed_by s.config s.shards place_of) s.list p.elements)
    → IfOk r (λ p. p.slots ≡ admitted_slots (setup_of config placing) list p.elements)
slots_planned config placing place_of s list (Err f) same many is at slots = tt
slots_planned config placing place_of s list (Ok p) same many is at slots =
    let one : placed_by s.config s.shards place_of ≡ setup_of config placing = cc (same, many, is) in
    slots ∙ ap (λ (x : Setup). admitted_slots x s.list p.elements) one
    ∙ ap (λ (xs : List Listed). admitted_slots (setup_of config placing) xs p.elements) at

pub tick_planned : (setup : Setup) (list : List Listed) (moment : ℕ) (r : Result Plan AdmitFault) → IfOk r (λ p. p.elements ≡ messages.Tick moment ∷ []) → IfOk r (λ p. p.slots ≡ []) →
    IfOk r (λ p. p.slots ≡ admitted_slots setup list p.elements)
tick_planned setup list moment (Err f) elements slots = tt
tick_planned setup list moment (Ok p) elements slots = slots ∙ sym (tick_slots setup list moment) ∙ ap (admitted_slots setup list) (sym elements)

pub allowed_planned : (refusal : Option Refusal) (r : Result Plan AdmitFault) → IfSome refusal (λ x. r ≡ Err (admissions.Refused x)) → OnOk r (refusal ≡ None)
allowed_planned refusal (Ok p) some = planned_taken refusal (Ok p) p refl some
allowed_planned refusal (Err f) some = tt

pub fault_planned : (refusal : Option Refusal) (r : Result Plan AdmitFault) → IfSome refusal (λ x. r ≡ Err (admissions.Refused x)) → (refusal ≡ None → IsOkUnless r admissions.Memory) →
    IfErr r (λ f. IsFault refusal f)
fault_planned refusal (Ok p) some memory = tt
fault_planned refusal (Err f) some memory = fault_told refusal (Err f) f refl some memory

-- ---- Faults

pub whole_planned : (f : AdmitFault) (front log : List LogStep) → IsWhole (of_admission f) front log
whole_planned (admissions.Refused refusal) front log = tt
whole_planned admissions.Memory front log = tt

pub unpublished : (input : ReadInput) (f : PostFault) (front : List LogStep) → refusal_of (length (list_of front)) input ≡ None → 0 < length (added_by input) → IsUnpublished f front → IsRefused input f front
unpublished input Closed front allowed some u = absurd u
unpublished input (Refused refusals.Ended) front allowed some u = inr u
unpublished input (Behind first) front allowed some u = record { allowed = allowed; some = some; full = u }
unpublished input Memory front allowed some u = tt
unpublished input _ front allowed some u = absurd u

pub unpublished_result : {T : Type 0} {W : Type 0} (input : ReadInput) (list : List Listed) (writer unchanged : W) (whole new : List LogStep) (r : Result T PostFault) → refusal_of (length list) input ≡ None → list ≡ list_of whole → 0 < length (added_by input) →
    OnErr r ((unchanged ≡ writer) × (new ≡ whole)) → IfErr r (λ e. IsUnpublished e new) → IfErr r (λ e. IsRefused input e new)
unpublished_result input list writer unchanged whole new (Ok x) allowed is some same u = tt
unpublished_result input list writer unchanged whole new (Err e) allowed is some same u =
    let there : list ≡ list_of new = is ∙ ap list_of (sym (same.1)) in
    unpublished input e new (subst (λ (xs : List Listed). refusal_of (length xs) input ≡ None) there allowed) some u

pub rejected : (most : ℕ) (input : ReadInput) (f : PostFault) (front : List LogStep) → IsRefused input f front → IsRejected most input f front
rejected most input TooManyMessages front r = absurd r
rejected most input _ front r = r

pub input_readable : (s : Submission) → IsReadable (input_of s)
input_readable (submission.Request r) = tt
input_readable (submission.Tick tick) = tt

pub ruleset planning = (allowed_planned, fault_planned, common_steps)
