-- Proves that the outs of answered connects are those of the definitions.
use Rattle.std.proofs.Common.{◌≡◌, ℕ, ◌+◌, ◌<◌, Bool, true, false, not, List, [], ◌∷◌, ◌++◌, length, map, filter, refl, sym, ap, subst, ◌∙◌, cond, arith, Option, Some, None, Ok, Result, option_map, append_assoc, append-nil, zero, suc, max, add-one, add-zero, zero-add}
use Rattle.std.specs.Prelude.{is_some, flat_map}
use Rattle.std.specs.List.{AllByRecursion}
use Rattle.std.proofs.lemmas.{List.map-append, List.Elements.filter-append}
use Rattle.bx_advice.specs.declared.config.Config.{Config}
use Rattle.bx_entry.specs.Words.{PlacedAnswer, answer, answer_in, ReadInput, Request, refusal_of, Listed, Registry, registry, Intake, answered_items, latest, numbers_from, outs, places_of, result_by, taken_in}
use Rattle.bx_entry.specs.Runs as runs
use Rattle.bx_entry.specs.declared.{input.Refusal.Refusal, entry.Slot.Slot}
use Rattle.bx_message.specs.declared.reply.{Answer.Answer, Item.Item}
use Rattle.bx_shard.specs.Words.{Setup, is_taken, given_of}
use Rattle.bx_world.specs.Worlds.{WorldState}
use Rattle.bx_fanout.specs.Words.{Row, items_of, outs_of, waits, Drained, filled, AreAnswers, NoneTakenFrom, given_at, next_place, response_of, AllUntaken, IsCollecting, IsGiving, bare, seen_out}
use Rattle.bx_fanout.specs.CurrentInputs as current
use Rattle.bx_theory.specs.Opens.{Numbered, answers_to, intake_as, is_whole, newest, open_after, out_of, waiting_at}
use Rattle.bx_theory.specs.Sole.{IsConnect}
use Rattle.bx_fanout.specs.declared.current_input.CurrentInput.{CurrentInput}
use Rattle.bx_theory.proofs.{Opens.input_stays_incomplete_until_completed, Opens.input_appends_outs_it_completes, Sole.incomplete_input_is_one_held_connect}

pub record IsSole (o : Numbered) : Type 0 where
  pub accepted : o.intake.refusal ≡ None
  pub sole : places_of o.intake o.intake.input ≡ o.intake.first ∷ []

pub all-sole : (config : Config) (list : List Listed) (os : List Numbered) → AllByRecursion (IsConnect config list) os → AllByRecursion IsSole os
all-sole config list [] all = tt
all-sole config list (o ∷ os) all = (record { accepted = all.0.accepted; sole = all.0.sole }, all-sole config list os all.1)

-- ---- One held connect

pub whole-sole : (config : Config) (r : Registry) (o : Numbered) → IsSole o → is_whole config r o ≡ is_some (latest 0 (answer_in config r o.intake.first ∷ []))
whole-sole config r o s = ap (λ (ps : List ℕ). is_some (latest 0 (map (answer_in config r) ps))) s.sole

result-sole : (config : Config) (r : Registry) (o : Numbered) (p : PlacedAnswer) → IsSole o → answer_in config r o.intake.first ≡ Some p → result_by (answers_to config r o) o.intake.refusal ≡ Ok (runs.items_of p)
result-sole config r o p s e =
    ap (λ (x : Option Refusal). result_by (answers_to config r o) x) s.accepted
    ∙ ap (λ (ps : List ℕ). result_by (map (answer_in config r) ps) None) s.sole
    ∙ ap (λ (x : Option PlacedAnswer). result_by (x ∷ []) None) e
    ∙ ap (λ (is : List Item). Ok is) (append-nil (runs.items_of p))

outs-head : (config : Config) (r : Registry) (o : Numbered) (rows : List Row) (os : List Numbered) → IsSole o → map seen_out (outs_of rows) ≡ map (out_of config r) (filter (is_whole config r) os) →
    (x : Option PlacedAnswer) → answer_in config r o.intake.first ≡ x → map seen_out (outs_of ((o.intake.first, record { number = o.number; answer = option_map given_of x }) ∷ rows))
    ≡ map (out_of config r) (cond (is_some (latest 0 (x ∷ []))) (o ∷ filter (is_whole config r) os) (filter (is_whole config r) os))
outs-head config r o rows os s ih None e = ih
outs-head config r o rows os s ih (Some p) e =
    let head : record { input = o.number; result = Ok (runs.items_of p) } ≡ out_of config r o = ap (λ (res : Result (List Item) Refusal). record { input = o.number; result = res }) (sym (result-sole config r o p s e)) in
    ap (λ (x : runs.Out). x ∷ map seen_out (outs_of rows)) head ∙ ap (λ (xs : List runs.Out). out_of config r o ∷ xs) ih

-- ---- All held connects

pub outs-sole : (config : Config) (list : List Listed) (os : List Numbered) → AllByRecursion IsSole os →
    map seen_out (outs_of (map (filled config list) (map bare os))) ≡ map (out_of config (registry config list)) (filter (is_whole config (registry config list)) os)
outs-sole config list [] all = refl
outs-sole config list (o ∷ os) all =
    let r : Registry = registry config list in
    outs-head config r o (map (filled config list) (map bare os)) os all.0 (outs-sole config list os all.1) (answer_in config r o.intake.first) refl
    ∙ ap (λ (b : Bool). map (out_of config r) (cond b (o ∷ filter (is_whole config r) os) (filter (is_whole config r) os))) (sym (whole-sole config r o all.0))

rest-head : (config : Config) (r : Registry) (o : Numbered) (rows : List Row) (os : List Numbered) → filter waits rows ≡ map bare (filter (λ (n : Numbered). not (is_whole config r n)) os) →
    (x : Option PlacedAnswer) → filter waits ((o.intake.first, record { number = o.number; answer = option_map given_of x }) ∷ rows)
    ≡ map bare (cond (not (is_some (latest 0 (x ∷ [])))) (o ∷ filter (λ (n : Numbered). not (is_whole config r n)) os) (filter (λ (n : Numbered). not (is_whole config r n)) os))
rest-head config r o rows os ih None = ap (λ (rs : List Row). bare o ∷ rs) ih
rest-head config r o rows os ih (Some p) = ih

pub rest-sole : (config : Config) (list : List Listed) (os : List Numbered) → AllByRecursion IsSole os →
    filter waits (map (filled config list) (map bare os)) ≡ map bare (filter (λ (n : Numbered). not (is_whole config (registry config list) n)) os)
rest-sole config list [] all = refl
rest-sole config list (o ∷ os) all =
    let r : Registry = registry config list in
    rest-head config r o (map (filled config list) (map bare os)) os (rest-sole config list os all.1) (answer_in config r o.intake.first)
    ∙ ap (λ (b : Bool). map bare (cond (not b) (o ∷ filter (λ (n : Numbered). not (is_whole config r n)) os) (filter (λ (n : Numbered). not (is_whole config r n)) os))) (sym (whole-sole config r o all.0))

untaken-head : (config : Config) (r : Registry) (taken : List ℕ) (o : Numbered) (os : List Numbered) → AllUntaken taken (filter (λ (n : Numbered). not (is_whole config r n)) os) → (x : Option PlacedAnswer) →
    (option_map given_of x ≡ None → is_taken taken o.intake.first ≡ false) → AllUntaken taken (cond (not (is_some (latest 0 (x ∷ [])))) (o ∷ filter (λ (n : Numbered). not (is_whole config r n)) os) (filter (λ (n : Numbered). not (is_whole config r n)) os))
untaken-head config r taken o os ih None here = (here refl, ih)
untaken-head config r taken o os ih (Some p) here = ih

pub untaken-sole : (config : Config) (list : List Listed) (taken : List ℕ) (os : List Numbered) → AllByRecursion IsSole os →
    AllByRecursion (λ (row : Row). given_at config list row.0 ≡ None → is_taken taken row.0 ≡ false) (map bare os) → AllUntaken taken (filter (λ (n : Numbered). not (is_whole config (registry config list) n)) os)
untaken-sole config list taken [] all none = tt
untaken-sole config list taken (o ∷ os) all none =
    let r : Registry = registry config list in
    subst (λ (b : Bool). AllUntaken taken (cond (not b) (o ∷ filter (λ (n : Numbered). not (is_whole config r n)) os) (filter (λ (n : Numbered). not (is_whole config r n)) os))) (sym (whole-sole config r o all.0))
    (untaken-head config r taken o os (untaken-sole config list taken os all.1 none.1) (answer_in config r o.intake.first) none.0)

-- ---- The last input

record Found (o : Option PlacedAnswer) (a : Answer) : Type 0 where
  answered : PlacedAnswer
  is : o ≡ Some answered
  given : given_of answered ≡ a

found-by : (o : Option PlacedAnswer) (a : Answer) → option_map given_of o ≡ Some a → Found o a
found-by None a e = cc
found-by (Some p) a e = record { answered = p; is = refl; given = let same : given_of p ≡ a = cc in same }

all-there : (config : Config) (list : List Listed) (place k : ℕ) (answers : List Answer) → AreAnswers config list place answers →
    is_some (latest k (map (answer_in config (registry config list)) (numbers_from place (length answers)))) ≡ true
all-there config list place k [] are = refl
all-there config list place k (a ∷ answers) are =
    let f = found-by (answer config list place) a are.0 in
    let rest : List (Option PlacedAnswer) = map (answer_in config (registry config list)) (numbers_from (place + 1) (length answers)) in
    ap (λ (x : Option PlacedAnswer). is_some (latest k (x ∷ rest))) f.is ∙ all-there config list (place + 1) (max k f.answered.place) answers are.1

items-there : (config : Config) (list : List Listed) (place : ℕ) (answers : List Answer) → AreAnswers config list place answers →
    answered_items (map (answer_in config (registry config list)) (numbers_from place (length answers))) ≡ flat_map items_of answers
items-there config list place [] are = refl
items-there config list place (a ∷ answers) are =
    let f = found-by (answer config list place) a are.0 in
    let rest : List (Option PlacedAnswer) = map (answer_in config (registry config list)) (numbers_from (place + 1) (length answers)) in
    ap (λ (x : Option PlacedAnswer). answered_items (x ∷ rest)) f.is
    ∙ ap (λ (is : List Item). runs.items_of f.answered ++ is) (items-there config list (place + 1) answers are.1)
    ∙ ap (λ (b : Answer). items_of b ++ flat_map items_of answers) f.given

missing-by : (x : Option PlacedAnswer) → option_map given_of x ≡ None → x ≡ None
missing-by x e = grind arith

one-missing : (config : Config) (list : List Listed) (place k m : ℕ) (answers : List Answer) → AreAnswers config list place answers → given_at config list (place + length answers) ≡ None →
    is_some (latest k (map (answer_in config (registry config list)) (numbers_from place (length answers + suc m)))) ≡ false
one-missing config list place k m [] are none =
    let here : answer config list place ≡ None = missing-by (answer config list place) (ap (given_at config list) (sym (add-zero place)) ∙ none) in
    let count : 0 + suc m ≡ suc m = zero-add (suc m) in
    ap (λ (n : ℕ). is_some (latest k (map (answer_in config (registry config list)) (numbers_from place n)))) count
    ∙ ap (λ (x : Option PlacedAnswer). is_some (latest k (x ∷ map (answer_in config (registry config list)) (numbers_from (place + 1) m)))) here
one-missing config list place k m (a ∷ answers) are none =
    let f = found-by (answer config list place) a are.0 in
    let rest : List (Option PlacedAnswer) = map (answer_in config (registry config list)) (numbers_from (place + 1) (length answers + suc m)) in
    let at : place + length (a ∷ answers) ≡ place + 1 + length answers = omega (arith, add-one (length answers)) in
    let count : length (a ∷ answers) + suc m ≡ suc (length answers + suc m) = omega (arith, add-one (length answers), add-one (length answers + suc m)) in
    ap (λ (n : ℕ). is_some (latest k (map (answer_in config (registry config list)) (numbers_from place n)))) count
    ∙ ap (λ (x : Option PlacedAnswer). is_some (latest k (x ∷ rest))) f.is
    ∙ one-missing config list (place + 1) (max k f.answered.place) m answers are.1 (ap (given_at config list) (sym at) ∙ none)

pub length-numbers : (place n : ℕ) → length (numbers_from place n) ≡ n
length-numbers place zero = refl
length-numbers place (suc n) = ap (λ (m : ℕ). suc m) (length-numbers (place + 1) n)

places-are : (d : Intake) (input : ReadInput) (n : ℕ) → n ≡ length (places_of d input) → places_of d input ≡ numbers_from d.first n
places-are d (Request moment nonce ms) n e = ap (numbers_from d.first) (sym (e ∙ length-numbers d.first d.count))
places-are d _ n e = ap (numbers_from d.first) (sym e)

pub intake-input : (len : ℕ) (input : ReadInput) (o : Option Refusal) → (intake_as len input o).input ≡ input
intake-input len input None = refl
intake-input len input (Some refusal) = refl

pub intake-first : (len : ℕ) (input : ReadInput) (o : Option Refusal) → (intake_as len input o).first ≡ len
intake-first len input None = refl
intake-first len input (Some refusal) = refl

answers-newest : (config : Config) (r : Registry) (inputs : List ReadInput) (input : ReadInput) (n : ℕ) → n ≡ length (places_of (newest inputs input).intake input) →
    answers_to config r (newest inputs input) ≡ map (answer_in config r) (numbers_from (length (taken_in inputs).list) n)
answers-newest config r inputs input n e =
    let len : ℕ = length (taken_in inputs).list in
    let d : Intake = (newest inputs input).intake in
    ap (λ (i : ReadInput). map (answer_in config r) (places_of d i)) (intake-input len input (refusal_of len input))
    ∙ ap (map (answer_in config r)) (places-are d input n e)
    ∙ ap (λ (p : ℕ). map (answer_in config r) (numbers_from p n)) (intake-first len input (refusal_of len input))

result-same : (answers : List (Option PlacedAnswer)) (items : List Item) (o : Option Refusal) → answered_items answers ≡ items → result_by answers o ≡ current.result_of items o
result-same answers items o e = grind arith

record Newly (config : Config) (r : Registry) (inputs : List ReadInput) (input : ReadInput) (n : CurrentInput) : Type 0 where
  whole : is_whole config r (newest inputs input) ≡ true
  out : seen_out (current.out_of n) ≡ out_of config r (newest inputs input)

newest-whole : (setup : Setup) (inputs : List ReadInput) (input : ReadInput) (w : WorldState) (rows : List Row) (n : CurrentInput) (added : List runs.Out) → IsCollecting setup inputs input w rows n added → n.slots.items ≡ [] →
    Newly setup.config (registry setup.config w.list) inputs input n
newest-whole setup inputs input w rows n added c none =
    let config : Config = setup.config in
    let r : Registry = registry config w.list in
    let len : ℕ = length (taken_in inputs).list in
    let no : length n.slots.items ≡ 0 = ap (λ (xs : List Slot). length xs) none in
    let many : length n.answers.items ≡ length (places_of (newest inputs input).intake input) = let e = c.many in omega arith in
    let are : AreAnswers config w.list len n.answers.items = subst (λ (p : ℕ). AreAnswers config w.list p n.answers.items) c.first c.collected.answers in
    let answers = answers-newest config r inputs input (length n.answers.items) many in
    let items : answered_items (answers_to config r (newest inputs input)) ≡ response_of n =
    ap answered_items answers ∙ items-there config w.list len n.answers.items are ∙ sym (ap (λ (is : List Item). is ++ flat_map items_of n.answers.items) c.items) in
    record {
      whole = ap (λ (os : List (Option PlacedAnswer)). is_some (latest 0 os)) answers ∙ all-there config w.list len 0 n.answers.items are;
      out =
          let result : current.result_of (response_of n) n.refusal ≡ result_by (answers_to config r (newest inputs input)) (newest inputs input).intake.refusal =
          ap (current.result_of (response_of n)) c.refusal ∙ sym (result-same (answers_to config r (newest inputs input)) (response_of n) (newest inputs input).intake.refusal items) in
          ap (λ (res : Result (List Item) Refusal). record { input = n.number; result = res }) result
          ∙ ap (λ (k : ℕ). record { input = k; result = result_by (answers_to config r (newest inputs input)) (newest inputs input).intake.refusal }) c.number;
    }

-- ---- The last input is complete

all-append : (os ps : List Numbered) → AllByRecursion IsSole os → AllByRecursion IsSole ps → AllByRecursion IsSole (os ++ ps)
all-append [] ps all more = more
all-append (o ∷ os) ps all more = (all.0, all-append os ps all.1 more)

none-more : (config : Config) (r : Registry) (os : List Numbered) (o : Numbered) → is_whole config r o ≡ true →
    filter (λ (n : Numbered). not (is_whole config r n)) (os ++ o ∷ []) ≡ filter (λ (n : Numbered). not (is_whole config r n)) os
none-more config r os o e =
    filter-append (λ (n : Numbered). not (is_whole config r n)) os (o ∷ [])
    ∙ ap (λ (b : Bool). filter (λ (n : Numbered). not (is_whole config r n)) os ++ cond (not b) (o ∷ []) []) e
    ∙ append-nil (filter (λ (n : Numbered). not (is_whole config r n)) os)

one-more : (config : Config) (r : Registry) (os : List Numbered) (o : Numbered) → is_whole config r o ≡ true → filter (is_whole config r) (os ++ o ∷ []) ≡ filter (is_whole config r) os ++ o ∷ []
one-more config r os o e = filter-append (is_whole config r) os (o ∷ []) ∙ ap (λ (b : Bool). filter (is_whole config r) os ++ cond b (o ∷ []) []) e

adds : (setup : Setup) (inputs : List ReadInput) (input : ReadInput) (list : List Listed) → 0 < setup.config.limits.batch → list ≡ (taken_in (inputs ++ input ∷ [])).list →
    outs setup.config (inputs ++ input ∷ []) ≡ outs setup.config inputs ++ map (out_of setup.config (registry setup.config list)) (filter (is_whole setup.config (registry setup.config list)) (waiting_at setup.config inputs input))
adds setup inputs input list batch same =
    subst (λ (ls : List Listed). outs setup.config (inputs ++ input ∷ []) ≡ outs setup.config inputs ++ map (out_of setup.config (registry setup.config ls)) (filter (is_whole setup.config (registry setup.config ls)) (waiting_at setup.config inputs input)))
    (sym same) (input_appends_outs_it_completes setup.config inputs input batch)

leaves : (setup : Setup) (inputs : List ReadInput) (input : ReadInput) (list : List Listed) → 0 < setup.config.limits.batch → list ≡ (taken_in (inputs ++ input ∷ [])).list →
    open_after setup.config (inputs ++ input ∷ []) ≡ filter (λ (n : Numbered). not (is_whole setup.config (registry setup.config list) n)) (waiting_at setup.config inputs input)
leaves setup inputs input list batch same =
    subst (λ (ls : List Listed). open_after setup.config (inputs ++ input ∷ []) ≡ filter (λ (n : Numbered). not (is_whole setup.config (registry setup.config ls) n)) (waiting_at setup.config inputs input))
    (sym same) (input_stays_incomplete_until_completed setup.config inputs input batch)

pub giving-whole : (setup : Setup) (inputs : List ReadInput) (input : ReadInput) (old w : WorldState) (rows after : List Row) (n : CurrentInput) (added : List runs.Out) → 0 < setup.config.limits.batch →
    IsCollecting setup inputs input old rows n added → n.slots.items ≡ [] → Drained setup old rows w after → IsGiving setup (inputs ++ input ∷ []) w after (seen_out (current.out_of n) ∷ []) added
giving-whole setup inputs input old w rows after n added batch c none d =
    let config : Config = setup.config in
    let r : Registry = registry config old.list in
    let opens : List Numbered = open_after config inputs in
    let sole : AllByRecursion IsSole opens = all-sole config (taken_in inputs).list opens (incomplete_input_is_one_held_connect config inputs batch) in
    let own = newest-whole setup inputs input old rows n added c none in
    let put : after ≡ map (filled config old.list) (map bare opens) = d.rows ∙ ap (map (filled config old.list)) c.held in
    let opened : open_after config (inputs ++ input ∷ []) ≡ filter (λ (o : Numbered). not (is_whole config r o)) opens = leaves setup inputs input old.list batch c.list ∙ none-more config r opens (newest inputs input) own.whole in
    record {
      list = d.list ∙ c.list;
      rest = ap (filter waits) put ∙ rest-sole config old.list opens sole ∙ ap (map bare) (sym opened);
      untaken =
          let held : AllByRecursion (λ (row : Row). given_at config old.list row.0 ≡ None → is_taken w.taken row.0 ≡ false) (map bare opens) =
          subst (AllByRecursion (λ (row : Row). given_at config old.list row.0 ≡ None → is_taken w.taken row.0 ≡ false)) c.held d.untaken in
          subst (AllUntaken w.taken) (sym opened) (untaken-sole config old.list w.taken opens sole held);
      fresh = subst (λ (ls : List Listed). NoneTakenFrom (length ls) w.taken) (sym d.list) d.fresh;
      left =
          ap (λ (os : List runs.Out). os ++ map seen_out (outs_of after) ++ (seen_out (current.out_of n) ∷ [])) c.outs_before
          ∙ ap (λ (rs : List Row). outs config inputs ++ map seen_out (outs_of rs) ++ (seen_out (current.out_of n) ∷ [])) put
          ∙ ap (λ (os : List runs.Out). outs config inputs ++ os ++ (seen_out (current.out_of n) ∷ [])) (outs-sole config old.list opens sole)
          ∙ ap (λ (x : runs.Out). outs config inputs ++ map (out_of config r) (filter (is_whole config r) opens) ++ x ∷ []) own.out
          ∙ append_assoc (outs config inputs) (map (out_of config r) (filter (is_whole config r) opens)) (out_of config r (newest inputs input) ∷ [])
          ∙ ap (λ (os : List runs.Out). outs config inputs ++ os) (sym (map-append (out_of config r) (filter (is_whole config r) opens) (newest inputs input ∷ [])))
          ∙ ap (λ (ns : List Numbered). outs config inputs ++ map (out_of config r) ns) (sym (one-more config r opens (newest inputs input) own.whole))
          ∙ sym (adds setup inputs input old.list batch c.list);
    }

-- ---- The last input is held

last-of : (config : Config) (list : List Listed) (os : List Numbered) (o : Numbered) → AllByRecursion (IsConnect config list) (os ++ o ∷ []) → IsConnect config list o
last-of config list [] o all = all.0
last-of config list (n ∷ os) o all = last-of config list os o all.1

more-than : (a b : ℕ) → 0 < b → (m : ℕ) × (a + b ≡ a + suc m)
more-than a zero some = absurd (omega arith)
more-than a (suc m) some = (m, refl)

newest-missing : (setup : Setup) (inputs : List ReadInput) (input : ReadInput) (w : WorldState) (rows : List Row) (n : CurrentInput) (added : List runs.Out) → IsCollecting setup inputs input w rows n added →
    0 < length n.slots.items → given_at setup.config w.list (next_place n) ≡ None → is_whole setup.config (registry setup.config w.list) (newest inputs input) ≡ false
newest-missing setup inputs input w rows n added c some missing =
    let config : Config = setup.config in
    let r : Registry = registry config w.list in
    let len : ℕ = length (taken_in inputs).list in
    let m = more-than (length n.answers.items) (length n.slots.items) some in
    let are : AreAnswers config w.list len n.answers.items = subst (λ (p : ℕ). AreAnswers config w.list p n.answers.items) c.first c.collected.answers in
    let none : given_at config w.list (len + length n.answers.items) ≡ None = ap (λ (p : ℕ). given_at config w.list (p + length n.answers.items)) (sym c.first) ∙ missing in
    ap (λ (os : List (Option PlacedAnswer)). is_some (latest 0 os)) (answers-newest config r inputs input (length n.answers.items + suc m.0) (sym m.1 ∙ c.many))
    ∙ one-missing config w.list len 0 m.0 n.answers.items are none

pub newest-sole : (setup : Setup) (inputs : List ReadInput) (input : ReadInput) (w : WorldState) (rows : List Row) (n : CurrentInput) (added : List runs.Out) → 0 < setup.config.limits.batch → IsCollecting setup inputs input w rows n added →
    0 < length n.slots.items → given_at setup.config w.list (next_place n) ≡ None → IsConnect setup.config w.list (newest inputs input)
newest-sole setup inputs input w rows n added batch c some missing =
    let config : Config = setup.config in
    let r : Registry = registry config w.list in
    let opens : List Numbered = open_after config inputs in
    let not-whole = newest-missing setup inputs input w rows n added c some missing in
    let opened : open_after config (inputs ++ input ∷ []) ≡ filter (λ (o : Numbered). not (is_whole config r o)) opens ++ newest inputs input ∷ [] =
    leaves setup inputs input w.list batch c.list ∙ filter-append (λ (o : Numbered). not (is_whole config r o)) opens (newest inputs input ∷ [])
    ∙ ap (λ (b : Bool). filter (λ (o : Numbered). not (is_whole config r o)) opens ++ cond (not b) (newest inputs input ∷ []) []) not-whole in
    let all : AllByRecursion (IsConnect config (taken_in (inputs ++ input ∷ [])).list) (filter (λ (o : Numbered). not (is_whole config r o)) opens ++ newest inputs input ∷ []) =
    subst (AllByRecursion (IsConnect config (taken_in (inputs ++ input ∷ [])).list)) opened (incomplete_input_is_one_held_connect config (inputs ++ input ∷ []) batch) in
    subst (λ (ls : List Listed). IsConnect config ls (newest inputs input)) (sym c.list) (last-of config (taken_in (inputs ++ input ∷ [])).list (filter (λ (o : Numbered). not (is_whole config r o)) opens) (newest inputs input) all)

pub giving-held : (setup : Setup) (inputs : List ReadInput) (input : ReadInput) (old w : WorldState) (rows after : List Row) (n : CurrentInput) (added : List runs.Out) → 0 < setup.config.limits.batch →
    IsCollecting setup inputs input old rows n added → 0 < length n.slots.items → given_at setup.config old.list (next_place n) ≡ None →
    Drained setup old (rows ++ (n.first, record { number = n.number; answer = None }) ∷ []) w after → IsGiving setup (inputs ++ input ∷ []) w after [] added
giving-held setup inputs input old w rows after n added batch c some missing d =
    let config : Config = setup.config in
    let r : Registry = registry config old.list in
    let opens : List Numbered = open_after config inputs in
    let connect = newest-sole setup inputs input old rows n added batch c some missing in
    let all : List Numbered = waiting_at config inputs input in
    let sole : AllByRecursion IsSole all =
    all-append opens (newest inputs input ∷ []) (all-sole config (taken_in inputs).list opens (incomplete_input_is_one_held_connect config inputs batch)) (record { accepted = connect.accepted; sole = connect.sole }, tt) in
    let len : ℕ = length (taken_in inputs).list in
    let last : (n.first, record { number = n.number; answer = None }) ≡ bare (newest inputs input) =
    ap (λ (p : ℕ). (p, record { number = n.number; answer = None })) (c.first ∙ sym (intake-first len input (refusal_of len input)))
    ∙ ap (λ (k : ℕ). ((newest inputs input).intake.first, record { number = k; answer = None })) c.number in
    let held : rows ++ (n.first, record { number = n.number; answer = None }) ∷ [] ≡ map bare all =
    ap (λ (rs : List Row). rs ++ (n.first, record { number = n.number; answer = None }) ∷ []) c.held ∙ ap (λ (row : Row). map bare opens ++ row ∷ []) last ∙ sym (map-append bare opens (newest inputs input ∷ [])) in
    let put : after ≡ map (filled config old.list) (map bare all) = d.rows ∙ ap (map (filled config old.list)) held in
    let opened = leaves setup inputs input old.list batch c.list in
    record {
      list = d.list ∙ c.list;
      rest = ap (filter waits) put ∙ rest-sole config old.list all sole ∙ ap (map bare) (sym opened);
      untaken =
          let none : AllByRecursion (λ (row : Row). given_at config old.list row.0 ≡ None → is_taken w.taken row.0 ≡ false) (map bare all) =
          subst (AllByRecursion (λ (row : Row). given_at config old.list row.0 ≡ None → is_taken w.taken row.0 ≡ false)) held d.untaken in
          subst (AllUntaken w.taken) (sym opened) (untaken-sole config old.list w.taken all sole none);
      fresh = subst (λ (ls : List Listed). NoneTakenFrom (length ls) w.taken) (sym d.list) d.fresh;
      left =
          append-nil (added ++ map seen_out (outs_of after))
          ∙ ap (λ (os : List runs.Out). os ++ map seen_out (outs_of after)) c.outs_before
          ∙ ap (λ (rs : List Row). outs config inputs ++ map seen_out (outs_of rs)) put
          ∙ ap (λ (os : List runs.Out). outs config inputs ++ os) (outs-sole config old.list all sole)
          ∙ sym (adds setup inputs input old.list batch c.list);
    }
