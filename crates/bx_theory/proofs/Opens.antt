-- Which inputs one more input completes, and which still have an unanswered message.
use Rattle.std.proofs.Common.{◌≡◌, ℕ, zero, suc, ◌+◌, ◌<◌, ◌≤◌, ⊎_elim, Bool, true, false, cond, not, ◌&&◌, is_some, is_none, Option, Some, None, List, [], ◌∷◌, ◌++◌, length, map, filter, flat_map, fold, nat_lt, refl, sym, ap, ◌∙◌, subst, arith, append-nil, length-append, ne_eqb, eq-eqb, lt-ltb}
use Rattle.std.proofs.lemmas.{Bool.cond-true, Bool.cases_lt, List.map-append, List.Elements.filter-append, List.Sums.fold-append, Grind.common_steps, Grind.flat_map-append}
use Rattle.std.specs.List.{position, position_or_len}
use Rattle.bx_advice.specs.declared.config.Config.{Config}
use Rattle.bx_entry.specs.Words.{Listed, Registry, registry, PlacedAnswer, answer_in, ReadInput, Request, refusal_of, added_by, Intake, Taking, taken_as, take_in, taken_in, Out, numbers_from, places_of, latest, has_place, whole_by, Whole, whole_of, wholes_from, wholes_in, wholes, is_at, whole_at, outs}
use Rattle.bx_entry.specs.declared.input.Refusal.{Refusal}
use Rattle.bx_theory.proofs.Wholes.{EachIntake, Took, took, beyond, AheadAll, ahead_all, latest_same, latest_later, where_first, where_late, where_none, nowhere, whole_push, wholes_split, whole_append, numbers_split, flat_same, Grows, grows, placed, ends_of, many_of}
use Rattle.bx_theory.specs.Opens.{Numbered, numbered_from, is_whole, out_of, registry_after, open_after, intake_as, newest, OutsAdd, OpensGoOn, OpenIsHeld}
use Rattle.bx_theory.proofs.Below.{answer_below, first_below}

-- ---- One more input

record Newly (t u : Taking) (d : Intake) : Type 0 where
  more : List Listed
  list : u.list ≡ t.list ++ more
  intake : u.intake ≡ t.intake ++ d ∷ []
  first : d.first ≡ length t.list
  end : d.first + d.count ≡ length u.list

newly : (t : Taking) (input : ReadInput) (o : Option Refusal) → Newly t (taken_as t input o) (intake_as (length t.list) input o)
newly t input None = record { more = added_by input; list = refl; intake = refl; first = refl; end = sym (length-append t.list (added_by input)) }
newly t input (Some refusal) = record { more = []; list = sym (append-nil t.list); intake = refl; first = refl; end = omega arith }

-- ---- The input at a place

has : (k : ℕ) (d : Intake) → d.first ≤ k → k < d.first + d.count → has_place k d ≡ true
has k d h l = grind (arith, common_steps)

where_here : (test : Intake → Bool) (ds : List Intake) (d : Intake) → test d ≡ true → position_or_len test (ds ++ d ∷ []) ≤ length ds
where_here test [] d g = grind (arith, common_steps)
where_here test (e ∷ ds) d g = grind (arith, common_steps, where_here test ds d)

position_there : (test : Intake → Bool) (ds : List Intake) → position_or_len test ds < length ds → position test ds ≡ Some (position_or_len test ds)
position_there test ds l = cond-true (nat_lt (position_or_len test ds) (length ds)) (Some (position_or_len test ds)) None (lt-ltb (position_or_len test ds) (length ds) l)

Covers : Taking → Type 0
Covers t = (k : ℕ) → k < length t.list → position_or_len (has_place k) t.intake < length t.intake

covers_step : (t u : Taking) (d : Intake) → Newly t u d → Covers t → Covers u
unfolding Covers
covers_step t u d n c = λ k h. subst (λ (ds : List Intake). position_or_len (has_place k) ds < length ds) (sym n.intake) (⊎_elim
    (λ l. omega (arith, where_first (has_place k) t.intake (d ∷ []) (c k l), c k l, length-append t.intake (d ∷ [])))
    (λ l. omega (arith, where_here (has_place k) t.intake d (has k d (omega (arith, n.first)) (omega (arith, n.end))), length-append t.intake (d ∷ [])))
    (cases_lt k (length t.list)))

covers_all : (t : Taking) (inputs : List ReadInput) → Covers t → Covers (fold take_in t inputs)
covers_all t [] c = c
covers_all t (i ∷ inputs) c = covers_all (take_in t i) inputs (covers_step t (take_in t i) _ (newly t i (refusal_of (length t.list) i)) c)

covers_none : Covers (record { list = []; intake = [] })
unfolding Covers
covers_none = λ k h. absurd (omega arith)

old_place : (t u : Taking) (d : Intake) (k : ℕ) → Newly t u d → Covers t → k < length t.list → is_at (length t.intake) (position (has_place k) u.intake) ≡ false
unfolding Covers
old_place t u d k n c l =
    let same : position_or_len (has_place k) (t.intake ++ d ∷ []) ≡ position_or_len (has_place k) t.intake = where_first (has_place k) t.intake (d ∷ []) (c k l) in
    let less : position_or_len (has_place k) t.intake < length t.intake = c k l in
    ap (λ (es : List Intake). is_at (length t.intake) (position (has_place k) es)) n.intake
    ∙ ap (is_at (length t.intake)) (position_there (has_place k) (t.intake ++ d ∷ []) (omega (arith, same, less, length-append t.intake (d ∷ []))))
    ∙ ne_eqb (position_or_len (has_place k) (t.intake ++ d ∷ [])) (length t.intake) (λ e. omega (arith, same, less, e))

late_place : (t u : Taking) (d : Intake) (k : ℕ) → Newly t u d → EachIntake (λ d. d.first + d.count ≤ length t.list) t.intake → length t.list ≤ k → k < length u.list →
    position (has_place k) u.intake ≡ Some (length t.intake)
late_place t u d k n ends h l =
    let here : position_or_len (has_place k) (t.intake ++ d ∷ []) ≤ length t.intake = where_here (has_place k) t.intake d (has k d (omega (arith, n.first)) (omega (arith, n.end))) in
    let late : length t.intake ≤ position_or_len (has_place k) (t.intake ++ d ∷ []) = where_late (has_place k) t.intake (d ∷ []) (where_none (has_place k) t.intake (nowhere (length t.list) k t.intake h ends)) in
    ap (position (has_place k)) n.intake
    ∙ position_there (has_place k) (t.intake ++ d ∷ []) (omega (arith, here, length-append t.intake (d ∷ [])))
    ∙ ap Some (let same : position_or_len (has_place k) (t.intake ++ d ∷ []) ≡ length t.intake = omega (arith, here, late) in same)

-- ---- Whether the newest input completes an input

record Round (f g : ℕ → Option PlacedAnswer) (intake : List Intake) (end last n : ℕ) : Type 0 where
  ahead : AheadAll end f g
  none : (p : ℕ) → end ≤ p → f p ≡ None
  low : (p : ℕ) (a : PlacedAnswer) → f p ≡ Some a → a.place < end
  high : (p : ℕ) (a : PlacedAnswer) → g p ≡ Some a → a.place < last
  old : (k : ℕ) → k < end → is_at n (position (has_place k) intake) ≡ false
  late : (k : ℕ) → end ≤ k → k < last → position (has_place k) intake ≡ Some n

was_open : (f g : ℕ → Option PlacedAnswer) (intake : List Intake) (end last n i p : ℕ) (ps : List ℕ) → Round f g intake end last n → latest 0 (map f (p ∷ ps)) ≡ None →
    is_at n (whole_by intake i (map g (p ∷ ps))) ≡ is_some (latest 0 (map g (p ∷ ps)))
was_open f g intake end last n i p ps r h =
    let P : Option ℕ → Type 0 = λ o. latest 0 (map g (p ∷ ps)) ≡ o → is_at n (placed intake o) ≡ is_some o in
    let at_none : P None = λ e. refl in
    let at_some : (k : ℕ) → P (Some k) = λ k e. ap (is_at n) (r.late k (latest_later end 0 0 k f g (p ∷ ps) r.ahead h e) (first_below last k g p ps r.high e)) ∙ eq-eqb n n refl in
    (elim (latest 0 (map g (p ∷ ps))) as P [ None ↦ at_none | Some k ↦ at_some k ]) refl

was_whole : (f g : ℕ → Option PlacedAnswer) (intake : List Intake) (end last n i p k : ℕ) (ps : List ℕ) → Round f g intake end last n → latest 0 (map f (p ∷ ps)) ≡ Some k →
    is_at n (whole_by intake i (map g (p ∷ ps))) ≡ false
was_whole f g intake end last n i p k ps r h =
    ap (λ (os : List (Option PlacedAnswer)). is_at n (whole_by intake i os)) (latest_same end 0 k f g (p ∷ ps) r.ahead h)
    ∙ ap (λ (o : Option ℕ). is_at n (placed intake o)) h
    ∙ r.old k (first_below end k f p ps r.low h)

earlier_at : (f g : ℕ → Option PlacedAnswer) (intake : List Intake) (end last n i : ℕ) (ps : List ℕ) → Round f g intake end last n → i < n →
    is_at n (whole_by intake i (map g ps)) ≡ (not (is_some (latest 0 (map f ps))) && is_some (latest 0 (map g ps)))
earlier_at f g intake end last n i [] r l = ne_eqb i n (λ e. omega arith)
earlier_at f g intake end last n i (p ∷ ps) r l =
    let P : Option ℕ → Type 0 = λ o. latest 0 (map f (p ∷ ps)) ≡ o → is_at n (whole_by intake i (map g (p ∷ ps))) ≡ (not (is_some o) && is_some (latest 0 (map g (p ∷ ps)))) in
    let at_none : P None = λ e. was_open f g intake end last n i p ps r e in
    let at_some : (k : ℕ) → P (Some k) = λ k e. was_whole f g intake end last n i p k ps r e in
    (elim (latest 0 (map f (p ∷ ps))) as P [ None ↦ at_none | Some k ↦ at_some k ]) refl

these_at : (f g : ℕ → Option PlacedAnswer) (intake : List Intake) (end last n first count : ℕ) → Round f g intake end last n → end ≤ first →
    is_at n (whole_by intake n (map g (numbers_from first count))) ≡ is_some (latest 0 (map g (numbers_from first count)))
these_at f g intake end last n first zero r h = eq-eqb n n refl
these_at f g intake end last n first (suc count) r h =
    was_open f g intake end last n n first (numbers_from (first + 1) count) r (ap (λ (o : Option PlacedAnswer). latest 0 (o ∷ map f (numbers_from (first + 1) count))) (r.none first h))

newest_at : (f g : ℕ → Option PlacedAnswer) (intake : List Intake) (end last n : ℕ) (d : Intake) (input : ReadInput) → Round f g intake end last n → end ≤ d.first →
    is_at n (whole_by intake n (map g (places_of d input))) ≡ is_some (latest 0 (map g (places_of d input)))
newest_at f g intake end last n d (Request moment nonce ms) r h = these_at f g intake end last n d.first d.count r h
newest_at f g intake end last n d _ r h = eq-eqb n n refl

-- ---- Filtering

twice_push : (p q : Numbered → Bool) (o : Numbered) (os : List Numbered) → filter p (filter q (o ∷ os)) ≡ cond (q o && p o) (o ∷ filter p (filter q os)) (filter p (filter q os))
twice_push p q o os = grind (arith, common_steps)

map_cond : {B : Type 0} (h : Numbered → B) (b : Bool) (o : Numbered) (os : List Numbered) → map h (cond b (o ∷ os) os) ≡ cond b (h o ∷ map h os) (map h os)
map_cond h b o os = grind (arith, common_steps)

filter_twice : (p q : Numbered → Bool) (os : List Numbered) → ((o : Numbered) → p o ≡ (q o && p o)) → filter p os ≡ filter p (filter q os)
filter_twice p q [] h = refl
filter_twice p q (o ∷ os) h = grind (arith, common_steps, h o, filter_twice p q os h)

-- ---- All inputs

numbered_split : (i : ℕ) (ds es : List Intake) → numbered_from i (ds ++ es) ≡ numbered_from i ds ++ numbered_from (i + length ds) es
numbered_split i [] es = ap (λ (n : ℕ). numbered_from n es) (let l : i ≡ i + 0 = omega arith in l)
numbered_split i (d ∷ ds) es = ap (λ (os : List Numbered). record { number = i; intake = d } ∷ os)
    (numbered_split (i + 1) ds es ∙ ap (λ (n : ℕ). numbered_from (i + 1) ds ++ numbered_from n es) (let l : i + 1 + length ds ≡ i + length (d ∷ ds) = omega arith in l))

earlier_outs : (config : Config) (r s : Registry) (intake : List Intake) (end last n i : ℕ) (ds : List Intake) → Round (answer_in config r) (answer_in config s) intake end last n → i + length ds ≤ n →
    whole_at n (wholes_from config s intake i ds) ≡ map (out_of config s) (filter (is_whole config s) (filter (λ (o : Numbered). not (is_whole config r o)) (numbered_from i ds)))
earlier_outs config r s intake end last n i [] k l = refl
earlier_outs config r s intake end last n i (d ∷ ds) k l =
    let o : Numbered = record { number = i; intake = d } in
    let p : Numbered → Bool = is_whole config s in
    let q : Numbered → Bool = λ (o : Numbered). not (is_whole config r o) in
    let os : List Numbered = numbered_from (i + 1) ds in
    let w : Whole = whole_of config s intake i d in
    whole_push n (whole_of config s intake i d) (wholes_from config s intake (i + 1) ds)
    ∙ ap (λ (b : Bool). cond b (w.out ∷ whole_at n (wholes_from config s intake (i + 1) ds)) (whole_at n (wholes_from config s intake (i + 1) ds)))
    (earlier_at (answer_in config r) (answer_in config s) intake end last n i (places_of d d.input) k (omega arith))
    ∙ ap (λ (xs : List Out). cond (q o && p o) (w.out ∷ xs) xs) (earlier_outs config r s intake end last n (i + 1) ds k (omega arith))
    ∙ sym (map_cond (out_of config s) (q o && p o) o (filter p (filter q os)))
    ∙ sym (ap (map (out_of config s)) (twice_push p q o os))

newest_outs : (config : Config) (r s : Registry) (intake : List Intake) (end last n : ℕ) (d : Intake) → Round (answer_in config r) (answer_in config s) intake end last n → end ≤ d.first →
    whole_at n (wholes_from config s intake n (d ∷ [])) ≡ map (out_of config s) (filter (is_whole config s) (record { number = n; intake = d } ∷ []))
newest_outs config r s intake end last n d k l =
    let o : Numbered = record { number = n; intake = d } in
    let w : Whole = whole_of config s intake n d in
    whole_push n (whole_of config s intake n d) []
    ∙ ap (λ (b : Bool). cond b (w.out ∷ []) []) (newest_at (answer_in config r) (answer_in config s) intake end last n d d.input k l)
    ∙ sym (map_cond (out_of config s) (is_whole config s o) o [])

-- ---- Runs

covers_of : (inputs : List ReadInput) → Covers (taken_in inputs)
covers_of inputs = covers_all (record { list = []; intake = [] }) inputs covers_none

taken_more : (inputs more : List ReadInput) → taken_in (inputs ++ more) ≡ fold take_in (taken_in inputs) more
taken_more inputs more = fold-append take_in (record { list = []; intake = [] }) inputs more

newly_of : (inputs : List ReadInput) (input : ReadInput) → Newly (taken_in inputs) (taken_in (inputs ++ input ∷ [])) (newest inputs input).intake
newly_of inputs input =
    let t : Taking = taken_in inputs in
    subst (λ (u : Taking). Newly (taken_in inputs) u (newest inputs input).intake) (sym (taken_more inputs (input ∷ []))) (newly t input (refusal_of (length t.list) input))

round_of : (config : Config) (t u : Taking) (d : Intake) → 0 < config.limits.batch → Newly t u d → Covers t → EachIntake (λ d. d.first + d.count ≤ length t.list) t.intake →
    Round (answer_in config (registry config t.list)) (answer_in config (registry config u.list)) u.intake (length t.list) (length u.list) (length t.intake)
round_of config t u d room n c ends = record {
  ahead = subst (λ (xs : List Listed). AheadAll (length t.list) (answer_in config (registry config t.list)) (answer_in config (registry config xs))) (sym n.list) (ahead_all config t.list n.more room);
  none = λ p h. beyond config t.list p h;
  low = λ p a e. answer_below config t.list p a room e;
  high = λ p a e. answer_below config u.list p a room e;
  old = λ k l. old_place t u d k n c l;
  late = λ k h l. late_place t u d k n ends h l;
}

round_outs : (config : Config) (t u : Taking) (d : Intake) → 0 < config.limits.batch → Newly t u d → Covers t → EachIntake (λ d. d.first + d.count ≤ length t.list) t.intake →
    whole_at (length t.intake) (wholes_in config u) ≡ map (out_of config (registry config u.list)) (filter (is_whole config (registry config u.list))
    (filter (λ (o : Numbered). not (is_whole config (registry config t.list) o)) (numbered_from 0 t.intake) ++ record { number = length t.intake; intake = d } ∷ []))
round_outs config t u d room n c ends =
    let r : Registry = registry config t.list in
    let s : Registry = registry config u.list in
    let j : ℕ = length t.intake in
    let k : Round (answer_in config (registry config t.list)) (answer_in config (registry config u.list)) u.intake (length t.list) (length u.list) (length t.intake) = round_of config t u d room n c ends in
    let opens : List Numbered = filter (λ (o : Numbered). not (is_whole config r o)) (numbered_from 0 t.intake) in
    let new : Numbered = record { number = j; intake = d } in
    ap (λ (ds : List Intake). whole_at j (wholes_from config s u.intake 0 ds)) n.intake
    ∙ ap (whole_at j) (wholes_split config s u.intake 0 t.intake (d ∷ []))
    ∙ whole_append j (wholes_from config s u.intake 0 t.intake) (wholes_from config s u.intake (0 + length t.intake) (d ∷ []))
    ∙ ap (λ (os : List Out). os ++ whole_at j (wholes_from config s u.intake (0 + length t.intake) (d ∷ []))) (earlier_outs config r s u.intake (length t.list) (length u.list) j 0 t.intake k (omega arith))
    ∙ ap (λ (i : ℕ). map (out_of config s) (filter (is_whole config s) opens) ++ whole_at j (wholes_from config s u.intake i (d ∷ []))) (let l : 0 + length t.intake ≡ length t.intake = omega arith in l)
    ∙ ap (λ (os : List Out). map (out_of config s) (filter (is_whole config s) opens) ++ os) (newest_outs config r s u.intake (length t.list) (length u.list) j d k (omega (arith, n.first)))
    ∙ sym (map-append (out_of config s) (filter (is_whole config s) opens) (filter (is_whole config s) (new ∷ [])))
    ∙ sym (ap (map (out_of config s)) (filter-append (is_whole config s) opens (new ∷ [])))

pub input_appends_outs_it_completes : OutsAdd
input_appends_outs_it_completes config inputs input room =
    let t : Taking = taken_in inputs in
    let more : List ReadInput = input ∷ [] in
    let n : ℕ = length inputs in
    let s : Registry = registry_after config (inputs ++ input ∷ []) in
    let F : ℕ → List Out = λ j. whole_at j (wholes config (inputs ++ input ∷ [])) in
    let G : ℕ → List Out = λ j. whole_at j (wholes config inputs) in
    let m : Took (taken_in inputs) (taken_in (inputs ++ input ∷ [])) 1 = subst (λ (v : Taking). Took (taken_in inputs) v 1) (sym (taken_more inputs more)) (took (taken_in inputs) more) in
    let g : Grows config (taken_in inputs) (taken_in (inputs ++ input ∷ [])) (length inputs) = grows config (taken_in inputs) (taken_in (inputs ++ input ∷ [])) (length inputs) 1 room (many_of inputs) (ends_of inputs) m in
    ap (λ (c : ℕ). flat_map F (numbers_from 0 c)) (length-append inputs more)
    ∙ ap (flat_map F) (numbers_split 0 n 1)
    ∙ flat_map-append F (numbers_from 0 n) (numbers_from (0 + n) 1)
    ∙ ap (λ (os : List Out). os ++ flat_map F (numbers_from (0 + n) 1)) (flat_same n F G 0 n (omega arith) g.same)
    ∙ ap (λ (os : List Out). outs config inputs ++ os) (append-nil (F (0 + n)) ∙ ap F (let l : 0 + n ≡ length t.intake = omega (arith, many_of inputs) in l)
    ∙ round_outs config (taken_in inputs) (taken_in (inputs ++ input ∷ [])) (newest inputs input).intake room (newly_of inputs input) (covers_of inputs) (ends_of inputs)
    ∙ ap (λ (i : ℕ). map (out_of config s) (filter (is_whole config s) (open_after config inputs ++ record { number = i; intake = (newest inputs input).intake } ∷ []))) (many_of inputs))

-- ---- Inputs that stay incomplete

stays_whole : (end : ℕ) (f g : ℕ → Option PlacedAnswer) (ps : List ℕ) → AheadAll end f g →
    not (is_some (latest 0 (map g ps))) ≡ (not (is_some (latest 0 (map f ps))) && not (is_some (latest 0 (map g ps))))
stays_whole end f g ps a = grind (arith, common_steps, latest_same end 0)

round_opens : (config : Config) (t u : Taking) (d : Intake) → 0 < config.limits.batch → Newly t u d →
    filter (λ (o : Numbered). not (is_whole config (registry config u.list) o)) (numbered_from 0 u.intake)
    ≡ filter (λ (o : Numbered). not (is_whole config (registry config u.list) o)) (filter (λ (o : Numbered). not (is_whole config (registry config t.list) o)) (numbered_from 0 t.intake) ++ record { number = length t.intake; intake = d } ∷ [])
round_opens config t u d room n =
    let r : Registry = registry config t.list in
    let s : Registry = registry config u.list in
    let j : ℕ = length t.intake in
    let p : Numbered → Bool = λ (o : Numbered). not (is_whole config s o) in
    let q : Numbered → Bool = λ (o : Numbered). not (is_whole config r o) in
    let new : Numbered = record { number = j; intake = d } in
    let os : List Numbered = numbered_from 0 t.intake in
    let ahead : AheadAll (length t.list) (answer_in config (registry config t.list)) (answer_in config (registry config u.list)) =
    subst (λ (xs : List Listed). AheadAll (length t.list) (answer_in config (registry config t.list)) (answer_in config (registry config xs))) (sym n.list) (ahead_all config t.list n.more room) in
    ap (λ (ds : List Intake). filter p (numbered_from 0 ds)) n.intake
    ∙ ap (filter p) (numbered_split 0 t.intake (d ∷ []))
    ∙ ap (λ (i : ℕ). filter p (os ++ record { number = i; intake = d } ∷ [])) (let l : 0 + length t.intake ≡ length t.intake = omega arith in l)
    ∙ filter-append p os (new ∷ [])
    ∙ ap (λ (xs : List Numbered). xs ++ filter p (new ∷ [])) (filter_twice p q os (λ o. stays_whole (length t.list) (answer_in config r) (answer_in config s) (places_of o.intake o.intake.input) ahead))
    ∙ sym (filter-append p (filter q os) (new ∷ []))

pub input_stays_incomplete_until_completed : OpensGoOn
input_stays_incomplete_until_completed config inputs input room =
    let s : Registry = registry_after config (inputs ++ input ∷ []) in
    round_opens config (taken_in inputs) (taken_in (inputs ++ input ∷ [])) (newest inputs input).intake room (newly_of inputs input)
    ∙ ap (λ (i : ℕ). filter (λ (o : Numbered). not (is_whole config s o)) (open_after config inputs ++ record { number = i; intake = (newest inputs input).intake } ∷ [])) (many_of inputs)

-- ---- Held inputs

record Standing (f : ℕ → Option PlacedAnswer) (intake : List Intake) (end : ℕ) : Type 0 where
  low : (p : ℕ) (a : PlacedAnswer) → f p ≡ Some a → a.place < end
  some : (k : ℕ) → k < end → is_none (position (has_place k) intake) ≡ false

none_at : (f : ℕ → Option PlacedAnswer) (intake : List Intake) (end i : ℕ) (ps : List ℕ) → Standing f intake end → is_none (whole_by intake i (map f ps)) ≡ not (is_some (latest 0 (map f ps)))
none_at f intake end i [] s = refl
none_at f intake end i (p ∷ ps) s = grind (arith, common_steps, s.some, first_below end)

held_push : (w : Whole) (ws : List Whole) → map (λ (w : Whole). w.out.input) (filter (λ (w : Whole). is_none w.at) (w ∷ ws))
    ≡ cond (is_none w.at) (w.out.input ∷ map (λ (w : Whole). w.out.input) (filter (λ (w : Whole). is_none w.at) ws)) (map (λ (w : Whole). w.out.input) (filter (λ (w : Whole). is_none w.at) ws))
held_push w ws = grind (arith, common_steps)

held_from : (config : Config) (r : Registry) (intake : List Intake) (end i : ℕ) (ds : List Intake) → Standing (answer_in config r) intake end →
    map (λ (w : Whole). w.out.input) (filter (λ (w : Whole). is_none w.at) (wholes_from config r intake i ds)) ≡ map (λ (o : Numbered). o.number) (filter (λ (o : Numbered). not (is_whole config r o)) (numbered_from i ds))
held_from config r intake end i [] s = refl
held_from config r intake end i (d ∷ ds) s =
    let o : Numbered = record { number = i; intake = d } in
    let q : Numbered → Bool = λ (o : Numbered). not (is_whole config r o) in
    let ws : List ℕ = map (λ (w : Whole). w.out.input) (filter (λ (w : Whole). is_none w.at) (wholes_from config r intake (i + 1) ds)) in
    held_push (whole_of config r intake i d) (wholes_from config r intake (i + 1) ds)
    ∙ ap (λ (b : Bool). cond b (i ∷ ws) ws) (none_at (answer_in config r) intake end i (places_of d d.input) s)
    ∙ ap (λ (xs : List ℕ). cond (q o) (i ∷ xs) xs) (held_from config r intake end (i + 1) ds s)
    ∙ sym (map_cond (λ (o : Numbered). o.number) (q o) o (filter q (numbered_from (i + 1) ds)))

standing_of : (config : Config) (t : Taking) → 0 < config.limits.batch → Covers t → Standing (answer_in config (registry config t.list)) t.intake (length t.list)
unfolding Covers
standing_of config t room c = record {
  low = λ p a e. answer_below config t.list p a room e;
  some = λ k l. ap is_none (position_there (has_place k) t.intake (c k l));
}

pub incomplete_inputs_are_reported_held : OpenIsHeld
incomplete_inputs_are_reported_held config inputs room =
    let t : Taking = taken_in inputs in
    held_from config (registry config t.list) t.intake (length t.list) 0 t.intake (standing_of config t room (covers_of inputs))
