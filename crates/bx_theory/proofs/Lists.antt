-- The registry grows with the list, and answers stay.
use Rattle.std.proofs.Common.{◌≡◌, ℕ, zero, suc, ◌+◌, ◌<◌, ◌≤◌, ⊎_elim, Bool, true, Option, Some, None, List, [], ◌∷◌, ◌++◌, length, take, drop, map, find, fold, option_map, slice_get, ◌==◌, refl, sym, ap, ◌∙◌, subst, arith, eqb-true, length-take, take-append-drop, take_all}
use Rattle.std.proofs.lemmas.{Bool.cases_lt, List.length-map, List.length_push, List.Sums.fold-append, List.Folds.find-append, Option.slice_get_within, Grind.common_steps}
use Rattle.std.proofs.Math.Seq.{take-append_seam}
use Rattle.std.specs.Option.{option_or}
use Rattle.bx_advice.specs.declared.config.Config.{Config}
use Rattle.bx_entry.specs.Words.{Listed, Registry, Judged, PlaceSlot, Ready, Waiting, NoSlot, judge, registry, empty_registry, entries_of, Filed, step, session, unopened, PlacedAnswer, answer_of, filed_for, answer_by, answer_at, answer}
use Rattle.bx_entry.specs.declared.entry.Entry.{Entry}
use Rattle.bx_theory.proofs.Verdicts.{entries_after, found_from, judge_is, judged_after, next_found}
pub use Rattle.bx_theory.proofs.Verdicts.{judged_length}
use Rattle.bx_theory.specs.Laws.{Each, AnswersStay, PlacesFrom, EntriesInOrder}
use Rattle.bx_theory.proofs.{Counts.all_in_step, Counts.unopened_in_step, Runs.Grown, Runs.run_grown, Runs.EachEntry, Runs.all_places}
use Rattle.bx_theory.proofs.Places.{Only, run_only, only_unopened, all_allowed}

abbrev entry_of : Judged → Entry
entry_of j = j.entry

-- ---- Finding

pub find_each : (P : Filed → Type 0) (test : Filed → Bool) (fs : List Filed) (f : Filed) → find test fs ≡ Some f → Each P fs → P f
find_each P test [] f e d = cc
find_each P test (g ∷ gs) f e d = grind (arith, common_steps, find_each P test gs f)

slice_get_more : (xs ys : List Judged) (k : ℕ) (j : Judged) → slice_get xs k ≡ Some j → slice_get (xs ++ ys) k ≡ Some j
slice_get_more [] ys k j e = cc
slice_get_more (x ∷ xs) ys zero j e = e
slice_get_more (x ∷ xs) ys (suc k) j e = slice_get_more xs ys k j e

pub slice_get_less : {A : Type 0} (xs ys : List A) (k : ℕ) → k < length xs → slice_get (xs ++ ys) k ≡ slice_get xs k
slice_get_less [] ys k h = absurd (omega arith)
slice_get_less (x ∷ xs) ys zero h = refl
slice_get_less (x ∷ xs) ys (suc k) h = slice_get_less xs ys k (omega arith)

-- ---- An answer over a longer list

find_more : (test : Filed → Bool) (fs gs : List Filed) (a : PlacedAnswer) → option_map answer_of (find test fs) ≡ Some a → option_map answer_of (find test (fs ++ gs)) ≡ Some a
find_more test fs gs a e =
    let P : Option Filed → Type 0 = λ o. option_map answer_of o ≡ Some a → option_map answer_of (option_or o (find test gs)) ≡ Some a in
    let here : P (find test fs) = (elim (find test fs) as P [ None ↦ λ n. cc | Some f ↦ λ n. n ]) in
    ap (option_map answer_of) (find-append test fs gs) ∙ here e

session_more : (config : Config) (number : ℕ) (es more : List Entry) → session config number (es ++ more) ≡ fold (step config) (session config number es) more
session_more config number es more = fold-append (step config) (unopened number) es more

session_grown : (config : Config) (number first : ℕ) (es more : List Entry) → 0 < config.limits.batch → EachEntry (λ e. first ≤ e.place) more → Grown first (session config number es) (session config number (es ++ more))
session_grown config number first es more room d =
    subst (Grown first (session config number es)) (sym (session_more config number es more))
    (run_grown config first (session config number es) more room (all_in_step config (unopened number) es room (unopened_in_step config number)) d)

filed_more : (config : Config) (number place : ℕ) (es more : List Entry) (a : PlacedAnswer) → 0 < config.limits.batch →
    filed_for place (session config number es).answers ≡ Some a → filed_for place (session config number (es ++ more)).answers ≡ Some a
filed_more config number place es more a room e =
    let g : Grown 0 (session config number es) (session config number (es ++ more)) = session_grown config number 0 es more room (all_places more) in
    ap (filed_for place) g.answers ∙ find_more (λ (f : Filed). f.connect == place) (session config number es).answers g.filed a e

answer_by_more : (config : Config) (es more : List Entry) (place : ℕ) (slot : PlaceSlot) (a : PlacedAnswer) → 0 < config.limits.batch → answer_by config es place slot ≡ Some a → answer_by config (es ++ more) place slot ≡ Some a
answer_by_more config es more place (Waiting number) a room e = filed_more config number place es more a room e
answer_by_more config es more place _ a room e = e

answer_at_more : (config : Config) (es more : List Entry) (place : ℕ) (o u : Option Judged) (a : PlacedAnswer) → 0 < config.limits.batch → ((j : Judged) → o ≡ Some j → u ≡ Some j) →
    answer_at config es place o ≡ Some a → answer_at config (es ++ more) place u ≡ Some a
answer_at_more config es more place None u a room h e = cc
answer_at_more config es more place (Some j) u a room h e = ap (answer_at config (es ++ more) place) (h j refl) ∙ answer_by_more config es more place j.slot a room e

pub judged_more : (config : Config) (xs ys : List Listed) (place : ℕ) (j : Judged) → slice_get (registry config xs).judged place ≡ Some j → slice_get (registry config (xs ++ ys)).judged place ≡ Some j
judged_more config xs ys place k e =
    ap (λ (js : List Judged). slice_get js place) (judged_after config xs ys) ∙ slice_get_more (registry config xs).judged (found_from config (registry config xs) ys) place k e

pub answer_more : (config : Config) (xs ys : List Listed) (place : ℕ) (a : PlacedAnswer) → 0 < config.limits.batch → answer config xs place ≡ Some a → answer config (xs ++ ys) place ≡ Some a
answer_more config xs ys place a room e =
    let r : Registry = registry config xs in
    let t : Registry = registry config (xs ++ ys) in
    ap (λ (es : List Entry). answer_at config es place (slice_get t.judged place)) (entries_after config xs ys)
    ∙ answer_at_more config (entries_of r) (map entry_of (found_from config r ys)) place (slice_get r.judged place) (slice_get t.judged place) a room (judged_more config xs ys place) e

-- ---- An answer over a shorter list

pub find_true : {X : Type 0} (test : X → Bool) (fs : List X) (f : X) → find test fs ≡ Some f → test f ≡ true
find_true test [] f e = cc
find_true test (g ∷ gs) f e = grind (arith, common_steps, find_true test gs f)

places_above : (first n : ℕ) (es : List Entry) → first ≤ n → PlacesFrom n es → EachEntry (λ e. first ≤ e.place) es
places_above first n [] h d = tt
places_above first n (e ∷ es) h d = (omega (arith, d.0), places_above first (n + 1) es (omega arith) d.1)

pub entries_length : (config : Config) (xs : List Listed) → length (entries_of (registry config xs)) ≡ length xs
entries_length config xs = length-map (registry config xs).judged entry_of ∙ judged_length config xs

pub place_within : (config : Config) (list : List Listed) (n : ℕ) (e : Entry) → slice_get (entries_of (registry config list)) n ≡ Some e → n < length list
place_within config list n e h = let l : n < length (entries_of (registry config list)) = slice_get_within (entries_of (registry config list)) n e h in omega (arith, l, entries_length config list)

pub entries_within : (config : Config) (list : List Listed) (n : ℕ) → n ≤ length list → entries_of (registry config (take n list)) ≡ take n (entries_of (registry config list))
entries_within config list n h =
    let es : List Entry = entries_of (registry config (take n list)) in
    let rest : List Entry = map entry_of (found_from config (registry config (take n list)) (drop n list)) in
    let count : length (entries_of (registry config (take n list))) ≡ n = omega (arith, entries_length config (take n list), length-take n list) in
    sym (ap (λ (zs : List Listed). take n (entries_of (registry config zs))) (sym (take-append-drop n list)) ∙ ap (take n) (entries_after config (take n list) (drop n list))
    ∙ ap (λ (k : ℕ). take k (es ++ rest)) (sym count) ∙ take-append_seam es rest)

found_places : (config : Config) (r : Registry) (xs : List Listed) → PlacesFrom (length r.judged) (map entry_of (found_from config r xs))
found_places config r [] = tt
found_places config r (x ∷ xs) =
    let many : length (judge config r x).judged ≡ length r.judged + 1 = ap (λ (t : Registry). length t.judged) (judge_is config r x) ∙ length_push r.judged (next_found config r x) in
    (refl, subst (λ (n : ℕ). PlacesFrom n (map entry_of (found_from config (judge config r x) xs))) many (found_places config (judge config r x) xs))

pub entries_in_order : EntriesInOrder
entries_in_order config list = subst (PlacesFrom 0) (sym (ap (map entry_of) (judged_after config [] list))) (found_places config empty_registry list)

answered_within : (config : Config) (number : ℕ) (xs : List Listed) → Only (λ n. n < length xs) (session config number (entries_of (registry config xs)))
answered_within config number xs =
    run_only config (λ n. n < length xs) number (unopened number) (entries_of (registry config xs)) refl
    (all_allowed (length xs) number 0 (entries_of (registry config xs)) (let l = entries_length config xs in omega arith) (entries_in_order config xs)) (only_unopened (λ n. n < length xs) number)

record Shared (config : Config) (xs : List Listed) (r t : Registry) : Type 0 where
  more : List Judged
  judged : t.judged ≡ r.judged ++ more
  many : length r.judged ≡ length xs
  before : (number : ℕ) → Only (λ n. n < length xs) (session config number (entries_of r))
  grown : (number : ℕ) → Grown (length xs) (session config number (entries_of r)) (session config number (entries_of t))

shared : (config : Config) (xs ys : List Listed) → 0 < config.limits.batch → Shared config xs (registry config xs) (registry config (xs ++ ys))
shared config xs ys room =
    let r : Registry = registry config xs in
    let more : List Judged = found_from config (registry config xs) ys in
    let above : EachEntry (λ e. length xs ≤ e.place) (map entry_of (found_from config (registry config xs) ys)) = places_above (length xs) (length r.judged) (map entry_of more) (let l = judged_length config xs in omega arith) (found_places config r ys) in
    record {
      more = more;
      judged = judged_after config xs ys;
      many = judged_length config xs;
      before = λ number. answered_within config number xs;
      grown = λ number. subst (λ (es : List Entry). Grown (length xs) (session config number (entries_of r)) (session config number es)) (sym (entries_after config xs ys))
          (session_grown config number (length xs) (entries_of r) (map entry_of more) room above);
    }

record FoundThere (place : ℕ) (count : ℕ) (fs : List Filed) (a : PlacedAnswer) : Type 0 where
  there : filed_for place fs ≡ Some a
  within : place < count

found_there : (place count : ℕ) (fs gs : List Filed) (a : PlacedAnswer) → a.place < count → Each (λ f. f.connect < count) fs → Each (λ f. count ≤ f.place) gs →
    filed_for place (fs ++ gs) ≡ Some a → FoundThere place count fs a
found_there place count fs gs a h b d e =
    let test : Filed → Bool = λ f. f.connect == place in
    let whole : option_map answer_of (option_or (find test fs) (find test gs)) ≡ Some a = sym (ap (option_map answer_of) (find-append test fs gs)) ∙ e in
    let late : (o : Option Filed) → find test gs ≡ o → option_map answer_of o ≡ Some a → ⊥ =
    elim [
      | None ↦ λ s n. cc
      | Some f ↦ λ s n. let same : answer_of f ≡ a = cc in let p : f.place ≡ a.place = ap (λ (x : PlacedAnswer). x.place) same in
          let q : count ≤ f.place = find_each (λ g. count ≤ g.place) test gs f s d in let l : a.place < a.place = omega arith in omega arith
    ] in
    let P : Option Filed → Type 0 = λ o. find test fs ≡ o → option_map answer_of (option_or o (find test gs)) ≡ Some a → FoundThere place count fs a in
    let at_none : P None = λ s n. absurd (late (find test gs) refl n) in
    let at_some : (f : Filed) → P (Some f) = λ f s n. record {
      there = ap (option_map answer_of) s ∙ n;
      within = let c : f.connect < count = find_each (λ g. g.connect < count) test fs f s b in let k : f.connect ≡ place = eqb-true f.connect place (find_true test fs f s) in omega arith;
    } in
    (elim (find test fs) as P [ None ↦ at_none | Some f ↦ at_some f ]) refl whole

answer_by_less : (config : Config) (xs : List Listed) (r t : Registry) (place : ℕ) (k : Judged) (a : PlacedAnswer) (slot : PlaceSlot) → Shared config xs r t → a.place < length xs →
    slice_get t.judged place ≡ Some k → k.slot ≡ slot → answer_by config (entries_of t) place slot ≡ Some a → answer_at config (entries_of r) place (slice_get r.judged place) ≡ Some a
answer_by_less config xs r t place k a (Ready reply) s h g e n =
    let p : place ≡ a.place = ap (λ (o : Option PlacedAnswer). elim o [ None ↦ 0 | Some x ↦ x.place ]) n in
    let l : place < length r.judged = omega (arith, s.many) in
    ap (answer_at config (entries_of r) place) (sym (slice_get_less r.judged s.more place l) ∙ sym (ap (λ (js : List Judged). slice_get js place) s.judged) ∙ g)
    ∙ ap (answer_by config (entries_of r) place) e ∙ n
answer_by_less config xs r t place k a (Waiting number) s h g e n =
    let w : Grown (length xs) (session config number (entries_of r)) (session config number (entries_of t)) = s.grown number in
    let f : FoundThere place (length xs) (session config number (entries_of r)).answers a = found_there place (length xs) (session config number (entries_of r)).answers w.filed a h (s.before number).answers w.here (sym (ap (filed_for place) w.answers) ∙ n) in
    let l : place < length r.judged = omega (arith, s.many, f.within) in
    ap (answer_at config (entries_of r) place) (sym (slice_get_less r.judged s.more place l) ∙ sym (ap (λ (js : List Judged). slice_get js place) s.judged) ∙ g)
    ∙ ap (answer_by config (entries_of r) place) e ∙ f.there
answer_by_less config xs r t place k a NoSlot s h g e n = cc

answer_at_less : (config : Config) (xs : List Listed) (r t : Registry) (place : ℕ) (a : PlacedAnswer) (o : Option Judged) → Shared config xs r t → a.place < length xs →
    slice_get t.judged place ≡ o → answer_at config (entries_of t) place o ≡ Some a → answer_at config (entries_of r) place (slice_get r.judged place) ≡ Some a
answer_at_less config xs r t place a None s h g n = cc
answer_at_less config xs r t place a (Some k) s h g n = answer_by_less config xs r t place k a k.slot s h g refl n

pub answer_less : (config : Config) (xs ys : List Listed) (place : ℕ) (a : PlacedAnswer) → 0 < config.limits.batch → a.place < length xs → answer config (xs ++ ys) place ≡ Some a → answer config xs place ≡ Some a
answer_less config xs ys place a room h e =
    answer_at_less config xs (registry config xs) (registry config (xs ++ ys)) place a (slice_get (registry config (xs ++ ys)).judged place) (shared config xs ys room) h refl e

-- ---- The law

answer_front : (config : Config) (list : List Listed) (place : ℕ) (a : PlacedAnswer) → 0 < config.limits.batch → answer config list place ≡ Some a → answer config (take (a.place + 1) list) place ≡ Some a
answer_front config list place a room e =
    let xs : List Listed = take (a.place + 1) list in
    let ys : List Listed = drop (a.place + 1) list in
    let whole : xs ++ ys ≡ list = take-append-drop (a.place + 1) list in
    ⊎_elim
    (λ h. let l : a.place < length xs = omega (arith, h, length-take (a.place + 1) list) in
    answer_less config xs ys place a room l (ap (λ (zs : List Listed). answer config zs place) whole ∙ e))
    (λ h. ap (λ (zs : List Listed). answer config zs place) (take_all (a.place + 1) list (omega (arith, h))) ∙ e)
    (cases_lt a.place (length list))

pub answer_within : (config : Config) (list : List Listed) (n place : ℕ) (a : PlacedAnswer) → 0 < config.limits.batch → a.place < n → answer config list place ≡ Some a → answer config (take n list) place ≡ Some a
answer_within config list n place a room l e =
    let whole : take n list ++ drop n list ≡ list = take-append-drop n list in
    ⊎_elim
    (λ h. answer_less config (take n list) (drop n list) place a room h (ap (λ (zs : List Listed). answer config zs place) whole ∙ e))
    (λ h. ap (λ (zs : List Listed). answer config zs place) (take_all n list (omega (arith, h, length-take n list))) ∙ e)
    (cases_lt a.place (length (take n list)))

pub answers_ignore_later_entries : AnswersStay
answers_ignore_later_entries config list other place a room e same =
    let there : answer config (take (a.place + 1) other) place ≡ Some a = ap (λ (zs : List Listed). answer config zs place) same ∙ answer_front config list place a room e in
    sym (ap (λ (zs : List Listed). answer config zs place) (take-append-drop (a.place + 1) other)) ∙ answer_more config (take (a.place + 1) other) (drop (a.place + 1) other) place a room there
