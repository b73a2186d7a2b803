-- Answers are given at places of the list.
use Rattle.std.proofs.Common.{◌≡◌, ℕ, ◌+◌, ◌<◌, ◌≤◌, max, ⊎_elim, Bool, Option, Some, None, List, [], ◌∷◌, ◌==◌, length, map, find, fold, option_map, refl, sym, ap, ◌∙◌, subst, arith}
use Rattle.std.proofs.lemmas.Bool.{cases_lt}
use Rattle.bx_advice.specs.declared.config.Config.{Config}
use Rattle.bx_entry.specs.Words.{Listed, Judged, PlaceSlot, Ready, Waiting, NoSlot, registry, entries_of, Session, Filed, step, session, unopened, PlacedAnswer, answer_of, filed_for, answer_by, answer_at, answer, latest}
use Rattle.bx_entry.specs.declared.entry.Entry.{Entry}
use Rattle.bx_theory.specs.Laws.{Each, InStep, PlacesFrom}
use Rattle.bx_theory.proofs.{Counts.stays_in_step, Counts.unopened_in_step, Runs.EachEntry, Lists.entries_in_order, Lists.entries_length, Lists.find_each, Wholes.beyond}
use Rattle.bx_theory.proofs.Moves.{Moved, each_map, each_append, step_moved}

-- ---- Answers that a session files

places_below : (bound n : ℕ) (es : List Entry) → n + length es ≤ bound → PlacesFrom n es → EachEntry (λ e. e.place < bound) es
places_below bound n [] h d = tt
places_below bound n (e ∷ es) h d = (omega (arith, h, d.0), places_below bound (n + 1) es (omega (arith, h)) d.1)

step_below : (config : Config) (bound : ℕ) (s : Session) (e : Entry) → Moved e.place s (step config s e) → e.place < bound → Each (λ f. f.place < bound) s.answers → Each (λ f. f.place < bound) (step config s e).answers
step_below config bound s e m l b =
    subst (Each (λ f. f.place < bound)) (sym m.answers)
    (each_append (λ f. f.place < bound) s.answers m.filed b (each_map (λ f. f.place ≡ e.place) (λ f. f.place < bound) m.filed (λ f h. omega (arith, h, l)) m.here))

run_below : (config : Config) (bound : ℕ) (s : Session) (es : List Entry) → 0 < config.limits.batch → InStep config s → EachEntry (λ e. e.place < bound) es →
    Each (λ f. f.place < bound) s.answers → Each (λ f. f.place < bound) (fold (step config) s es).answers
run_below config bound s [] room i d b = b
run_below config bound s (e ∷ es) room i d b = run_below config bound (step config s e) es room (stays_in_step config s e room i) d.1 (step_below config bound s e (step_moved config s e room i) d.0 b)

filed_below : (config : Config) (xs : List Listed) (number place : ℕ) (a : PlacedAnswer) → 0 < config.limits.batch →
    filed_for place (session config number (entries_of (registry config xs))).answers ≡ Some a → a.place < length xs
filed_below config xs number place a room e =
    let fs : List Filed = (session config number (entries_of (registry config xs))).answers in
    let test : Filed → Bool = λ f. f.connect == place in
    let d : EachEntry (λ e. e.place < length xs) (entries_of (registry config xs)) =
    places_below (length xs) 0 (entries_of (registry config xs)) (let l = entries_length config xs in omega arith) (entries_in_order config xs) in
    let b : Each (λ f. f.place < length xs) (session config number (entries_of (registry config xs))).answers =
    run_below config (length xs) (unopened number) (entries_of (registry config xs)) room (unopened_in_step config number) d tt in
    let P : Option Filed → Type 0 = λ o. find test fs ≡ o → option_map answer_of o ≡ Some a → a.place < length xs in
    let at_none : P None = λ s n. cc in
    let at_some : (f : Filed) → P (Some f) = λ f s n.
    let same : answer_of f ≡ a = cc in
    let place_same : f.place ≡ a.place = ap (λ (x : PlacedAnswer). x.place) same in
    let q : f.place < length xs = find_each (λ g. g.place < length xs) test fs f s b in
    omega arith in
    (elim (find test fs) as P [ None ↦ at_none | Some f ↦ at_some f ]) refl e

-- ---- One answer

below_by : (config : Config) (xs : List Listed) (place : ℕ) (a : PlacedAnswer) (slot : PlaceSlot) → 0 < config.limits.batch → place < length xs → answer_by config (entries_of (registry config xs)) place slot ≡ Some a → a.place < length xs
below_by config xs place a (Ready reply) room l e =
    let p : place ≡ a.place = ap (λ (o : Option PlacedAnswer). elim o [ None ↦ 0 | Some x ↦ x.place ]) e in omega arith
below_by config xs place a (Waiting number) room l e = filed_below config xs number place a room e
below_by config xs place a NoSlot room l e = cc

below_at : (config : Config) (xs : List Listed) (place : ℕ) (a : PlacedAnswer) (o : Option Judged) → 0 < config.limits.batch → place < length xs → answer_at config (entries_of (registry config xs)) place o ≡ Some a → a.place < length xs
below_at config xs place a None room l e = cc
below_at config xs place a (Some j) room l e = below_by config xs place a j.slot room l e

pub answer_below : (config : Config) (xs : List Listed) (place : ℕ) (a : PlacedAnswer) → 0 < config.limits.batch → answer config xs place ≡ Some a → a.place < length xs
answer_below config xs place a room e = ⊎_elim
    (λ l. below_at config xs place a _ room l e)
    (λ l. absurd (let none : answer config xs place ≡ None = beyond config xs place l in let no : None ≡ Some a = sym none ∙ e in cc))
    (cases_lt place (length xs))

-- ---- The latest of several answers

below_one : (bound m k : ℕ) (o : Option PlacedAnswer) (os : List (Option PlacedAnswer)) → ((a : PlacedAnswer) → o ≡ Some a → a.place < bound) → ((q : ℕ) → q < bound → m < bound) →
    ((n : ℕ) → n < bound → latest n os ≡ Some k → k < bound) → latest m (o ∷ os) ≡ Some k → k < bound
below_one bound m k None os h w rest e = cc
below_one bound m k (Some a) os h w rest e =
    let l : a.place < bound = h a refl in
    let s : m < bound = w a.place l in
    rest (max m a.place) (omega arith) e

latest_below : (bound m k : ℕ) (f : ℕ → Option PlacedAnswer) (ps : List ℕ) → ((p : ℕ) (a : PlacedAnswer) → f p ≡ Some a → a.place < bound) → m < bound → latest m (map f ps) ≡ Some k → k < bound
latest_below bound m k f [] h l e = let same : m ≡ k = cc in omega arith
latest_below bound m k f (p ∷ ps) h l e = below_one bound m k (f p) (map f ps) (h p) (λ q s. l) (λ n s d. latest_below bound n k f ps h s d) e

pub first_below : (bound k : ℕ) (f : ℕ → Option PlacedAnswer) (p : ℕ) (ps : List ℕ) → ((p : ℕ) (a : PlacedAnswer) → f p ≡ Some a → a.place < bound) → latest 0 (map f (p ∷ ps)) ≡ Some k → k < bound
first_below bound k f p ps h e = below_one bound 0 k (f p) (map f ps) (h p) (λ q s. omega arith) (λ n s d. latest_below bound n k f ps h s d) e
