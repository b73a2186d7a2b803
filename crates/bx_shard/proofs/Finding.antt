-- Sessions found by their numbers, and answers found by the places of their connects.
use Rattle.std.proofs.Common.{Bool, ◌≡◌, ℕ, suc, ◌<◌, false, cond, Option, Some, None, List, [], ◌∷◌, map, filter, find, flat_map, ◌==◌, refl, sym, ap, ◌∙◌, subst, arith}
use Rattle.std.proofs.lemmas.{List.Folds.find-append, List.Kept.AllPairs-from_increasing}
use Rattle.std.proofs.lemmas.List.Elements.{All-cons, All-nil, Contains-append_left, Contains-append_right}
use Rattle.std.specs.{List.All, List.AllPairs, List.Contains, List.Sorted.IsStrictlyIncreasing, Option.option_or}
use Rattle.bx_history.proofs.Ascending.{AllAbove, Ascends}
use Rattle.bx_advice.specs.declared.config.Config.{Config}
use Rattle.bx_entry.specs.declared.entry.Entry.{Entry}
use Rattle.bx_entry.specs.Words.{PlacedAnswer, answer_of, Kept, kept_step, Filed, is_live}
use Rattle.bx_session.specs.declared.answered.Answered.{Answered}
use Rattle.bx_session.specs.Views.{answered_of}
use Rattle.bx_session.specs.Filing.{filed_as, filed_at}
use Rattle.bx_shard.specs.Refining.{placed}
use Rattle.bx_shard.proofs.{Cases.by_option, Untaken.find_of}

-- ---- numbers

above_of : (n : ℕ) (ns : List ℕ) → All (λ m. n < m) ns → AllAbove n ns
above_of n [] h = tt
above_of n (m ∷ ms) h = (h 0 m (omega arith), above_of n ms (λ k d l. h (suc k) d (omega arith)))

apart_of : (ns : List ℕ) → AllPairs (λ x y. x < y) ns → Ascends ns
apart_of [] h = tt
apart_of (n ∷ ns) h = (above_of n ns (λ k d l. h 0 (suc k) d (omega arith) (omega arith)), apart_of ns (λ i j d a b. h (suc i) (suc j) d (omega arith) (omega arith)))

pub apart : (ns : List ℕ) → IsStrictlyIncreasing ns → Ascends ns
apart ns h = apart_of ns (AllPairs-from_increasing ns h)

abbrev pub numbers_of : List Kept → List ℕ
numbers_of ks = map (λ (k : Kept). k.number) ks

-- ---- sessions

abbrev pub find_kept : ℕ → List Kept → Option Kept
find_kept m ks = find (λ (k : Kept). k.number == m) ks

none_above : (m : ℕ) (ks : List Kept) → AllAbove m (numbers_of ks) → find_kept m ks ≡ None
none_above m [] h = refl
none_above m (k ∷ ks) h = grind (arith, none_above m ks h.1, h.0)

pub found_each : (P : Kept → Type 0) (m : ℕ) (ks : List Kept) (k : Kept) → find_kept m ks ≡ Some k → All P ks → P k × (k.number ≡ m)
found_each P m [] k e h = absurd (let no : None ≡ Some k = e in cc)
found_each P m (j ∷ ks) k e h =
    let here : P j = h 0 j (omega arith) in
    let later : find_kept m ks ≡ Some k → P k × (k.number ≡ m) = λ g. found_each P m ks k g (λ i d l. h (suc i) d (omega arith)) in
    grind (arith, here, later)

-- ---- a step of each

abbrev live_of : (Kept → Kept) → List Kept → List Kept
live_of F ks = filter (λ (k : Kept). is_live k.stage) (map F ks)

abbrev live_then : (Kept → Kept) → Option Kept → Option Kept
live_then F None = None
live_then F (Some k) = cond (is_live (F k).stage) (Some (F k)) None

live_found : (F : Kept → Kept) (m : ℕ) (ks : List Kept) → Ascends (numbers_of ks) → All (λ k. (F k).number ≡ k.number) ks → find_kept m (live_of F ks) ≡ live_then F (find_kept m ks)
live_found F m [] d h = refl
live_found F m (k ∷ ks) d h =
    let absent : k.number ≡ m → find_kept m ks ≡ None = λ same. none_above m ks (subst (λ (n : ℕ). AllAbove n (numbers_of ks)) same d.0) in
    grind (arith, h 0 k (omega arith), absent, live_found F m ks d.1 (λ i b a. h (suc i) b (omega arith)))

abbrev pub steps : Config → Entry → List Kept → List Kept
steps config e ks = live_of (λ (k : Kept). kept_step config k e) ks

abbrev pub next : Config → Entry → Option Kept → Option Kept
next config e o = live_then (λ (k : Kept). kept_step config k e) o

pub steps_found : (config : Config) (e : Entry) (m : ℕ) (ks : List Kept) → Ascends (numbers_of ks) → All (λ k. (kept_step config k e).number ≡ k.number) ks → find_kept m (steps config e ks) ≡ next config e (find_kept m ks)
steps_found config e m ks d h = live_found (λ (k : Kept). kept_step config k e) m ks d h

-- ---- answers

or_none : (a b : Option Filed) → option_or a b ≡ None → (a ≡ None) × (b ≡ None)
or_none a b h = grind arith

pub each_none : (A : Kept → List Filed) (p : ℕ) (ks : List Kept) → find_of p (flat_map A ks) ≡ None → All (λ k. find_of p (A k) ≡ None) ks
each_none A p [] h = All-nil (λ k. find_of p (A k) ≡ None)
each_none A p (k ∷ ks) h =
    let both : (find_of p (A k) ≡ None) × (find_of p (flat_map A ks) ≡ None) = or_none (find_of p (A k)) (find_of p (flat_map A ks)) (sym (find-append (λ (f : Filed). f.connect == p) (A k) (flat_map A ks)) ∙ h) in
    All-cons (λ j. find_of p (A j) ≡ None) k ks both.0 (each_none A p ks both.1)

pub none_there : (p : ℕ) (fs : List Filed) → find_of p fs ≡ None → All (λ f. (f.connect == p) ≡ false) fs
none_there p [] h = All-nil (λ f. (f.connect == p) ≡ false)
none_there p (f ∷ fs) h = All-cons (λ g. (g.connect == p) ≡ false) f fs (grind arith) (none_there p fs (grind arith))

pub record GivenBy (A : Kept → List Filed) (ks : List Kept) (p : ℕ) (f : Filed) : Type 0 where
  pub one : Kept
  pub found : find_kept one.number ks ≡ Some one
  pub gives : find_of p (A one) ≡ Some f

pub given_by : (A : Kept → List Filed) (ks : List Kept) (p : ℕ) (f : Filed) → Ascends (numbers_of ks) → find_of p (flat_map A ks) ≡ Some f → GivenBy A ks p f
given_by A [] p f d h = absurd (let no : None ≡ Some f = h in cc)
given_by A (k ∷ ks) p f d h =
    by_option (λ o. option_or o (find_of p (flat_map A ks)) ≡ Some f → GivenBy A (k ∷ ks) p f) (find_of p (A k))
    (λ a b.
    let g : GivenBy A ks p f = given_by A ks p f d.1 b in
    let absent : k.number ≡ g.one.number → find_kept g.one.number ks ≡ None = λ same. none_above g.one.number ks (subst (λ (n : ℕ). AllAbove n (numbers_of ks)) same d.0) in
    record { one = g.one; found = grind (arith, absent, g.found); gives = g.gives })
    (λ g a b. record { one = k; found = grind arith; gives = a ∙ b })
    (sym (find-append (λ (g : Filed). g.connect == p) (A k) (flat_map A ks)) ∙ h)

pub contains_found : (p : ℕ) (fs : List Filed) (f : Filed) → find_of p fs ≡ Some f → Contains (map answered_of fs) (answered_of f)
contains_found p [] f h = absurd (let no : None ≡ Some f = h in cc)
contains_found p (g ∷ fs) f h =
    let first : List Answered = answered_of g ∷ [] in
    let here : Contains (map answered_of (g ∷ fs)) (answered_of g) = Contains-append_left first (map answered_of fs) (answered_of g) (0, omega arith, refl) in
    let later : find_of p fs ≡ Some f → Contains (map answered_of (g ∷ fs)) (answered_of f) = λ e. Contains-append_right first (map answered_of fs) (answered_of f) (contains_found p fs f e) in
    by_test (g.connect == p) g (find_of p fs) f (Contains (map answered_of (g ∷ fs))) here later h
  where
    by_test : (b : Bool) (g : Filed) (o : Option Filed) (f : Filed) (P : Answered → Type 0) → P (answered_of g) → (o ≡ Some f → P (answered_of f)) → cond b (Some g) o ≡ Some f → P (answered_of f)
    by_test b g o f P here later is = grind arith

pub placed_found : (p place : ℕ) (fs : List Filed) (f : Filed) → map filed_as fs ≡ map (filed_at place) (map answered_of fs) → find_of p fs ≡ Some f → (answer_of f ≡ placed place (answered_of f).answer) × (f.connect ≡ p)
placed_found p place [] f e h = absurd (let no : None ≡ Some f = h in cc)
placed_found p place (g ∷ fs) f e h =
    let head : filed_as g ≡ filed_at place (answered_of g) = cc in
    let tail : map filed_as fs ≡ map (filed_at place) (map answered_of fs) = cc in
    let own : answer_of g ≡ placed place (answered_of g).answer = ap (λ (x : ℕ × PlacedAnswer). x.1) head in
    grind (arith, own, placed_found p place fs f tail)
