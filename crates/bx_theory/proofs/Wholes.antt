-- The outs of more inputs begin with the outs of fewer.
use Rattle.std.proofs.Common.{◌≡◌, ℕ, zero, suc, ◌+◌, ◌<◌, ◌≤◌, max, Bool, true, false, cond, Option, Some, None, List, [], ◌∷◌, ◌++◌, length, map, flat_map, fold, slice_get, refl, sym, ap, ◌∙◌, subst, arith, append-nil, append_assoc, length-append, ne_eqb}
use Rattle.std.proofs.lemmas.{Bool.cond-false, List.Sums.fold-append, Grind.common_steps, Grind.flat_map-append}
use Rattle.std.specs.List.{position, position_or_len}
use Rattle.bx_advice.specs.declared.config.Config.{Config}
use Rattle.bx_entry.specs.Words.{Listed, Judged, Registry, registry, entries_of, PlacedAnswer, answer_at, answer_in, answer, ReadInput, Request, refusal_of, added_by, Intake, Taking, taken_as, take_in, taken_in, Out, numbers_from, places_of, latest, has_place, whole_by, result_by, Whole, whole_of, wholes_from, wholes, is_at, whole_at}
use Rattle.bx_entry.specs.declared.input.Refusal.{Refusal}
use Rattle.bx_theory.specs.Outs.{OutsGrow}
use Rattle.bx_theory.proofs.Lists.{answer_more, answer_less, judged_length}

-- ---- Inputs

abbrev pub EachIntake : (Intake → Type 0) → List Intake → Type 0
EachIntake P [] = Unit {0}
EachIntake P (d ∷ ds) = P d × EachIntake P ds

each_map : (P Q : Intake → Type 0) (ds : List Intake) → ((d : Intake) → P d → Q d) → EachIntake P ds → EachIntake Q ds
each_map P Q [] h e = tt
each_map P Q (d ∷ ds) h e = (h d e.0, each_map P Q ds h e.1)

record Takes (t u : Taking) : Type 0 where
  more : List Listed
  list : u.list ≡ t.list ++ more
  one : Intake
  intake : u.intake ≡ t.intake ++ one ∷ []
  first : length t.list ≤ one.first
  end : one.first + one.count ≤ length u.list

takes_as : (t : Taking) (input : ReadInput) (o : Option Refusal) → Takes t (taken_as t input o)
takes_as t input None = record { more = added_by input; list = refl; one = _; intake = refl; first = omega arith; end = omega (arith, length-append t.list (added_by input)) }
takes_as t input (Some refusal) = record { more = []; list = sym (append-nil t.list); one = _; intake = refl; first = omega arith; end = omega arith }

pub record Took (t u : Taking) (count : ℕ) : Type 0 where
  pub more : List Listed
  pub list : u.list ≡ t.list ++ more
  pub ones : List Intake
  pub intake : u.intake ≡ t.intake ++ ones
  pub many : length ones ≡ count
  pub first : EachIntake (λ d. length t.list ≤ d.first) ones
  pub end : EachIntake (λ d. d.first + d.count ≤ length u.list) ones

took_more : (t u v : Taking) (count : ℕ) → Takes t u → Took u v count → Took t v (suc count)
took_more t u v count a b =
    let long : length t.list ≤ length u.list = omega (arith, ap length a.list, length-append t.list a.more) in
    let longer : length u.list ≤ length v.list = omega (arith, ap length b.list, length-append u.list b.more) in
    record {
      more = a.more ++ b.more;
      list = b.list ∙ ap (λ (xs : List Listed). xs ++ b.more) a.list ∙ append_assoc t.list a.more b.more;
      ones = a.one ∷ b.ones;
      intake = b.intake ∙ ap (λ (ds : List Intake). ds ++ b.ones) a.intake ∙ append_assoc t.intake (a.one ∷ []) b.ones;
      many = ap suc b.many;
      first = (a.first, each_map (λ d. length u.list ≤ d.first) (λ d. length t.list ≤ d.first) b.ones (λ d h. omega arith) b.first);
      end = (omega (arith, a.end), b.end);
    }

pub took : (t : Taking) (inputs : List ReadInput) → Took t (fold take_in t inputs) (length inputs)
took t [] = record { more = []; list = sym (append-nil t.list); ones = []; intake = sym (append-nil t.intake); many = refl; first = tt; end = tt }
took t (i ∷ inputs) = took_more t (take_in t i) (fold take_in (take_in t i) inputs) (length inputs) (takes_as t i (refusal_of (length t.list) i)) (took (take_in t i) inputs)

pub many_of : (inputs : List ReadInput) → length (taken_in inputs).intake ≡ length inputs
many_of inputs =
    let k : Took (record { list = []; intake = [] }) (taken_in inputs) (length inputs) = took (record { list = []; intake = [] }) inputs in
    ap length k.intake ∙ k.many

pub ends_of : (inputs : List ReadInput) → EachIntake (λ d. d.first + d.count ≤ length (taken_in inputs).list) (taken_in inputs).intake
ends_of inputs =
    let k : Took (record { list = []; intake = [] }) (taken_in inputs) (length inputs) = took (record { list = []; intake = [] }) inputs in
    subst (EachIntake (λ d. d.first + d.count ≤ length (taken_in inputs).list)) (sym k.intake) k.end

-- ---- Answers before and after more inputs

abbrev Ahead : ℕ → Option PlacedAnswer → Option PlacedAnswer → Type 0
Ahead end None None = Unit {0}
Ahead end None (Some a) = end ≤ a.place
Ahead end (Some a) o = o ≡ Some a

ahead_none : (config : Config) (xs ys : List Listed) (place : ℕ) (u : Option PlacedAnswer) → 0 < config.limits.batch → answer config xs place ≡ None → answer config (xs ++ ys) place ≡ u → Ahead (length xs) None u
ahead_none config xs ys place u room h e = grind (arith, common_steps, answer_less config xs ys place)

ahead_of : (config : Config) (xs ys : List Listed) (place : ℕ) (o : Option PlacedAnswer) → 0 < config.limits.batch → answer config xs place ≡ o → Ahead (length xs) o (answer config (xs ++ ys) place)
ahead_of config xs ys place None room h = ahead_none config xs ys place (answer config (xs ++ ys) place) room h refl
ahead_of config xs ys place (Some a) room h = answer_more config xs ys place a room h

past : (js : List Judged) (k : ℕ) → length js ≤ k → slice_get js k ≡ None
past [] k h = refl
past (j ∷ js) zero h = absurd (omega arith)
past (j ∷ js) (suc k) h = past js k (omega arith)

pub beyond : (config : Config) (xs : List Listed) (place : ℕ) → length xs ≤ place → answer config xs place ≡ None
beyond config xs place h =
    ap (answer_at config (entries_of (registry config xs)) place) (past (registry config xs).judged place (omega (arith, judged_length config xs)))

-- ---- The greatest place

pub AheadAll : ℕ → (ℕ → Option PlacedAnswer) → (ℕ → Option PlacedAnswer) → Type 0
AheadAll end f g = (p : ℕ) → Ahead end (f p) (g p)

pub ahead_all : (config : Config) (xs ys : List Listed) → 0 < config.limits.batch → AheadAll (length xs) (answer_in config (registry config xs)) (answer_in config (registry config (xs ++ ys)))
unfolding AheadAll
ahead_all config xs ys room = λ p. ahead_of config xs ys p (answer config xs p) room refl

latest_above : (m k : ℕ) (os : List (Option PlacedAnswer)) → latest m os ≡ Some k → m ≤ k
latest_above m k [] e = grind (arith, common_steps)
latest_above m k (None ∷ os) e = cc
latest_above m k (Some a ∷ os) e = let l : max m a.place ≤ k = latest_above (max m a.place) k os e in omega arith

same_one : (end m k : ℕ) (o u : Option PlacedAnswer) (os us : List (Option PlacedAnswer)) → Ahead end o u → ((n : ℕ) → latest n os ≡ Some k → us ≡ os) → latest m (o ∷ os) ≡ Some k → u ∷ us ≡ o ∷ os
same_one end m k o u os us a h e = grind (arith, common_steps, h)

pub latest_same : (end m k : ℕ) (f g : ℕ → Option PlacedAnswer) (ps : List ℕ) → AheadAll end f g → latest m (map f ps) ≡ Some k → map g ps ≡ map f ps
unfolding AheadAll
latest_same end m k f g [] a e = refl
latest_same end m k f g (p ∷ ps) a e = same_one end m k (f p) (g p) (map f ps) (map g ps) (a p) (λ n h. latest_same end n k f g ps a h) e

later_one : (end m n k : ℕ) (o u : Option PlacedAnswer) (os us : List (Option PlacedAnswer)) → Ahead end o u → ((i j : ℕ) → latest i os ≡ None → latest j us ≡ Some k → end ≤ k) → latest m (o ∷ os) ≡ None → latest n (u ∷ us) ≡ Some k → end ≤ k
later_one end m n k o u os us a h d e = grind (arith, common_steps, latest_above, h)

pub latest_later : (end m n k : ℕ) (f g : ℕ → Option PlacedAnswer) (ps : List ℕ) → AheadAll end f g → latest m (map f ps) ≡ None → latest n (map g ps) ≡ Some k → end ≤ k
unfolding AheadAll
latest_later end m n k f g [] a d e = cc
latest_later end m n k f g (p ∷ ps) a d e = later_one end m n k (f p) (g p) (map f ps) (map g ps) (a p) (λ i j x y. latest_later end i j k f g ps a x y) d e

-- ---- The input at a place

pub where_first : (test : Intake → Bool) (ds more : List Intake) → position_or_len test ds < length ds → position_or_len test (ds ++ more) ≡ position_or_len test ds
where_first test [] more h = absurd (omega arith)
where_first test (d ∷ ds) more h = grind (arith, common_steps, where_first test ds more)

pub where_late : (test : Intake → Bool) (ds more : List Intake) → length ds ≤ position_or_len test ds → length ds ≤ position_or_len test (ds ++ more)
where_late test [] more h = omega arith
where_late test (d ∷ ds) more h = grind (arith, common_steps, where_late test ds more)

pub where_none : (test : Intake → Bool) (ds : List Intake) → EachIntake (λ d. test d ≡ false) ds → length ds ≤ position_or_len test ds
where_none test [] e = omega arith
where_none test (d ∷ ds) e = grind (arith, common_steps, where_none test ds e.1)

at_late : (j : ℕ) (test : Intake → Bool) (ds : List Intake) → j < position_or_len test ds → is_at j (position test ds) ≡ false
at_late j test ds h = grind (arith, common_steps)

position_front : (j : ℕ) (test : Intake → Bool) (ds more : List Intake) → j < length ds → is_at j (position test (ds ++ more)) ≡ is_at j (position test ds)
position_front j test ds more h = grind (arith, common_steps, where_first test ds more, where_late test ds more, length-append)

pub nowhere : (end k : ℕ) (ds : List Intake) → end ≤ k → EachIntake (λ d. d.first + d.count ≤ end) ds → EachIntake (λ d. has_place k d ≡ false) ds
nowhere end k [] h e = tt
nowhere end k (d ∷ ds) h e = (grind (arith, common_steps), nowhere end k ds h e.1)

position_past : (end k j : ℕ) (ds more : List Intake) → end ≤ k → EachIntake (λ d. d.first + d.count ≤ end) ds → j < length ds → is_at j (position (has_place k) (ds ++ more)) ≡ false
position_past end k j ds more h e l = position_front j (has_place k) ds more l ∙ at_late j (has_place k) ds (let m = where_none (has_place k) ds (nowhere end k ds h e) in omega arith)

-- ---- One input

abbrev pub placed : List Intake → Option ℕ → Option ℕ
placed intake o = elim o [ None ↦ None | Some place ↦ position (has_place place) intake ]

whole_same : (end j i : ℕ) (f g : ℕ → Option PlacedAnswer) (intake more : List Intake) (ps : List ℕ) → AheadAll end f g → EachIntake (λ d. d.first + d.count ≤ end) intake → j < length intake →
    is_at j (whole_by (intake ++ more) i (map g ps)) ≡ is_at j (whole_by intake i (map f ps))
whole_same end j i f g intake more [] a e l = refl
whole_same end j i f g intake more (p ∷ ps) a e l =
    let late : (u : Option ℕ) → latest 0 (map f (p ∷ ps)) ≡ None → latest 0 (map g (p ∷ ps)) ≡ u → is_at j (placed (intake ++ more) u) ≡ false =
    λ u. (elim u as (λ v. latest 0 (map f (p ∷ ps)) ≡ None → latest 0 (map g (p ∷ ps)) ≡ v → is_at j (placed (intake ++ more) v) ≡ false)
    [ None ↦ λ d h. refl | Some k ↦ λ d h. position_past end k j intake more (latest_later end 0 0 k f g (p ∷ ps) a d h) e l ]) in
    let P : Option ℕ → Type 0 = λ o. latest 0 (map f (p ∷ ps)) ≡ o → is_at j (placed (intake ++ more) (latest 0 (map g (p ∷ ps)))) ≡ is_at j (placed intake o) in
    let at_none : P None = λ d. late (latest 0 (map g (p ∷ ps))) d refl in
    let at_some : (k : ℕ) → P (Some k) = λ k d.
    ap (λ (o : Option ℕ). is_at j (placed (intake ++ more) o)) (ap (latest 0) (latest_same end 0 k f g (p ∷ ps) a d) ∙ d) ∙ position_front j (has_place k) intake more l in
    (elim (latest 0 (map f (p ∷ ps))) as P [ None ↦ at_none | Some k ↦ at_some k ]) refl

answers_same : (end j i : ℕ) (f g : ℕ → Option PlacedAnswer) (intake : List Intake) (ps : List ℕ) → AheadAll end f g → is_at j (whole_by intake i (map f ps)) ≡ true → map g ps ≡ map f ps
answers_same end j i f g intake [] a h = refl
answers_same end j i f g intake (p ∷ ps) a h =
    let P : Option ℕ → Type 0 = λ o. latest 0 (map f (p ∷ ps)) ≡ o → is_at j (placed intake o) ≡ true → map g (p ∷ ps) ≡ map f (p ∷ ps) in
    let at_none : P None = λ d e. cc in
    let at_some : (k : ℕ) → P (Some k) = λ k d e. latest_same end 0 k f g (p ∷ ps) a d in
    (elim (latest 0 (map f (p ∷ ps))) as P [ None ↦ at_none | Some k ↦ at_some k ]) refl h

-- ---- All inputs

pub whole_push : (j : ℕ) (w : Whole) (ws : List Whole) → whole_at j (w ∷ ws) ≡ cond (is_at j w.at) (w.out ∷ whole_at j ws) (whole_at j ws)
whole_push j w ws = grind (arith, common_steps)

cond_same : (b c : Bool) (x y : Out) (xs ys : List Out) → b ≡ c → xs ≡ ys → (c ≡ true → x ≡ y) → cond b (x ∷ xs) xs ≡ cond c (y ∷ ys) ys
cond_same b c x y xs ys e f h = grind (arith, common_steps)

record Two (config : Config) (end : ℕ) (r t : Registry) (intake : List Intake) : Type 0 where
  ahead : AheadAll end (answer_in config r) (answer_in config t)
  end_of : EachIntake (λ d. d.first + d.count ≤ end) intake
  none : (p : ℕ) → end ≤ p → answer_in config r p ≡ None

at_same : (config : Config) (end j i : ℕ) (r t : Registry) (intake more : List Intake) (d : Intake) → Two config end r t intake → j < length intake →
    is_at j (whole_of config t (intake ++ more) i d).at ≡ is_at j (whole_of config r intake i d).at
at_same config end j i r t intake more d w l = whole_same end j i (answer_in config r) (answer_in config t) intake more (places_of d d.input) w.ahead w.end_of l

out_same : (config : Config) (end j i : ℕ) (r t : Registry) (intake more : List Intake) (d : Intake) → Two config end r t intake → is_at j (whole_of config r intake i d).at ≡ true →
    (whole_of config t (intake ++ more) i d).out ≡ (whole_of config r intake i d).out
out_same config end j i r t intake more d w h =
    let F : List (Option PlacedAnswer) → Out = λ os. record { input = i; result = result_by os d.refusal } in
    ap F (answers_same end j i (answer_in config r) (answer_in config t) intake (places_of d d.input) w.ahead h)

front_same : (config : Config) (end j i : ℕ) (r t : Registry) (intake more ds : List Intake) → Two config end r t intake → j < length intake →
    whole_at j (wholes_from config t (intake ++ more) i ds) ≡ whole_at j (wholes_from config r intake i ds)
front_same config end j i r t intake more [] w l = refl
front_same config end j i r t intake more (d ∷ ds) w l =
    whole_push j (whole_of config t (intake ++ more) i d) (wholes_from config t (intake ++ more) (i + 1) ds)
    ∙ cond_same (is_at j (whole_of config t (intake ++ more) i d).at) (is_at j (whole_of config r intake i d).at) (whole_of config t (intake ++ more) i d).out (whole_of config r intake i d).out
    (whole_at j (wholes_from config t (intake ++ more) (i + 1) ds)) (whole_at j (wholes_from config r intake (i + 1) ds))
    (at_same config end j i r t intake more d w l) (front_same config end j (i + 1) r t intake more ds w l) (λ h. out_same config end j i r t intake more d w h)
    ∙ sym (whole_push j (whole_of config r intake i d) (wholes_from config r intake (i + 1) ds))

not_yet : (end j i : ℕ) (f : ℕ → Option PlacedAnswer) (intake : List Intake) (first count : ℕ) → ((p : ℕ) → end ≤ p → f p ≡ None) → end ≤ first → j < i → is_at j (whole_by intake i (map f (numbers_from first count))) ≡ false
not_yet end j i f intake first zero none h l = ne_eqb i j (λ e. omega arith)
not_yet end j i f intake first (suc count) none h l = ap (λ (o : Option PlacedAnswer). is_at j (placed intake (latest 0 (o ∷ map f (numbers_from (first + 1) count))))) (none first h)

not_whole : (config : Config) (end j i : ℕ) (r t : Registry) (intake : List Intake) (d : Intake) (input : ReadInput) → Two config end r t intake → end ≤ d.first → j < i →
    is_at j (whole_by intake i (map (answer_in config r) (places_of d input))) ≡ false
not_whole config end j i r t intake d (Request moment nonce ms) w h l = not_yet end j i (answer_in config r) intake d.first d.count w.none h l
not_whole config end j i r t intake d _ w h l = ne_eqb i j (λ e. omega arith)

back_none : (config : Config) (end j i : ℕ) (r t : Registry) (intake more ds : List Intake) → Two config end r t intake → EachIntake (λ d. end ≤ d.first) ds → j < length intake → j < i →
    whole_at j (wholes_from config t (intake ++ more) i ds) ≡ []
back_none config end j i r t intake more [] w e l k = refl
back_none config end j i r t intake more (d ∷ ds) w e l k =
    whole_push j (whole_of config t (intake ++ more) i d) (wholes_from config t (intake ++ more) (i + 1) ds)
    ∙ cond-false (is_at j (whole_of config t (intake ++ more) i d).at) _ (whole_at j (wholes_from config t (intake ++ more) (i + 1) ds)) (at_same config end j i r t intake more d w l ∙ not_whole config end j i r t intake d d.input w e.0 k)
    ∙ back_none config end j (i + 1) r t intake more ds w e.1 l (omega arith)

pub wholes_split : (config : Config) (t : Registry) (intake : List Intake) (i : ℕ) (ds more : List Intake) → wholes_from config t intake i (ds ++ more) ≡ wholes_from config t intake i ds ++ wholes_from config t intake (i + length ds) more
wholes_split config t intake i [] more = ap (λ (n : ℕ). wholes_from config t intake n more) (let l : i ≡ i + 0 = omega arith in l)
wholes_split config t intake i (d ∷ ds) more = ap (λ (ws : List Whole). whole_of config t intake i d ∷ ws)
    (wholes_split config t intake (i + 1) ds more ∙ ap (λ (n : ℕ). wholes_from config t intake (i + 1) ds ++ wholes_from config t intake n more) (let l : i + 1 + length ds ≡ i + length (d ∷ ds) = omega arith in l))

pub whole_append : (j : ℕ) (us ws : List Whole) → whole_at j (us ++ ws) ≡ whole_at j us ++ whole_at j ws
whole_append j [] ws = refl
whole_append j (u ∷ us) ws = grind (arith, common_steps, whole_append j us ws)

-- ---- The law

pub numbers_split : (a b c : ℕ) → numbers_from a (b + c) ≡ numbers_from a b ++ numbers_from (a + b) c
numbers_split a zero c = ap (numbers_from a) (let l : zero + c ≡ c = omega arith in l) ∙ ap (λ (n : ℕ). numbers_from n c) (let l : a ≡ a + zero = omega arith in l)
numbers_split a (suc b) c = ap (numbers_from a) (let l : suc b + c ≡ suc (b + c) = omega arith in l)
    ∙ ap (λ (ns : List ℕ). a ∷ ns) (numbers_split (a + 1) b c ∙ ap (λ (n : ℕ). numbers_from (a + 1) b ++ numbers_from n c) (let l : a + 1 + b ≡ a + suc b = omega arith in l))

pub flat_same : (n : ℕ) (F G : ℕ → List Out) (first count : ℕ) → first + count ≤ n → ((j : ℕ) → j < n → F j ≡ G j) → flat_map F (numbers_from first count) ≡ flat_map G (numbers_from first count)
flat_same n F G first zero h e = refl
flat_same n F G first (suc count) h e = ap (λ (os : List Out). os ++ flat_map F (numbers_from (first + 1) count)) (e first (omega arith))
    ∙ ap (λ (os : List Out). G first ++ os) (flat_same n F G (first + 1) count (omega arith) e)

pub record Grows (config : Config) (t u : Taking) (count : ℕ) : Type 0 where
  pub same : (j : ℕ) → j < count → whole_at j (wholes_from config (registry config u.list) u.intake 0 u.intake) ≡ whole_at j (wholes_from config (registry config t.list) t.intake 0 t.intake)

pub grows : (config : Config) (t u : Taking) (count more : ℕ) → 0 < config.limits.batch → length t.intake ≡ count → EachIntake (λ d. d.first + d.count ≤ length t.list) t.intake → Took t u more → Grows config t u count
grows config t u count more room many ends k =
    let r : Registry = registry config t.list in
    let v : Registry = registry config (t.list ++ k.more) in
    let w : Two config (length t.list) (registry config t.list) (registry config (t.list ++ k.more)) t.intake = record {
      ahead = ahead_all config t.list k.more room;
      end_of = ends;
      none = λ p h. beyond config t.list p h;
    } in
    record {
      same = λ j l.
          let here : j < length t.intake = omega (arith, many) in
          ap (λ (xs : List Listed). whole_at j (wholes_from config (registry config xs) u.intake 0 u.intake)) k.list
          ∙ ap (λ (ds : List Intake). whole_at j (wholes_from config v ds 0 ds)) k.intake
          ∙ ap (whole_at j) (wholes_split config v (t.intake ++ k.ones) 0 t.intake k.ones)
          ∙ whole_append j (wholes_from config v (t.intake ++ k.ones) 0 t.intake) (wholes_from config v (t.intake ++ k.ones) (0 + length t.intake) k.ones)
          ∙ ap (λ (os : List Out). whole_at j (wholes_from config v (t.intake ++ k.ones) 0 t.intake) ++ os) (back_none config (length t.list) j (0 + length t.intake) r v t.intake k.ones k.ones w k.first here (omega arith))
          ∙ append-nil (whole_at j (wholes_from config v (t.intake ++ k.ones) 0 t.intake))
          ∙ front_same config (length t.list) j 0 r v t.intake k.ones t.intake w here;
    }

pub outs_grow : OutsGrow
outs_grow config inputs more room =
    let empty : Taking = record { list = []; intake = [] } in
    let t : Taking = taken_in inputs in
    let u : Taking = taken_in (inputs ++ more) in
    let n : ℕ = length inputs in
    let F : ℕ → List Out = λ j. whole_at j (wholes config (inputs ++ more)) in
    let G : ℕ → List Out = λ j. whole_at j (wholes config inputs) in
    let k : Took empty (taken_in inputs) (length inputs) = took empty inputs in
    let m : Took (taken_in inputs) (taken_in (inputs ++ more)) (length more) =
    subst (λ (v : Taking). Took (taken_in inputs) v (length more)) (sym (fold-append take_in empty inputs more)) (took (taken_in inputs) more) in
    let g : Grows config (taken_in inputs) (taken_in (inputs ++ more)) (length inputs) =
    grows config (taken_in inputs) (taken_in (inputs ++ more)) (length inputs) (length more) room (ap length k.intake ∙ k.many) (subst (EachIntake (λ d. d.first + d.count ≤ length (taken_in inputs).list)) (sym k.intake) k.end) m in (
      flat_map F (numbers_from (0 + n) (length more)),
      ap (λ (c : ℕ). flat_map F (numbers_from 0 c)) (length-append inputs more)
          ∙ ap (flat_map F) (numbers_split 0 n (length more))
          ∙ flat_map-append F (numbers_from 0 n) (numbers_from (0 + n) (length more))
          ∙ ap (λ (os : List Out). os ++ flat_map F (numbers_from (0 + n) (length more))) (flat_same n F G 0 n (omega arith) g.same),
    )
