-- Proves what holds of the held connects and the last input while answers are collected.
use Rattle.std.proofs.Common.{◌≡◌, ℕ, Bool, ◌+◌, ◌<◌, ◌≤◌, List, [], ◌∷◌, ◌++◌, length, map, filter, refl, sym, ap, subst, ◌∙◌, arith, Option, Some, None, option_map, append_assoc, append-nil, slice_get, add-one, Result, Ok, Err, OnErr, OnOk, cond, count_by, nat_lt, zero-add}
use Rattle.std.specs.List.{AllByRecursion}
use Rattle.std.proofs.lemmas.{List.length-append, List.map-append, List.Sums.fold-append, List.Sums.sum_by-append, Option.slice_get_within}
use Rattle.bx_advice.specs.declared.config.Config.{Config}
use Rattle.bx_entry.specs.Words.{ReadInput, added_by, refusal_of, Listed, Judged, PlaceSlot, Waiting, registry, Taking, places_of, taken_as, taken_in, take_in}
use Rattle.bx_entry.specs.Runs as runs
use Rattle.bx_entry.specs.declared.input.Refusal.{Refusal}
use Rattle.bx_theory.proofs.{Lists.judged_length, Lists.judged_more, Sole.incomplete_input_is_one_held_connect}
use Rattle.bx_message.specs.declared.reply.Answer.{Answer}
use Rattle.bx_entry.specs.Placings.{Setup}
use Rattle.bx_shard.specs.Shards.{is_taken}
use Rattle.bx_world.specs.Words.{EachSlot, slot_at, WorldState}
use Rattle.bx_fanout.specs.HeldInputs.{AllBelow, Gives, Row, is_answered, out_of, outs_of, waits}
use Rattle.bx_fanout.specs.Words.{CanDrain, Waits, AllUntaken, GivesOut, IsCollecting, IsTakenIn, IsGiving, bare, is_collecting, own, seen_out}
use Rattle.bx_fanout.specs.CurrentInputs.{AreAnswers, Collects, IsCollected, IsLevel, Keeps, NoneTakenFrom, given_at, next_place}
use Rattle.bx_theory.specs.Opens.{Numbered, newest, open_after}
use Rattle.bx_theory.specs.Sole.{IsConnect}
use Rattle.bx_fanout.specs.declared.{current_input.CurrentInput.CurrentInput, out.Out.Out, stage.Stage.Stage}
use Rattle.bx_fanout.proofs.{Draining.inside, Stages.intake-first, Stages.intake-input, Stages.newest-sole}

-- ---- The list

grows-by : (t : Taking) (input : ReadInput) (o : Option Refusal) → (more : List Listed) × ((taken_as t input o).list ≡ t.list ++ more)
grows-by t input None = (added_by input, refl)
grows-by t input (Some refusal) = ([], sym (append-nil t.list))

pub taken-one : (inputs : List ReadInput) (input : ReadInput) → taken_in (inputs ++ input ∷ []) ≡ take_in (taken_in inputs) input
taken-one inputs input = fold-append take_in (record { list = []; intake = [] }) inputs (input ∷ [])

pub grows : (inputs : List ReadInput) (input : ReadInput) → (more : List Listed) × ((taken_in (inputs ++ input ∷ [])).list ≡ (taken_in inputs).list ++ more)
grows inputs input =
    let g = grows-by (taken_in inputs) input (refusal_of (length (taken_in inputs).list) input) in
    (g.0, ap (λ (t : Taking). t.list) (taken-one inputs input) ∙ g.1)

-- ---- Slots

slot-by : (config : Config) (xs ys : List Listed) (place : ℕ) (s : PlaceSlot) (o : Option Judged) → slice_get (registry config xs).judged place ≡ o → option_map (λ (j : Judged). j.slot) o ≡ Some s → slot_at config (xs ++ ys) place ≡ Some s
slot-by config xs ys place s None e slot = cc
slot-by config xs ys place s (Some j) e slot = ap (λ (o : Option Judged). option_map (λ (i : Judged). i.slot) o) (judged_more config xs ys place j e) ∙ slot

slot-more : (config : Config) (xs ys : List Listed) (place : ℕ) (s : PlaceSlot) → slot_at config xs place ≡ Some s → slot_at config (xs ++ ys) place ≡ Some s
slot-more config xs ys place s slot = slot-by config xs ys place s (slice_get (registry config xs).judged place) refl slot

within-by : (config : Config) (xs : List Listed) (place : ℕ) (s : PlaceSlot) (o : Option Judged) → slice_get (registry config xs).judged place ≡ o → option_map (λ (j : Judged). j.slot) o ≡ Some s → place < length xs
within-by config xs place s None e slot = let no : None ≡ Some s = slot in cc
within-by config xs place s (Some j) e slot = let less : place < length (registry config xs).judged = slice_get_within (registry config xs).judged place j e in let len = judged_length config xs in omega arith

pub slot-within : (config : Config) (xs : List Listed) (place : ℕ) (s : PlaceSlot) → slot_at config xs place ≡ Some s → place < length xs
slot-within config xs place s slot = within-by config xs place s (slice_get (registry config xs).judged place) refl slot

-- ---- Held connects

below-all : (config : Config) (list : List Listed) (os : List Numbered) → AllByRecursion (IsConnect config list) os → AllBelow (length list) (map bare os)
below-all config list [] all = tt
below-all config list (o ∷ os) all = (slot-within config list o.intake.first (Waiting all.0.session) all.0.waits, below-all config list os all.1)

pub held-below : (setup : Setup) (inputs : List ReadInput) (input : ReadInput) (w : WorldState) (rows : List Row) (n : CurrentInput) (added : List runs.Out) → 0 < setup.config.limits.batch → IsCollecting setup inputs input w rows n added → AllBelow n.first rows
held-below setup inputs input w rows n added batch c =
    let config : Config = setup.config in
    let below : AllBelow (length (taken_in inputs).list) (map bare (open_after config inputs)) = below-all config (taken_in inputs).list (open_after config inputs) (incomplete_input_is_one_held_connect config inputs batch) in
    let at : AllBelow n.first (map bare (open_after config inputs)) = subst (λ (p : ℕ). AllBelow p (map bare (open_after config inputs))) (sym c.first) below in
    subst (AllBelow n.first) (sym c.held) at

wait-all : (setup : Setup) (w : WorldState) (before more : List Listed) (os : List Numbered) → w.list ≡ before ++ more → AllByRecursion (IsConnect setup.config before) os → AllUntaken w.taken os → AllByRecursion (Waits setup w) (map bare os)
wait-all setup w before more [] list all untaken = tt
wait-all setup w before more (o ∷ os) list all untaken = (
  record {
    session = all.0.session;
    slot = ap (λ (ls : List Listed). slot_at setup.config ls o.intake.first) list ∙ slot-more setup.config before more o.intake.first (Waiting all.0.session) all.0.waits;
    bare = refl;
    untaken = untaken.0;
  },
  wait-all setup w before more os list all.1 untaken.1,
)

waits-held : (setup : Setup) (inputs : List ReadInput) (input : ReadInput) (w : WorldState) (rows : List Row) (n : CurrentInput) (added : List runs.Out) → 0 < setup.config.limits.batch → IsCollecting setup inputs input w rows n added → AllByRecursion (Waits setup w) rows
waits-held setup inputs input w rows n added batch c =
    let g = grows inputs input in
    subst (AllByRecursion (Waits setup w)) (sym c.held)
    (wait-all setup w (taken_in inputs).list g.0 (open_after setup.config inputs) (c.list ∙ g.1) (incomplete_input_is_one_held_connect setup.config inputs batch) c.untaken)

-- ---- Answers not taken

reach : (config : Config) (list : List Listed) (place : ℕ) (answers : List Answer) → AreAnswers config list place answers → place ≤ length list → place + length answers ≤ length list
reach config list place [] are le = let none : place + 0 ≡ place = omega arith in omega arith
reach config list place (a ∷ answers) are le =
    let less : place < length list = inside config list place a are.0 in
    let rest : place + 1 + length answers ≤ length list = reach config list (place + 1) answers are.1 (omega arith) in
    omega (arith, add-one (length answers))

pub fresh-behind : (setup : Setup) (inputs : List ReadInput) (input : ReadInput) (w : WorldState) (rows : List Row) (n : CurrentInput) (added : List runs.Out) → IsCollecting setup inputs input w rows n added → NoneTakenFrom (length w.list) w.taken
fresh-behind setup inputs input w rows n added c = λ p le.
    let g = grows inputs input in
    let len : length w.list ≡ length (taken_in inputs).list + length g.0 = ap (λ (ls : List Listed). length ls) (c.list ∙ g.1) ∙ length-append (taken_in inputs).list g.0 in
    let first = c.first in
    let far : n.first + length n.answers.items ≤ length w.list = reach setup.config w.list n.first n.answers.items c.collected.answers (omega arith) in
    c.collected.fresh p (omega arith)

-- ---- Answers can be assigned

pub can-drain : (setup : Setup) (inputs : List ReadInput) (input : ReadInput) (w : WorldState) (rows : List Row) (n : CurrentInput) (added : List runs.Out) → 0 < setup.config.limits.batch → IsCollecting setup inputs input w rows n added → IsLevel w → CanDrain setup w rows
can-drain setup inputs input w rows n added batch c level = record {
  level = level;
  each = waits-held setup inputs input w rows n added batch c;
  fresh = fresh-behind setup inputs input w rows n added c;
}

all-behind : (P : Row → Type 0) (rows : List Row) (row : Row) → AllByRecursion P rows → P row → AllByRecursion P (rows ++ row ∷ [])
all-behind P [] row all here = (here, tt)
all-behind P (r ∷ rows) row all here = (all.0, all-behind P rows row all.1 here)

pub can-drain-held : (setup : Setup) (inputs : List ReadInput) (input : ReadInput) (w : WorldState) (rows : List Row) (n : CurrentInput) (added : List runs.Out) → 0 < setup.config.limits.batch → IsCollecting setup inputs input w rows n added → IsLevel w →
    0 < length n.slots.items → given_at setup.config w.list (next_place n) ≡ None → CanDrain setup w (rows ++ (n.first, record { number = n.number; answer = None }) ∷ [])
can-drain-held setup inputs input w rows n added batch c level some missing =
    let connect = newest-sole setup inputs input w rows n added batch c some missing in
    let len : ℕ = length (taken_in inputs).list in
    let first : (newest inputs input).intake.first ≡ n.first = intake-first len input (refusal_of len input) ∙ sym c.first in
    let sole : length (places_of (newest inputs input).intake input) ≡ 1 =
    ap (λ (i : ReadInput). length (places_of (newest inputs input).intake i)) (sym (intake-input len input (refusal_of len input))) ∙ ap (λ (ps : List ℕ). length ps) connect.sole in
    let many = c.many in
    let at : next_place n ≤ n.first = omega arith in
    record {
      level = level;
      each = all-behind (Waits setup w) rows (n.first, record { number = n.number; answer = None }) (waits-held setup inputs input w rows n added batch c) (record {
        session = connect.session;
        slot = ap (slot_at setup.config w.list) (sym first) ∙ connect.waits;
        bare = refl;
        untaken = c.collected.fresh n.first at;
      });
      fresh = fresh-behind setup inputs input w rows n added c;
    }

-- ---- Answers are collected

untaken-on : (config : Config) (list : List Listed) (place : ℕ) (before after : List ℕ) (os : List Numbered) → length list ≤ place → ((p : ℕ) → p < place → is_taken after p ≡ is_taken before p) → AllByRecursion (IsConnect config list) os →
    AllUntaken before os → AllUntaken after os
untaken-on config list place before after [] le same all untaken = tt
untaken-on config list place before after (o ∷ os) le same all untaken =
    let less : o.intake.first < length list = slot-within config list o.intake.first (Waiting all.0.session) all.0.waits in
    (same o.intake.first (omega arith) ∙ untaken.0, untaken-on config list place before after os le same all.1 untaken.1)

pub collecting-on : (setup : Setup) (inputs : List ReadInput) (input : ReadInput) (old new : WorldState) (rows : List Row) (n m : CurrentInput) (added : List runs.Out) → 0 < setup.config.limits.batch → IsCollecting setup inputs input old rows n added →
    IsCollected setup new m → Keeps n.first old new → Collects n m → IsCollecting setup inputs input new rows m added
collecting-on setup inputs input old new rows n m added batch c so_far keeps collects =
    let first = c.first in
    record {
      list = keeps.list ∙ c.list;
      number = collects.number ∙ c.number;
      first = collects.first ∙ c.first;
      refusal = collects.refusal ∙ c.refusal;
      items = collects.items ∙ c.items;
      many = collects.many ∙ c.many;
      collected = so_far;
      held = c.held;
      untaken = untaken-on setup.config (taken_in inputs).list n.first old.taken new.taken (open_after setup.config inputs) (omega arith) keeps.earlier (incomplete_input_is_one_held_connect setup.config inputs batch) c.untaken;
      outs_before = c.outs_before;
    }

pub collected-intake : (s setup : Setup) (inputs : List ReadInput) (old new : WorldState) (rows : List Row) (n m : CurrentInput) (added : List runs.Out) → 0 < setup.config.limits.batch → s ≡ setup → IsTakenIn setup inputs old rows n added →
    IsCollected s new m → Keeps n.first old new → Collects n m → IsTakenIn s inputs new rows m added
collected-intake s setup inputs old new rows n m added batch same d so_far keeps collects =
    subst (λ (t : Setup). IsTakenIn t inputs new rows m added) (sym same) (record {
      earlier = d.earlier;
      last = d.last;
      are = d.are;
      collecting = collecting-on setup d.earlier d.last old new rows n m added batch d.collecting (subst (λ (t : Setup). IsCollected t new m) same so_far) keeps collects;
    })

pub on-err : {T E P : Type 0} (r : Result T E) → P → OnErr r P
on-err (Ok x) p = tt
on-err (Err e) p = p

pub giving-of : (s setup : Setup) (inputs xs : List ReadInput) (w : WorldState) (rows : List Row) (own : List runs.Out) (added : List runs.Out) → s ≡ setup → inputs ≡ xs → IsGiving setup xs w rows own added → IsGiving s inputs w rows own added
giving-of s setup inputs xs w rows own added same are g =
    subst (λ (t : Setup). IsGiving t inputs w rows own added) (sym same) (subst (λ (ys : List ReadInput). IsGiving setup ys w rows own added) (sym are) g)

-- ---- All outs are appended

none-answered : (rows : List Row) → filter is_answered (filter waits rows) ≡ []
none-answered [] = refl
none-answered (row ∷ rows) = grind (arith, none-answered rows)

pub none-left : (rows after : List Row) → after ≡ filter waits rows → outs_of after ≡ []
none-left rows after is = ap outs_of is ∙ ap (map out_of) (none-answered rows)

pub gives-own : {T E : Type 0} (rows after : List Row) (stage stage' : Stage) (before middle outs' : List Out) (r : Result T E) → Gives rows before middle after → after ≡ filter waits rows → OnOk r (own stage' ≡ []) → OnOk r (outs' ≡ middle ++ own stage) →
    OnErr r (own stage' ≡ own stage) → OnErr r (outs' ≡ middle) → is_collecting stage' ≡ is_collecting stage → GivesOut rows stage before outs' after stage'
gives-own rows after stage stage' before middle outs' (Ok x) g held none added left same collecting = record {
  more = g.more ++ own stage;
  behind = added ∙ ap (λ (os : List Out). os ++ own stage) g.behind ∙ append_assoc before g.more (own stage);
  given =
      let empty : outs_of after ++ own stage' ≡ [] = ap (λ (os : List Out). os ++ own stage') (none-left rows after held) ∙ none in
      let given : outs_of rows ≡ g.more = g.given ∙ ap (λ (os : List Out). g.more ++ os) (none-left rows after held) ∙ append-nil g.more in
      ap (λ (os : List Out). os ++ own stage) given ∙ sym (append-nil (g.more ++ own stage)) ∙ ap (λ (os : List Out). (g.more ++ own stage) ++ os) (sym empty);
  others = g.others;
  collecting = collecting;
}
gives-own rows after stage stage' before middle outs' (Err e) g held none added left same collecting = record {
  more = g.more;
  behind = same ∙ g.behind;
  given = ap (λ (os : List Out). os ++ own stage) g.given ∙ append_assoc g.more (outs_of after) (own stage) ∙ ap (λ (os : List Out). g.more ++ (outs_of after ++ os)) (sym left);
  others = g.others;
  collecting = collecting;
}

pub gives-held : (rows after : List Row) (stage : Stage) (before middle : List Out) → Gives rows before middle after → GivesOut rows stage before middle after stage
gives-held rows after stage before middle g = record {
  more = g.more;
  behind = g.behind;
  given = ap (λ (os : List Out). os ++ own stage) g.given ∙ append_assoc g.more (outs_of after) (own stage);
  others = g.others;
  collecting = refl;
}

pub giving-out : (setup : Setup) (inputs : List ReadInput) (w : WorldState) (rows after : List Row) (stage stage' : Stage) (before outs' : List Out) (added : List runs.Out) → IsGiving setup inputs w rows (map seen_out (own stage)) added →
    (g : GivesOut rows stage before outs' after stage') → IsGiving setup inputs w after (map seen_out (own stage')) (added ++ map seen_out g.more)
giving-out setup inputs w rows after stage stage' before outs' added i g = record {
  list = i.list;
  rest = g.others ∙ i.rest;
  untaken = i.untaken;
  fresh = i.fresh;
  left =
      let more : List runs.Out = map seen_out g.more in
      let mine : List runs.Out = map seen_out (outs_of after) in
      let own' : List runs.Out = map seen_out (own stage') in
      let all : map seen_out (outs_of rows) ++ map seen_out (own stage) ≡ more ++ (mine ++ own') =
      sym (map-append seen_out (outs_of rows) (own stage)) ∙ ap (map seen_out) g.given ∙ map-append seen_out g.more (outs_of after ++ own stage')
      ∙ ap (λ (os : List runs.Out). more ++ os) (map-append seen_out (outs_of after) (own stage')) in
      ap (λ (os : List runs.Out). os ++ own') (append_assoc added more mine)
      ∙ append_assoc added (more ++ mine) own'
      ∙ ap (λ (os : List runs.Out). added ++ os) (append_assoc more mine own' ∙ sym all)
      ∙ sym (append_assoc added (map seen_out (outs_of rows)) (map seen_out (own stage)))
      ∙ i.left;
}

-- ---- The shards have advanced

level-by : (len : ℕ) (x : ℕ) (xs : List ℕ) → ((k n : ℕ) → slice_get xs k ≡ Some n → len ≤ n) → (b : Bool) → nat_lt x len ≡ b → cond b 1 0 + count_by (λ (n : ℕ). nat_lt n len) xs ≡ 0 → (k n : ℕ) → slice_get (x ∷ xs) k ≡ Some n → len ≤ n
level-by len x xs ih n e none k n' found = grind arith

pub count-behind-cons : (len x : ℕ) (xs : List ℕ) → count_by (λ (n : ℕ). nat_lt n len) (x ∷ xs) ≡ cond (nat_lt x len) 1 0 + count_by (λ (n : ℕ). nat_lt n len) xs
count-behind-cons len x xs = sum_by-append (λ (n : ℕ). cond (nat_lt n len) 1 0) (x ∷ []) xs ∙ ap (λ (n : ℕ). n + count_by (λ (m : ℕ). nat_lt m len) xs) (zero-add (cond (nat_lt x len) 1 0))

pub level-all : (len : ℕ) (xs : List ℕ) → count_by (λ (n : ℕ). nat_lt n len) xs ≡ 0 → (k n : ℕ) → slice_get xs k ≡ Some n → len ≤ n
level-all len [] none k n found = let no : None ≡ Some n = found in cc
level-all len (x ∷ xs) none k n found =
    let here : cond (nat_lt x len) 1 0 + count_by (λ (m : ℕ). nat_lt m len) xs ≡ 0 = sym (count-behind-cons len x xs) ∙ none in
    let rest : count_by (λ (m : ℕ). nat_lt m len) xs ≡ 0 = omega arith in
    level-by len x xs (level-all len xs rest) (nat_lt x len) refl here k n found

pub collecting-same : (setup : Setup) (inputs : List ReadInput) (input : ReadInput) (old new : WorldState) (rows : List Row) (n : CurrentInput) (added : List runs.Out) → new.list ≡ old.list → new.taken ≡ old.taken →
    IsCollecting setup inputs input old rows n added → IsCollecting setup inputs input new rows n added
collecting-same setup inputs input old new rows n added list taken c = record {
  list = list ∙ c.list;
  number = c.number;
  first = c.first;
  refusal = c.refusal;
  items = c.items;
  many = c.many;
  collected = record {
    answers = subst (λ (ls : List Listed). AreAnswers setup.config ls n.first n.answers.items) (sym list) c.collected.answers;
    slots = subst (λ (ls : List Listed). EachSlot setup ls (next_place n) n.slots.items) (sym list) c.collected.slots;
    fresh = subst (NoneTakenFrom (next_place n)) (sym taken) c.collected.fresh;
  };
  held = c.held;
  untaken = subst (λ (ns : List ℕ). AllUntaken ns (open_after setup.config inputs)) (sym taken) c.untaken;
  outs_before = c.outs_before;
}

pub intake-same : (s setup : Setup) (inputs : List ReadInput) (old new : WorldState) (rows : List Row) (n : CurrentInput) (added : List runs.Out) → s ≡ setup → new.list ≡ old.list → new.taken ≡ old.taken →
    IsTakenIn setup inputs old rows n added → IsTakenIn s inputs new rows n added
intake-same s setup inputs old new rows n added same list taken d =
    subst (λ (t : Setup). IsTakenIn t inputs new rows n added) (sym same)
    (record { earlier = d.earlier; last = d.last; are = d.are; collecting = collecting-same setup d.earlier d.last old new rows n added list taken d.collecting })
