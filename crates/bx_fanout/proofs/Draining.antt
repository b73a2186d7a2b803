-- Proves that all filed answers are taken, shard by shard, and assigned to their connects.
use Rattle.std.proofs.Common.{◌≡◌, ◌≢◌, ℕ, ◌+◌, ◌<◌, ◌≤◌, Bool, true, false, List, [], ◌∷◌, ◌++◌, length, map, find, refl, sym, ap, subst, ◌∙◌, arith, inl, inr, Option, Some, None, option_map, slice_index, flat_map, nat_lt, eqb-true}
use Rattle.std.specs.Prelude.{◌&&◌, ◌||◌, ◌==◌, ◌⊎◌, is_none, if◌then◌else◌, IfNone}
use Rattle.std.specs.List.{AllByRecursion}
use Rattle.std.proofs.lemmas.{Bool.cases_lt, Bool.false≢true, Bool.eqb-false, List.Folds.list_any-append}
use Rattle.bx_advice.specs.declared.config.Config.{Config}
use Rattle.bx_entry.specs.Words.{PlacedAnswer, answer_of, Listed, Waiting, Filed, Session}
use Rattle.bx_entry.specs.declared.entry.Ticket.{Ticket}
use Rattle.bx_theory.proofs.Wholes.{beyond}
use Rattle.bx_message.specs.declared.reply.Answer.{Answer}
use Rattle.bx_shard.specs.Words.{Setup, is_taken, sessions_in, shard_at, given_of}
use Rattle.bx_world.specs.Words.{IsTicket, slot_at, IsOutput, WorldState, after, filed_under}
use Rattle.bx_world.specs.declared.step.Step.TheVariants.{Take}
use Rattle.bx_world.specs.declared.step.StepOut.TheVariants.{Taken}
use Rattle.bx_fanout.specs.Words.{Row, answered_at, waits_there, with_answer, CanDrain, Drained, Draining, IsEmptied, Waits, count_filed, filled, put_if}
use Rattle.bx_fanout.specs.CurrentInputs.{IsLevel, NoneTakenFrom, given_at}
use Rattle.bx_fanout.proofs.Collecting.{AllPlaced, take-gives, take-is-answer, taken-more}
use Rattle.bx_shard.proofs.{Taking.taken_own, Untaken.untaken}

-- ---- One answer

pub inside : (config : Config) (list : List Listed) (place : ℕ) (a : Answer) → given_at config list place ≡ Some a → place < length list
inside config list place a given = by (cases_lt place (length list))
  where
    by : (place < length list) ⊎ (length list ≤ place) → place < length list
    by (inl less) = less
    by (inr le) =
        let none : given_at config list place ≡ None = ap (λ (o : Option PlacedAnswer). option_map given_of o) (beyond config list place le) in
        let both : Some a ≡ None = sym given ∙ none in
        cc

put-by : (place n : ℕ) (a : Answer) (g : Option Answer) (e t u : Bool) → (e ≡ true → g ≡ Some a) → (e ≡ true → u ≡ true) → (e ≡ false → u ≡ t) →
    (if e && is_none (if t then g else None) then with_answer a (place, record { number = n; answer = if t then g else None }) else (place, record { number = n; answer = if t then g else None }))
    ≡ (place, record { number = n; answer = if u then g else None })
put-by place n a g e t u given taken other = grind arith

put-row : (config : Config) (list : List Listed) (taken : List ℕ) (c : ℕ) (a : Answer) (row : Row) → given_at config list c ≡ Some a →
    (if waits_there c (put_if config list taken row) then with_answer a (put_if config list taken row) else put_if config list taken row) ≡ put_if config list (taken ++ c ∷ []) row
put-row config list taken c a row given =
    put-by row.0 row.1.number a (given_at config list row.0) (row.0 == c) (is_taken taken row.0) (is_taken (taken ++ c ∷ []) row.0)
    (λ e. ap (given_at config list) (eqb-true row.0 c e) ∙ given)
    (λ e. ap (is_taken (taken ++ c ∷ [])) (eqb-true row.0 c e) ∙ taken_own taken c)
    (λ e. let other : row.0 ≢ c = eqb-false row.0 c e in let turned : c ≢ row.0 = omega arith in taken-more taken c row.0 turned)

put-rows : (config : Config) (list : List Listed) (taken : List ℕ) (c : ℕ) (a : Answer) (rows : List Row) → given_at config list c ≡ Some a →
    answered_at c a (map (put_if config list taken) rows) ≡ map (put_if config list (taken ++ c ∷ [])) rows
put-rows config list taken c a [] given = refl
put-rows config list taken c a (row ∷ rows) given =
    ap (λ (r : Row). r ∷ answered_at c a (map (put_if config list taken) rows)) (put-row config list taken c a row given)
    ∙ ap (λ (rs : List Row). put_if config list (taken ++ c ∷ []) row ∷ rs) (put-rows config list taken c a rows given)

apart : (config : Config) (list : List Listed) (c p : ℕ) (a : Answer) → given_at config list c ≡ Some a → given_at config list p ≡ None → c ≢ p
apart config list c p a given none same = grind arith

untaken-more : (config : Config) (list : List Listed) (taken : List ℕ) (c : ℕ) (a : Answer) (rows : List Row) → given_at config list c ≡ Some a →
    AllByRecursion (λ (row : Row). given_at config list row.0 ≡ None → is_taken taken row.0 ≡ false) rows → AllByRecursion (λ (row : Row). given_at config list row.0 ≡ None → is_taken (taken ++ c ∷ []) row.0 ≡ false) rows
untaken-more config list taken c a [] given all = tt
untaken-more config list taken c a (row ∷ rows) given all =
    ((λ none. taken-more taken c row.0 (apart config list c row.0 a given none) ∙ all.0 none), untaken-more config list taken c a rows given all.1)

before-by : (taken : List ℕ) (c p : ℕ) → is_taken (taken ++ c ∷ []) p ≡ false → (b : Bool) → (c == p) ≡ b → is_taken taken p ≡ false
before-by taken c p e true same =
    let yes : is_taken (taken ++ c ∷ []) p ≡ true = ap (is_taken (taken ++ c ∷ [])) (sym (eqb-true c p same)) ∙ taken_own taken c in
    let both : true ≡ false = sym yes ∙ e in
    cc
before-by taken c p e false other = sym (taken-more taken c p (eqb-false c p other)) ∙ e

draining-on : (setup : Setup) (before : List Row) (list : List Listed) (applied taken : List ℕ) (rows : List Row) (shard c : ℕ) (a : Answer) → given_at setup.config list c ≡ Some a →
    Draining setup before (record { list = list; applied = applied; taken = taken }) rows shard → Draining setup before (record { list = list; applied = applied; taken = taken ++ c ∷ [] }) (answered_at c a rows) shard
draining-on setup before list applied taken rows shard c a given d = record {
  level = d.level;
  put = ap (answered_at c a) d.put ∙ put-rows setup.config list taken c a before given;
  untaken = untaken-more setup.config list taken c a before given d.untaken;
  fresh = λ p le. let less : c < length list = inside setup.config list c a given in let other : c ≢ p = omega arith in taken-more taken c p other ∙ d.fresh p le;
  emptied = λ k less place session slot at none. d.emptied k less place session slot at (before-by taken c place none (c == place) refl);
}

pub draining-more : (setup : Setup) (before : List Row) (old new : WorldState) (rows after' : List Row) (shard : ℕ) (t : Ticket) (a : Answer) → 0 < setup.config.limits.batch → IsOutput setup old (Take t) (Taken (Some a)) →
    new ≡ after old (Take t) (Taken (Some a)) → after' ≡ answered_at t.place a rows → Draining setup before old rows shard → Draining setup before new after' shard
draining-more setup before old new rows after' shard t a batch output step put d =
    let more : Draining setup before (after old (Take t) (Taken (Some a))) (answered_at t.place a rows) shard =
    draining-on setup before old.list old.applied old.taken rows shard t.place a (take-is-answer setup old t a batch output) d in
    let world : Draining setup before new (answered_at t.place a rows) shard = subst (λ (w : WorldState). Draining setup before w (answered_at t.place a rows) shard) (sym step) more in
    subst (λ (rs : List Row). Draining setup before new rs shard) (sym put) world

-- ---- The shard has no more answers

emptied-now : (setup : Setup) (w : WorldState) (shard : ℕ) → 0 < setup.config.limits.batch → AllPlaced setup w → IsLevel w → ((place : ℕ) → filed_under setup w (record { place = place; shard = shard }) ≡ None) → IsEmptied setup w.list w.taken shard
emptied-now setup w shard batch placed level none place session slot at untaken =
    let ticket : IsTicket setup w.list place (record { place = place; shard = shard }) = record { session = session; waits = slot; place = refl; shard = sym at } in
    sym (take-gives setup w (record { place = place; shard = shard }) place None batch placed ticket level untaken (inl (ap (λ (o : Option PlacedAnswer). Taken (option_map given_of o)) (sym (none place)))))

emptied-by : (setup : Setup) (w : WorldState) (shard k : ℕ) → ((j : ℕ) → j < shard → IsEmptied setup w.list w.taken j) → IsEmptied setup w.list w.taken shard → k < shard + 1 → (k < shard) ⊎ (shard ≤ k) → IsEmptied setup w.list w.taken k
emptied-by setup w shard k below here less (inl l) = below k l
emptied-by setup w shard k below here less (inr le) = let same : shard ≡ k = omega arith in subst (IsEmptied setup w.list w.taken) same here

pub draining-next : (setup : Setup) (before : List Row) (w : WorldState) (rows : List Row) (shard : ℕ) → 0 < setup.config.limits.batch → AllPlaced setup w → ((place : ℕ) → filed_under setup w (record { place = place; shard = shard }) ≡ None) →
    Draining setup before w rows shard → Draining setup before w rows (shard + 1)
draining-next setup before w rows shard batch placed none d = record {
  level = d.level;
  put = d.put;
  untaken = d.untaken;
  fresh = d.fresh;
  emptied = λ k less. emptied-by setup w shard k d.emptied (emptied-now setup w shard batch placed d.level none) less (cases_lt k shard);
}

-- ---- One answer fewer is filed

stays-taken : (taken : List ℕ) (c p : ℕ) → is_taken taken p ≡ true → is_taken (taken ++ c ∷ []) p ≡ true
stays-taken taken c p e = list_any-append (λ (t : ℕ). t == p) taken (c ∷ []) ∙ ap (λ (b : Bool). b || ((c == p) || false)) e

fewer-or-same : (taken : List ℕ) (c : ℕ) (fs : List Filed) → length (untaken (taken ++ c ∷ []) fs) ≤ length (untaken taken fs)
fewer-or-same taken c [] = omega arith
fewer-or-same taken c (f ∷ fs) = grind (arith, fewer-or-same taken c fs, stays-taken taken c f.connect)

fewer-filed : (taken : List ℕ) (c : ℕ) (g : Filed) (fs : List Filed) → find (λ (f : Filed). f.connect == c) (untaken taken fs) ≡ Some g → length (untaken (taken ++ c ∷ []) fs) < length (untaken taken fs)
fewer-filed taken c g [] found = cc
fewer-filed taken c g (f ∷ fs) found = grind (arith, fewer-or-same taken c fs, fewer-filed taken c g fs, stays-taken taken c f.connect, taken_own taken c)

some-found : (o : Option Filed) (a : Answer) → option_map given_of (option_map answer_of o) ≡ Some a → (g : Filed) × (o ≡ Some g)
some-found None a e = cc
some-found (Some g) a e = (g, refl)

given-by : (a : Answer) (o : Option Answer) → Taken (Some a) ≡ Taken o → o ≡ Some a
given-by a o e = cc

fewer-at : (setup : Setup) (w : WorldState) (shard c : ℕ) (a : Answer) (b : Bool) → nat_lt shard (length w.applied) ≡ b →
    option_map given_of (if b then option_map answer_of (find (λ (f : Filed). f.connect == c) (shard_at setup w.list w.taken shard (slice_index w.applied shard)).filed) else None) ≡ Some a →
    count_filed setup (after w (Take (record { place = c; shard = shard })) (Taken (Some a))) shard < count_filed setup w shard
fewer-at setup w shard c a false e given = cc
fewer-at setup w shard c a true e given =
    let found = some-found (find (λ (f : Filed). f.connect == c) (shard_at setup w.list w.taken shard (slice_index w.applied shard)).filed) a given in
    fewer-filed w.taken c found.0 (flat_map (λ (s : Session). s.answers) (sessions_in setup w.list shard (slice_index w.applied shard))) found.1

fewer-out : (setup : Setup) (w : WorldState) (shard c : ℕ) (a : Answer) → IsOutput setup w (Take (record { place = c; shard = shard })) (Taken (Some a)) →
    count_filed setup (after w (Take (record { place = c; shard = shard })) (Taken (Some a))) shard < count_filed setup w shard
fewer-out setup w shard c a (inl is) = fewer-at setup w shard c a (nat_lt shard (length w.applied)) refl (given-by a _ is)
fewer-out setup w shard c a (inr (refused, is)) = absurd (false≢true refused)

pub fewer-count : (s setup : Setup) (old new : WorldState) (shard c : ℕ) (a : Answer) → s ≡ setup → IsOutput setup old (Take (record { place = c; shard = shard })) (Taken (Some a)) → new ≡ after old (Take (record { place = c; shard = shard })) (Taken (Some a)) →
    count_filed s new shard < count_filed setup old shard
fewer-count s setup old new shard c a same output step =
    let less = fewer-out setup old shard c a output in
    let moved : count_filed setup new shard < count_filed setup old shard = subst (λ (w : WorldState). count_filed setup w shard < count_filed setup old shard) (sym step) less in
    subst (λ (t : Setup). count_filed t new shard < count_filed setup old shard) (sym same) moved

-- ---- All shards

bare-row : (config : Config) (list : List Listed) (taken : List ℕ) (row : Row) → row.1.answer ≡ None → is_taken taken row.0 ≡ false → row ≡ put_if config list taken row
bare-row config list taken row bare untaken =
    ap (λ (o : Option Answer). (row.0, record { number = row.1.number; answer = o })) (bare ∙ ap (λ (b : Bool). if b then given_at config list row.0 else None) (sym untaken))

bare-rows : (setup : Setup) (w : WorldState) (rows : List Row) → AllByRecursion (Waits setup w) rows → rows ≡ map (put_if setup.config w.list w.taken) rows
bare-rows setup w [] each = refl
bare-rows setup w (row ∷ rows) each =
    ap (λ (r : Row). r ∷ rows) (bare-row setup.config w.list w.taken row each.0.bare each.0.untaken)
    ∙ ap (λ (rs : List Row). put_if setup.config w.list w.taken row ∷ rs) (bare-rows setup w rows each.1)

none-taken : (setup : Setup) (w : WorldState) (rows : List Row) → AllByRecursion (Waits setup w) rows → AllByRecursion (λ (row : Row). given_at setup.config w.list row.0 ≡ None → is_taken w.taken row.0 ≡ false) rows
none-taken setup w [] each = tt
none-taken setup w (row ∷ rows) each = ((λ none. each.0.untaken), none-taken setup w rows each.1)

pub draining-first : (setup : Setup) (w : WorldState) (rows : List Row) → CanDrain setup w rows → Draining setup rows w rows 0
draining-first setup w rows can = record {
  level = can.level;
  put = bare-rows setup w rows can.each;
  untaken = none-taken setup w rows can.each;
  fresh = can.fresh;
  emptied = λ k less. absurd (omega arith);
}

filled-by : (config : Config) (list : List Listed) (row : Row) (b : Bool) → (b ≡ false → given_at config list row.0 ≡ None) →
    (row.0, record { number = row.1.number; answer = if b then given_at config list row.0 else None }) ≡ filled config list row
filled-by config list row true none = refl
filled-by config list row false none = ap (λ (o : Option Answer). (row.0, record { number = row.1.number; answer = o })) (sym (none refl))

all-filled : (setup : Setup) (old w : WorldState) (rows : List Row) → w.list ≡ old.list → ((session : ℕ) → setup.placing session setup.shards < setup.shards) → ((k : ℕ) → k < setup.shards → IsEmptied setup w.list w.taken k) →
    AllByRecursion (Waits setup old) rows → map (put_if setup.config w.list w.taken) rows ≡ map (filled setup.config w.list) rows
all-filled setup old w [] list placed emptied each = refl
all-filled setup old w (row ∷ rows) list placed emptied each =
    let session : ℕ = each.0.session in
    let slot : slot_at setup.config w.list row.0 ≡ Some (Waiting session) = ap (λ (ls : List Listed). slot_at setup.config ls row.0) list ∙ each.0.slot in
    let head : put_if setup.config w.list w.taken row ≡ filled setup.config w.list row = filled-by setup.config w.list row (is_taken w.taken row.0) (λ e. emptied (setup.placing session setup.shards) (placed session) row.0 session slot refl e) in
    ap (λ (r : Row). r ∷ map (put_if setup.config w.list w.taken) rows) head ∙ ap (λ (rs : List Row). filled setup.config w.list row ∷ rs) (all-filled setup old w rows list placed emptied each.1)

pub draining-last : (setup : Setup) (old w : WorldState) (before rows : List Row) → w.list ≡ old.list → w.applied ≡ old.applied → ((session : ℕ) → setup.placing session setup.shards < setup.shards) →
    CanDrain setup old before → Draining setup before w rows setup.shards → Drained setup old before w rows
draining-last setup old w before rows list applied placed can d = record {
  list = list;
  applied = applied;
  rows = d.put ∙ all-filled setup old w before list placed d.emptied can.each ∙ ap (λ (ls : List Listed). map (filled setup.config ls) before) list;
  untaken = subst (λ (ls : List Listed). AllByRecursion (λ (row : Row). given_at setup.config ls row.0 ≡ None → is_taken w.taken row.0 ≡ false) before) list d.untaken;
  fresh = subst (λ (ls : List Listed). NoneTakenFrom (length ls) w.taken) list d.fresh;
}

pub at-none : {A P : Type 0} (o : Option A) → o ≡ None → IfNone o P → P
at-none None e h = h
at-none (Some x) e h = cc
