-- What a shard's lock guards stays right when the shard learns, advances and returns answers.
use Rattle.std.proofs.Common.{◌≡◌, ℕ, ◌+◌, ◌-◌, ◌<◌, ◌≤◌, List, [], ◌∷◌, ◌++◌, length, take, drop, slice_get, option_map, Option, Some, None, refl, ap, sym, ◌∙◌, subst, arith, take-append-drop}
use Rattle.std.specs.Prelude.{Result, Ok, Err, OnOk, OnErr, Bool, true, false, if◌then◌else◌}
use Rattle.std.specs.Option.{IsSome}
use mathlib.Core.List.{IsPrefix}
use Rattle.bx_advice.specs.declared.config.Config.{Config}
use Rattle.bx_message.specs.declared.reply.Answer.{Answer}
use Rattle.bx_entry.specs.Words.{answer, Listed, entries}
use Rattle.bx_entry.specs.declared.entry.{Batch.Batch, Entry.Entry}
use Rattle.bx_connects.specs.Connects.{filed_answer}
use Rattle.futures.specs.declared.task.waker.Waker.{Waker}
use Rattle.bx_shard.specs.Words.{Refines, Took, given_of, swept_places, Setup, Applied, IsAsBefore, IsSound, State, Swept, Watched, WasShut, connect_in}
use Rattle.bx_shard.proofs.{Holding.refines_unchanged, Holding.refines_longer_list, Onwards.refines_applied, Sweeping.refines_swept, Taking.refines_taken, Waking.refines_watched, Waking.refines_shut}
use Rattle.bx_theory.proofs.Verdicts.{entry_placed}
use Rattle.bx_entry.specs.declared.Placing as Placing
use Rattle.bx_window.specs.declared.law.LogId as LogId
use Rattle.bx_window.specs.declared.law.LogStep.{LogStep}
use Rattle.bx_window.specs.Steps.{list_of, setup_of}
use Rattle.bx_window.specs.Places.{IsOf, StandsIn}
use Rattle.bx_window.proofs.{Fronts.prefix_self, Fronts.prefix_trans, Lists.list_of-prefix}
use Rattle.bx_hub.specs.Held.{Held, Stands, answer_over, held_of}
use Rattle.bx_hub.specs.declared.shard_state.ShardState.{ShardState}
use Rattle.bx_shard.proofs.Given.{filed_answers_match_definitions, given_longer, as_before}
use Rattle.bx_hub.proofs.Lists.{takes_same, got, list_length}

-- ---- The fields of a shard state

prefix_taken : {A : Type 0} (xs ys : List A) → IsPrefix xs ys → take (length xs) ys ≡ xs
prefix_taken [] ys p = refl
prefix_taken (x ∷ xs) [] p = absurd (cc (p.1))
prefix_taken (x ∷ xs) (y ∷ ys) p =
    let heads : x ≡ y = cc (p.1) in
    let rest = prefix_taken xs ys (p.0, cc (p.1)) in
    cc (heads, rest)

pub taken_prefix : {A : Type 0} (xs ys : List A) → take (length xs) ys ≡ xs → IsPrefix xs ys
taken_prefix xs ys e = (drop (length xs) ys, ap (λ l. l ++ drop (length xs) ys) (sym e) ∙ take-append-drop (length xs) ys)

-- Proves `Stands` of what a shard's lock guards, by the ghost fields of the shard state `d`.
pub stands_in : {L P : Type 0} {g : LogId.Ghosts L} {h : Placing.Ghosts P} (d : ShardState L P g h) → Stands (setup_of g.config g.placing) (held_of d)
stands_in d = record { learnt = taken_prefix d.prefix d.reader d.learnt; within = d.within; holds = d.holds }

-- Proves the ghost field `learnt` of a shard state.
pub learnt_by : {setup : Setup} {h : Held} → Stands setup h → take (length h.told) h.seen ≡ h.told
learnt_by {setup} {h} s = prefix_taken h.told h.seen s.learnt

-- ---- Learning a front

refines_over : (setup : Setup) (xs ys : List Listed) (taken : List ℕ) (k n : ℕ) (s : State) → IsPrefix xs ys → Refines setup xs taken k n s → Refines setup ys taken k n s
refines_over setup xs ys taken k n s p h = subst (λ (l : List Listed). Refines setup l taken k n s) p.1 (refines_longer_list setup xs p.0 taken k n s h)

pub stands_grown : {setup : Setup} {h : Held} (seen told : List LogStep) → Stands setup h → IsPrefix h.seen seen → IsPrefix h.told told → IsPrefix told seen → Stands setup (record h { seen = seen; told = told })
stands_grown {setup} {h} seen told s p q r =
    let a = list_length h.told told q in
    record {
      learnt = r;
      within = omega (arith, s.within, a);
      holds = refines_over setup (list_of h.seen) (list_of seen) h.taken h.state.index h.state.place h.state (list_of-prefix h.seen seen p) s.holds;
    }

pub stands_seen : {setup : Setup} {h : Held} (seen : List LogStep) → Stands setup h → IsPrefix h.seen seen → Stands setup (record h { seen = seen })
stands_seen {setup} {h} seen s p = stands_grown seen h.told s p (prefix_self h.told) (prefix_trans h.told h.seen seen s.learnt p)

pub not_level : {setup : Setup} {h : Held} (seen : List LogStep) → Stands setup h → IsPrefix h.seen seen → h.state.place < length (list_of h.told) → ¬ (length (list_of seen) ≤ h.state.place)
not_level {setup} {h} seen s p lt le =
    let a = list_length h.told h.seen s.learnt in
    let b = list_length h.seen seen p in
    absurd (omega (arith, a, b, lt, le))

-- ---- Applying an entry

pub entry_here : (config : Config) (seen : List LogStep) (b : Batch) (place : ℕ) (e : Entry) → IsOf b place × StandsIn config (list_of seen) b → slice_get b.entries (place - b.first) ≡ Some e → e.place ≡ place
entry_here config seen b place e right is = entry_placed config (list_of seen) place e (got config (list_of seen) b place e right.1 right.0 is)

-- Proves `Stands` of the shard after a call, `t`, with place `n` and the same index as before.
stands_at : {setup : Setup} {h : Held} (taken : List ℕ) (n : ℕ) (t : State) → Stands setup h → t.index ≡ h.state.index → t.place ≡ n → n ≤ length (list_of h.told) → Refines setup (list_of h.seen) taken h.state.index n t
    → Stands setup (record h { taken = taken; state = t })
stands_at {setup} {h} taken n t s index place within on =
    let placed : Refines setup (list_of h.seen) taken h.state.index t.place t = subst (λ (m : ℕ). Refines setup (list_of h.seen) taken h.state.index m t) (sym place) on in
    record {
      learnt = s.learnt;
      within = omega (arith, within, place);
      holds = subst (λ (i : ℕ). Refines setup (list_of h.seen) taken i t.place t) (sym index) placed;
    }

stands_still : {setup : Setup} {h : Held} (t : State) → Stands setup h → IsAsBefore h.state t → IsSound t → Stands setup (record h { state = t })
stands_still {setup} {h} t s b sound =
    let on : Refines setup (list_of h.seen) h.taken h.state.index h.state.place t = refines_unchanged setup (list_of h.seen) h.taken h.state.index h.state.place h.state t s.holds b sound in
    stands_at h.taken h.state.place t s b.index b.place s.within on

stands_stepped : {setup : Setup} {h : Held} (t : State) (b : Batch) (e : Entry) → Stands setup h → 0 < setup.config.limits.batch → h.state.place < length (list_of h.told)
    → IsOf b h.state.place × StandsIn setup.config (list_of h.seen) b → slice_get b.entries (h.state.place - b.first) ≡ Some e → Applied h.state e t → IsSound t → Stands setup (record h { state = t })
stands_stepped {setup} {h} t b e s room lt right is applied sound =
    let there : slice_get (entries setup.config (list_of h.seen)) h.state.place ≡ Some e = got setup.config (list_of h.seen) b h.state.place e right.1 right.0 is in
    let here : e.place ≡ h.state.place = entry_placed setup.config (list_of h.seen) h.state.place e there in
    let next : t.place ≡ h.state.place + 1 = applied.place ∙ ap (λ n. n + 1) here in
    let on : Refines setup (list_of h.seen) h.taken h.state.index (h.state.place + 1) t = refines_applied setup (list_of h.seen) h.taken h.state.index h.state.place e h.state t room there s.holds applied sound in
    stands_at h.taken (h.state.place + 1) t s applied.index next (omega (arith, lt)) on

pub stands_applied : {X Y : Type 0} {setup : Setup} {h : Held} (t : State) (b : Batch) (e : Entry) (r : Result X Y) → Stands setup h → 0 < setup.config.limits.batch → h.state.place < length (list_of h.told)
    → IsOf b h.state.place × StandsIn setup.config (list_of h.seen) b → slice_get b.entries (h.state.place - b.first) ≡ Some e → OnOk r (Applied h.state e t) → OnErr r (IsAsBefore h.state t) → IsSound t → Stands setup (record h { state = t })
stands_applied t b e (Ok x) s room lt right is done refused sound = stands_stepped t b e s room lt right is done sound
stands_applied t b e (Err x) s room lt right is done refused sound = stands_still t s refused sound

-- ---- Taking an answer

-- Proves that a filed answer is what a single-threaded server gives with the list of `h.told`.
filed_told : (setup : Setup) (h : Held) (place : ℕ) (a : Answer) → 0 < setup.config.limits.batch → Stands setup h → filed_answer (connect_in h.state place) ≡ Some a → answer_over setup.config h.told place ≡ Some a
filed_told setup h place a room s e =
    let n : ℕ = h.state.place in
    let short : option_map given_of (answer setup.config (take n (list_of h.seen)) place) ≡ Some a = filed_answers_match_definitions setup (list_of h.seen) h.taken h.state.index n place h.state a s.holds e in
    let same : take n (list_of h.seen) ≡ take n (list_of h.told) = takes_same n (list_of h.told) (list_of h.seen) (list_of-prefix h.told h.seen s.learnt) s.within in
    let there : option_map given_of (answer setup.config (take n (list_of h.told)) place) ≡ Some a = subst (λ (l : List Listed). option_map given_of (answer setup.config l place) ≡ Some a) same short in
    given_longer setup.config (take n (list_of h.told)) (list_of h.told) place a room (drop n (list_of h.told), take-append-drop n (list_of h.told)) there

pub over_longer : (config : Config) (xs ys : List LogStep) (place : ℕ) (a : Answer) → 0 < config.limits.batch → IsPrefix xs ys → answer_over config xs place ≡ Some a → answer_over config ys place ≡ Some a
over_longer config xs ys place a room p e = given_longer config (list_of xs) (list_of ys) place a room (list_of-prefix xs ys p) e

own_filed : (own : Bool) (o r : Option Answer) (a : Answer) → r ≡ (if own then o else None) → r ≡ Some a → (own ≡ true) × (o ≡ Some a)
own_filed true o r a e is = (refl, sym e ∙ is)
own_filed false o r a e is = let no : None ≡ Some a = sym e ∙ is in cc

-- Proves that an answer that a shard gave is what a single-threaded server gives, with the list of
-- `h.told`. `own`: whether the ticket names the shard.
pub given_told : {setup : Setup} {h : Held} (place : ℕ) (own : Bool) (r : Option Answer) (a : Answer) → Stands setup h → 0 < setup.config.limits.batch → r ≡ (if own then filed_answer (connect_in h.state place) else None) → r ≡ Some a
    → answer_over setup.config h.told place ≡ Some a
given_told {setup} {h} place own r a s room e is = filed_told setup h place a room s (own_filed own (filed_answer (connect_in h.state place)) r a e is).1

pub stands_taken : {setup : Setup} {h : Held} {taken : List ℕ} (place : ℕ) (t : State) (own : Bool) (r : Option Answer) (a : Answer) → Stands setup h → 0 < setup.config.limits.batch → r ≡ (if own then filed_answer (connect_in h.state place) else None) → r ≡ Some a
    → (own ≡ true → Took place h.state t) → IsSound t → taken ≡ h.taken ++ place ∷ [] → Stands setup (record h { taken = taken; state = t })
stands_taken {setup} {h} {taken} place t own r a s room e is own_took sound same =
    let here = own_filed own (filed_answer (connect_in h.state place)) r a e is in
    let took = own_took here.0 in
    let on : Refines setup (list_of h.seen) (h.taken ++ place ∷ []) h.state.index h.state.place t = refines_taken setup (list_of h.seen) h.taken h.state.index h.state.place place h.state t room s.holds (subst IsSome (sym here.1) refl) took sound in
    stands_at taken h.state.place t s took.index_is took.place_is s.within (subst (λ (l : List ℕ). Refines setup (list_of h.seen) l h.state.index h.state.place t) (sym same) on)

pub stands_untaken : {setup : Setup} {h : Held} (place : ℕ) (t : State) (own : Bool) (r : Option Answer) → Stands setup h → r ≡ (if own then filed_answer (connect_in h.state place) else None) → r ≡ None
    → (own ≡ true → Took place h.state t) → (own ≡ false → t ≡ h.state) → IsSound t → Stands setup (record h { state = t })
stands_untaken {setup} {h} place t true r s e is took same sound = stands_still t s (as_before place h.state t (sym e ∙ is) (took refl)) sound
stands_untaken {setup} {h} place t false r s e is took same sound = subst (λ (u : State). Stands setup (record h { state = u })) (sym (same refl)) s

-- ---- Other calls

pub stands_watched : {setup : Setup} {h : Held} (place : ℕ) (waker : Waker) (t : State) (own : Bool) → Stands setup h → (own ≡ true → Watched place waker h.state t) → (own ≡ false → t ≡ h.state) → IsSound t → Stands setup (record h { state = t })
stands_watched {setup} {h} place waker t true s watched same sound =
    let w = watched refl in
    let on : Refines setup (list_of h.seen) h.taken h.state.index h.state.place t = refines_watched setup (list_of h.seen) h.taken h.state.index h.state.place place waker h.state t s.holds w sound in
    stands_at h.taken h.state.place t s w.index w.place s.within on
stands_watched {setup} {h} place waker t false s watched same sound = subst (λ (u : State). Stands setup (record h { state = u })) (sym (same refl)) s

pub stands_swept : {setup : Setup} {h : Held} {taken : List ℕ} (before : ℕ) (t : State) → Stands setup h → Swept before h.state t → IsSound t → taken ≡ h.taken ++ swept_places before h.state → Stands setup (record h { taken = taken; state = t })
stands_swept {setup} {h} {taken} before t s w sound same =
    let on : Refines setup (list_of h.seen) (h.taken ++ swept_places before h.state) h.state.index h.state.place t = refines_swept setup (list_of h.seen) h.taken h.state.index h.state.place before h.state t s.holds w sound in
    stands_at taken h.state.place t s w.index w.place s.within (subst (λ (l : List ℕ). Refines setup (list_of h.seen) l h.state.index h.state.place t) (sym same) on)

pub stands_shut : {setup : Setup} {h : Held} (t : State) → Stands setup h → WasShut h.state t → IsSound t → Stands setup (record h { state = t })
stands_shut {setup} {h} t s w sound =
    let on : Refines setup (list_of h.seen) h.taken h.state.index h.state.place t = refines_shut setup (list_of h.seen) h.taken h.state.index h.state.place h.state t s.holds w sound in
    stands_at h.taken h.state.place t s w.index w.place s.within on
