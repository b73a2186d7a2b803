-- Proves that all inputs with outs to print are kept.
use Rattle.std.proofs.Common.{◌≡◌, ℕ, zero, suc, ◌+◌, ◌<◌, Bool, true, false, cond, not, Option, Some, None, List, [], ◌∷◌, ◌++◌, length, map, filter, drop, drop-cons, get_or, refl, sym, ap, ◌∙◌, subst, arith, append-nil, eqb-true}
use Rattle.std.specs.Prelude.{◌==◌, IsSome, is_some}
use Rattle.std.specs.{BTreeMap.is_at, Ordering.nat_cmp}
use Rattle.std.proofs.lemmas.{Bool.Decides.nat_tests, List.map-append, List.append_cancel_left, Option.slice_get_within}
use Rattle.bx_history.proofs.Tests.{eqb_sym}
use Rattle.bx_replay.specs.Kept.{AllKept, AreKept, IsKept, Keeps, inputs_given, without}
use Rattle.bx_replay.specs.declared.kept.PendingLine.{PendingLine}
use Rattle.bx_advice.specs.declared.config.Config.{Config}
use Rattle.bx_entry.specs.Words.{ReadInput, Registry, Out, held, outs}
use Rattle.bx_script.specs.Replay.{Numbered}
use Rattle.bx_theory.specs.Opens as opens
use Rattle.bx_theory.specs.Opens.{is_whole, newest, open_after, out_of, registry_after, waiting_at}
use Rattle.bx_fanout.specs.Stages.{seen_out}
use Rattle.bx_fanout.specs.declared.out.Out as fanout
use Rattle.bx_theory.proofs.Opens.{incomplete_inputs_are_reported_held, input_stays_incomplete_until_completed, input_appends_outs_it_completes}
use Rattle.bx_fanout.proofs.HeldInputs.{at-is}

-- ---- Each input once

some_other : (a b : Bool) (o : Option PendingLine) → b ≡ a → IsSome (cond a None o) → (IsSome o) × (IsSome (cond b None o))
some_other true b o e h = cc
some_other false b o e h = (h, subst (λ (c : Bool). IsSome (cond c None o)) (sym e) h)

pub same_kept : (is : List ℕ) (f g : ℕ → Option PendingLine) → ((i : ℕ) → f i ≡ g i) → AllKept f is → AllKept g is
same_kept [] f g e h = tt
same_kept (i ∷ is) f g e h = (subst IsSome (e i) h.0, same_kept is (without i f) (without i g) (λ j. ap (λ (o : Option PendingLine). cond (j == i) None o) (e j)) h.1)

swapped : (a b : Bool) (o : Option PendingLine) → cond a None (cond b None o) ≡ cond b None (cond a None o)
swapped true true o = refl
swapped true false o = refl
swapped false true o = refl
swapped false false o = refl

kept_in : (xs ys : List ℕ) (f : ℕ → Option PendingLine) (o : ℕ) → IsSome (f o) → AllKept (without o f) (xs ++ ys) → AllKept f (xs ++ o ∷ ys)
kept_in [] ys f o s h = (s, h)
kept_in (x ∷ xs) ys f o s h = (
  (some_other (x == o) (x == o) (f x) refl h.0).0,
  kept_in xs ys (without x f) o (other (x == o) refl h.0) (same_kept (xs ++ ys) (without x (without o f)) (without o (without x f)) (λ j. swapped (j == x) (j == o) (f j)) h.1),
)
  where
    other : (b : Bool) → (x == o) ≡ b → IsSome (cond b None (f x)) → IsSome (cond (o == x) None (f o))
    other true e k = cc
    other false e k = subst (λ (c : Bool). IsSome (cond c None (f o))) (sym (eqb_sym o x ∙ e)) s

pub kept_parted : {X : Type 0} (num : X → ℕ) (p : X → Bool) (xs : List X) (f : ℕ → Option PendingLine) → AllKept f (map num xs) → AllKept f (map num (filter p xs) ++ map num (filter (λ x. not (p x)) xs))
kept_parted num p [] f h = tt
kept_parted num p (x ∷ xs) f h = by (p x) (kept_parted num p xs (without (num x) f) h.1)
  where
    by : (b : Bool) → AllKept (without (num x) f) (map num (filter p xs) ++ map num (filter (λ y. not (p y)) xs)) →
        AllKept f (map num (cond b (x ∷ filter p xs) (filter p xs)) ++ map num (cond (not b) (x ∷ filter (λ y. not (p y)) xs) (filter (λ y. not (p y)) xs)))
    by true rest = (h.0, rest)
    by false rest = kept_in (map num (filter p xs)) (map num (filter (λ y. not (p y)) xs)) f (num x) h.0 rest

-- ---- One more input

pub none_last : (o : Option PendingLine) (numbered : List Numbered) (kept : ℕ → Option PendingLine) → kept (length numbered) ≡ o → AreKept numbered kept → kept (length numbered) ≡ None
none_last None numbered kept e k = e
none_last (Some a) numbered kept e k = let is : IsKept numbered (length numbered) a = k (length numbered) a e in absurd (omega (arith, slice_get_within numbered (length numbered) is.one is.there))

without_put : (b : Bool) (a : PendingLine) (o : Option PendingLine) → (b ≡ true → o ≡ None) → cond b None (cond b (Some a) o) ≡ o
without_put true a o h = sym (h refl)
without_put false a o h = refl

self_test : (a : ℕ) → (a == a) ≡ true
self_test a = grind (arith, nat_tests)

kept_put : (is : List ℕ) (key : ℕ) (a : PendingLine) (old new : ℕ → Option PendingLine) → old key ≡ None → ((i : ℕ) → new i ≡ cond (is_at (nat_cmp key) i) (Some a) (old i)) → AllKept old is → AllKept new (is ++ key ∷ [])
kept_put is key a old new none put h =
    let here : new key ≡ Some a = put key ∙ ap (λ (b : Bool). cond b (Some a) (old key)) (at-is key key ∙ self_test key) in
    kept_in is [] new key (ap is_some here)
    (subst (AllKept (without key new)) (sym (append-nil is))
    (same_kept is old (without key new)
    (λ i. sym (ap (λ (o : Option PendingLine). cond (i == key) None o) (put i ∙ ap (λ (b : Bool). cond b (Some a) (old i)) (at-is key i)) ∙ without_put (i == key) a (old i) (λ e. ap old (eqb-true i key e) ∙ none))) h))

inputs_out : (config : Config) (r : Registry) (ws : List opens.Numbered) → map (λ (o : Out). o.input) (map (out_of config r) ws) ≡ map (λ (o : opens.Numbered). o.number) ws
inputs_out config r [] = refl
inputs_out config r (w ∷ ws) = ap (λ (is : List ℕ). w.number ∷ is) (inputs_out config r ws)

kept_on : (config : Config) (inputs : List ReadInput) (input : ReadInput) (more : List Out) (f : ℕ → Option PendingLine) → 0 < config.limits.batch → outs config (inputs ++ input ∷ []) ≡ outs config inputs ++ more →
    AllKept f (held config inputs ++ length inputs ∷ []) → AllKept f (map (λ (o : Out). o.input) more ++ held config (inputs ++ input ∷ []))
kept_on config inputs input more f room adds h =
    let r : Registry = registry_after config (inputs ++ input ∷ []) in
    let ws : List opens.Numbered = waiting_at config inputs input in
    let num : opens.Numbered → ℕ = λ o. o.number in
    let all : held config inputs ++ length inputs ∷ [] ≡ map num ws =
    ap (λ (is : List ℕ). is ++ length inputs ∷ []) (incomplete_inputs_are_reported_held config inputs room) ∙ sym (map-append num (open_after config inputs) (newest inputs input ∷ [])) in
    let whole : map (λ (o : Out). o.input) more ≡ map num (filter (is_whole config r) ws) =
    ap (map (λ (o : Out). o.input)) (append_cancel_left (outs config inputs) more (map (out_of config r) (filter (is_whole config r) ws)) (sym adds ∙ input_appends_outs_it_completes config inputs input room))
    ∙ inputs_out config r (filter (is_whole config r) ws) in
    let left : held config (inputs ++ input ∷ []) ≡ map num (filter (λ (o : opens.Numbered). not (is_whole config r o)) ws) =
    incomplete_inputs_are_reported_held config (inputs ++ input ∷ []) room ∙ ap (map num) (input_stays_incomplete_until_completed config inputs input room) in
    subst (λ (is : List ℕ). AllKept f (map (λ (o : Out). o.input) more ++ is)) (sym left)
    (subst (λ (is : List ℕ). AllKept f (is ++ map num (filter (λ (o : opens.Numbered). not (is_whole config r o)) ws))) (sym whole)
    (kept_parted num (is_whole config r) ws f (subst (AllKept f) all h)))

given_inputs : (os : List fanout.Out) → map (λ (o : Out). o.input) (map seen_out os) ≡ inputs_given os
given_inputs [] = refl
given_inputs (o ∷ os) = ap (λ (is : List ℕ). o.input ∷ is) (given_inputs os)

pub kept_given : (config : Config) (inputs now : List ReadInput) (input : ReadInput) (added then : List Out) (more : List fanout.Out) (key : ℕ) (a : PendingLine) (old new : ℕ → Option PendingLine) → 0 < config.limits.batch →
    Keeps old (held config inputs) (length inputs) → key ≡ length inputs → ((i : ℕ) → new i ≡ cond (is_at (nat_cmp key) i) (Some a) (old i)) →
    added ≡ outs config inputs → now ≡ inputs ++ input ∷ [] → then ≡ outs config now → then ≡ added ++ map seen_out more → AllKept new (inputs_given more ++ held config now)
kept_given config inputs now input added then more key a old new room keeps last put before are all adds =
    let start : AllKept new (held config inputs ++ length inputs ∷ []) =
    subst (λ (i : ℕ). AllKept new (held config inputs ++ i ∷ [])) last (kept_put (held config inputs) key a old new (ap old last ∙ keeps.none) put keeps.all) in
    let outs_are : outs config (inputs ++ input ∷ []) ≡ outs config inputs ++ map seen_out more = ap (outs config) (sym are) ∙ sym all ∙ adds ∙ ap (λ (os : List Out). os ++ map seen_out more) before in
    subst (λ (is : List ℕ). AllKept new (is ++ held config now)) (given_inputs more)
    (subst (λ (is : List ReadInput). AllKept new (map (λ (o : Out). o.input) (map seen_out more) ++ held config is)) (sym are)
    (kept_on config inputs input (map seen_out more) new room outs_are start))

pub kept_front : (xs ys : List ℕ) (f : ℕ → Option PendingLine) → AllKept f (xs ++ ys) → AllKept f xs
kept_front [] ys f h = tt
kept_front (x ∷ xs) ys f h = (h.0, kept_front xs ys (without x f) h.1)

-- ---- One out after another

pub kept_less_one : (is : List ℕ) (i : ℕ) (old new : ℕ → Option PendingLine) → ((j : ℕ) → new j ≡ cond (is_at (nat_cmp i) j) None (old j)) → AllKept (without i old) is → AllKept new is
kept_less_one is i old new e h = same_kept is (without i old) new (λ j. sym (e j ∙ ap (λ (b : Bool). cond b None (old j)) (at-is i j))) h

pub kept_at : (is : List ℕ) (k : ℕ) (f : ℕ → Option PendingLine) → k < length is → AllKept f is → IsSome (f (get_or is k 0))
kept_at [] k f l h = absurd (omega arith)
kept_at (i ∷ is) zero f l h = h.0
kept_at (i ∷ is) (suc k) f l h =
    let j : ℕ = get_or is k 0 in
    let rest : IsSome (cond (get_or is k 0 == i) None (f (get_or is k 0))) = kept_at is k (without i f) (omega arith) h.1 in
    (some_other (j == i) (j == i) (f j) refl rest).0

pub next_kept : (os : List fanout.Out) (i : ℕ) (o : fanout.Out) (others : List ℕ) (f : ℕ → Option PendingLine) → i < length os → o ≡ get_or os i o → AllKept f (inputs_given (drop i os) ++ others) →
    (IsSome (f o.input)) × (AllKept (without o.input f) (inputs_given (drop (i + 1) os) ++ others))
next_kept os i o others f h e k =
    let next : drop i os ≡ o ∷ drop (i + 1) os = drop-cons os i o h ∙ ap (λ (u : fanout.Out). u ∷ drop (suc i) os) (sym e) ∙ ap (λ (n : ℕ). o ∷ drop n os) (let l : suc i ≡ i + 1 = omega arith in l) in
    subst (λ (us : List fanout.Out). AllKept f (inputs_given us ++ others)) next k

none_past : (os : List fanout.Out) → drop (length os) os ≡ []
none_past [] = refl
none_past (o ∷ os) = none_past os

pub past_all : (os : List fanout.Out) (i : ℕ) → i ≡ length os → drop i os ≡ []
past_all os i e = ap (λ (n : ℕ). drop n os) e ∙ none_past os
