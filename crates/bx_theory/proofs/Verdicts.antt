-- What holds for each kind of verdict holds for every registry and every judged element.
use Rattle.std.proofs.Common.{◌≡◌, ℕ, zero, suc, ◌+◌, max, true, false, Some, List, [], ◌∷◌, ◌++◌, length, map, take, fold, slice_get, refl, sym, ap, ◌∙◌, subst, arith, append-nil, append_assoc}
use Rattle.std.proofs.lemmas.{List.length_push, List.map-append, List.Sums.fold-append}
use Rattle.std.proofs.Math.Seq.{take-append_seam}
use Rattle.std.specs.Prelude.{Bool, Option, None}
use Rattle.std.specs.List.{AllByRecursion}
use Rattle.bx_history.proofs.Elements.{mapped}
use Rattle.bx_advice.specs.declared.{config.Config.Config, error.Error.Error}
use Rattle.bx_message.specs.declared.message_kind.MessageKind.{MessageKind}
use Rattle.bx_message.specs.MessageKinds.{message_kind_of, is_handshake}
use Rattle.bx_entry.specs.Words.{Listed, Post, Posted, Judged, NoSlot, PlaceSlot, Registered, Registry, State, Verdict, empty_registry, entries, entries_of, found_at, hold_of, judge, judged_by, named_by, noted, opened, refusal, refused, registry, rider_by, served, slot_for, slot_with, sessionless, state_of, tick_verdict, unnamed, verdict}
use Rattle.bx_entry.specs.Listing as messages
use Rattle.bx_entry.specs.declared.entry.{Entry.Entry, Rider.Rider}
use Rattle.bx_theory.specs.Readings.{moment_of}

-- ---- One element

pub by_verdict : (P : Verdict → Type 0) (config : Config) (state : State) (moment : ℕ) (p : Posted) (sender : Option Registered) (error : Option Error) →
    ((e : Error) → P (refused config state p e sender)) → P (opened config state moment p (state.opened + 1)) → P (sessionless config state p (message_kind_of p.message.channel)) →
    ((s : Registered) → sender ≡ Some s → P (served config state moment p (message_kind_of p.message.channel) s (hold_of config p))) → P (judged_by config state moment p sender error)
by_verdict P config state moment p sender (Some e) refuses opens none serves = refuses e
by_verdict P config state moment p None None refuses opens none serves = elim (is_handshake p.message) as (λ (b : Bool). P (unnamed config state moment p b)) [ true ↦ opens | false ↦ none ]
by_verdict P config state moment p (Some s) None refuses opens none serves = serves s refl

-- The verdict on an element after the registry, at the greatest moment so far, including the
-- element's own.
abbrev pub verdict_of : Config → Registry → Listed → Verdict
verdict_of config r (Post p) = verdict config (state_of r) (max r.clock p.moment) p
verdict_of config r (messages.Tick moment) = tick_verdict (state_of r) (max r.clock moment)

-- `P` holds for each kind of verdict: on a rejected message, a handshake, a sessionless message, a
-- message of a session, and a tick.
pub record EachVerdict (config : Config) (r : Registry) (P : Listed → Verdict → Type 0) : Type 0 where
  pub refuses : (p : Posted) (sender : Option Registered) (error : Error) → P (Post p) (refused config (state_of r) p error sender)
  pub opens : (p : Posted) → P (Post p) (opened config (state_of r) (max r.clock p.moment) p (length r.sessions + 1))
  pub none : (p : Posted) → P (Post p) (sessionless config (state_of r) p (message_kind_of p.message.channel))
  pub serves : (p : Posted) (s : Registered) → named_by r.sessions (message_kind_of p.message.channel) p.message ≡ Some s →
      P (Post p) (served config (state_of r) (max r.clock p.moment) p (message_kind_of p.message.channel) s (hold_of config p))
  pub ticks : (moment : ℕ) → P (messages.Tick moment) (tick_verdict (state_of r) (max r.clock moment))

-- If `P` holds for each kind of verdict, it holds for the verdict on any element.
pub each_verdict : (config : Config) (r : Registry) (P : Listed → Verdict → Type 0) → EachVerdict config r P → (x : Listed) → P x (verdict_of config r x)
each_verdict config r P e (Post p) =
    let named : Option Registered = named_by r.sessions (message_kind_of p.message.channel) p.message in
    by_verdict (P (Post p)) config (state_of r) (max r.clock p.moment) p named (refusal config r.sessions p) (e.refuses p named) (e.opens p) (e.none p) (e.serves p)
each_verdict config r P e (messages.Tick moment) = e.ticks moment

-- The result of the next element `x` after the registry `r`.
abbrev pub next_found : Config → Registry → Listed → Judged
next_found config r x = found_at (length r.judged) (max r.clock (moment_of x)) (verdict_of config r x)

-- The registry after `r` and the element `x`, on which the verdict is `v`.
abbrev pub next_noted : Registry → Listed → Verdict → Registry
next_noted r x v = noted r (max r.clock (moment_of x)) v

pub judge_is : (config : Config) (r : Registry) (x : Listed) → judge config r x ≡ next_noted r x (verdict_of config r x)
judge_is config r (Post p) = refl
judge_is config r (messages.Tick moment) = refl

-- If `P` holds for the registry after each kind of verdict, it holds for the registry after any
-- element.
pub each_judge : (config : Config) (r : Registry) (P : Registry → Type 0) → EachVerdict config r (λ x v. P (next_noted r x v)) → (x : Listed) → P (judge config r x)
each_judge config r P e x = subst P (sym (judge_is config r x)) (each_verdict config r (λ y v. P (next_noted r y v)) e x)

abbrev pub Slotted : Listed → PlaceSlot → Type 0
Slotted (Post p) NoSlot = ⊥
Slotted (Post p) _ = Unit {0}
Slotted (messages.Tick moment) NoSlot = Unit {0}
Slotted (messages.Tick moment) _ = ⊥

slot_for_message : (config : Config) (c : MessageKind) (p : Posted) (s : Registered) → Slotted (Post p) (slot_for config c p s)
slot_for_message config MessageKind.Handshake p s = tt
slot_for_message config _ p s = tt

ridden_message : (rides : Option Rider) (p : Posted) (slot : PlaceSlot) → Slotted (Post p) slot → Slotted (Post p) (slot_with rides slot)
ridden_message None p slot s = s
ridden_message (Some rider) p slot s = tt

pub slotted : (config : Config) (r : Registry) (x : Listed) → Slotted x (verdict_of config r x).slot
slotted config r x = each_verdict config r (λ y v. Slotted y v.slot) (record {
  refuses = λ p sender error. tt;
  opens = λ p. tt;
  none = λ p. tt;
  serves = λ p s e. let c : MessageKind = message_kind_of p.message.channel in ridden_message (rider_by config r.senders c p s) p (slot_for config c p s) (slot_for_message config c p s);
  ticks = λ moment. tt;
}) x

-- ---- The whole list

pub registry_next : (config : Config) (ys : List Listed) (x : Listed) → registry config (ys ++ x ∷ []) ≡ judge config (registry config ys) x
registry_next config ys x = fold-append (judge config) empty_registry ys (x ∷ [])

-- If `P` holds for the empty registry, and stays true for each next one, it holds for the registry
-- of every list.
pub each_registry : (config : Config) (P : Registry → Type 0) → P empty_registry → ((ys : List Listed) (x : Listed) → P (registry config ys) → P (judge config (registry config ys) x)) → (list : List Listed) → P (registry config list)
each_registry config P first next list = onwards [] list first
  where
    onwards : (ys xs : List Listed) → P (registry config ys) → P (registry config (ys ++ xs))
    onwards ys [] d = subst (λ (zs : List Listed). P (registry config zs)) (sym (append-nil ys)) d
    onwards ys (x ∷ xs) d = subst (λ (zs : List Listed). P (registry config zs)) (append_assoc ys (x ∷ []) xs) (onwards (ys ++ x ∷ []) xs (subst P (sym (registry_next config ys x)) (next ys x d)))

-- The results of more elements, judged in order after the registry `r`.
abbrev pub found_from : Config → Registry → List Listed → List Judged
found_from config r [] = []
found_from config r (x ∷ xs) = next_found config r x ∷ found_from config (judge config r x) xs

pub found_many : (config : Config) (r : Registry) (xs : List Listed) → length (found_from config r xs) ≡ length xs
found_many config r [] = refl
found_many config r (x ∷ xs) = ap suc (found_many config (judge config r x) xs)

judged_run : (config : Config) (r : Registry) (xs : List Listed) → (fold (judge config) r xs).judged ≡ r.judged ++ found_from config r xs
judged_run config r [] = sym (append-nil r.judged)
judged_run config r (x ∷ xs) =
    let rest : List Judged = found_from config (judge config r x) xs in
    judged_run config (judge config r x) xs ∙ ap (λ (t : Registry). t.judged ++ rest) (judge_is config r x) ∙ append_assoc r.judged (next_found config r x ∷ []) rest

pub judged_after : (config : Config) (ys zs : List Listed) → (registry config (ys ++ zs)).judged ≡ (registry config ys).judged ++ found_from config (registry config ys) zs
judged_after config ys zs = ap (λ (t : Registry). t.judged) (fold-append (judge config) empty_registry ys zs) ∙ judged_run config (registry config ys) zs

pub judged_length : (config : Config) (xs : List Listed) → length (registry config xs).judged ≡ length xs
judged_length config xs = ap length (judged_run config empty_registry xs) ∙ found_many config empty_registry xs

pub entries_after : (config : Config) (ys zs : List Listed) → entries_of (registry config (ys ++ zs)) ≡ entries_of (registry config ys) ++ map (λ (j : Judged). j.entry) (found_from config (registry config ys) zs)
entries_after config ys zs = ap (map (λ (j : Judged). j.entry)) (judged_after config ys zs) ∙ map-append (λ (j : Judged). j.entry) (registry config ys).judged (found_from config (registry config ys) zs)

-- If `P` holds for the result of each element after those before it, it holds for all results of a
-- list.
pub each_found : (config : Config) (list : List Listed) (P : Judged → Type 0) → ((ys : List Listed) (x : Listed) (zs : List Listed) → ys ++ x ∷ zs ≡ list → P (next_found config (registry config ys) x)) →
    AllByRecursion P (registry config list).judged
each_found config list P each = subst (AllByRecursion P) (sym (judged_run config empty_registry list)) (onwards [] list refl)
  where
    onwards : (ys xs : List Listed) → ys ++ xs ≡ list → AllByRecursion P (found_from config (registry config ys) xs)
    onwards ys [] e = tt
    onwards ys (x ∷ xs) e = (
      each ys x xs e,
      subst (λ (r : Registry). AllByRecursion P (found_from config r xs)) (registry_next config ys x) (onwards (ys ++ x ∷ []) xs (append_assoc ys (x ∷ []) xs ∙ e)),
    )

pub record FoundOf (config : Config) (list : List Listed) (place : ℕ) (j : Judged) : Type 0 where
  pub before : List Listed
  pub element : Listed
  pub behind : List Listed
  pub whole : before ++ element ∷ behind ≡ list
  pub many : length before ≡ place
  pub found : next_found config (registry config before) element ≡ j

pub found_of_place : (config : Config) (list : List Listed) (place : ℕ) (j : Judged) → slice_get (registry config list).judged place ≡ Some j → FoundOf config list place j
found_of_place config list place j there = onwards [] list place refl (omega arith) (ap (λ (js : List Judged). slice_get js place) (sym (judged_run config empty_registry list)) ∙ there)
  where
    onwards : (ys xs : List Listed) (k : ℕ) → ys ++ xs ≡ list → length ys + k ≡ place → slice_get (found_from config (registry config ys) xs) k ≡ Some j → FoundOf config list place j
    onwards ys [] k e n g = cc
    onwards ys (x ∷ xs) zero e n g = record { before = ys; element = x; behind = xs; whole = e; many = omega (arith, n); found = cc }
    onwards ys (x ∷ xs) (suc k) e n g =
        onwards (ys ++ x ∷ []) xs k (append_assoc ys (x ∷ []) xs ∙ e) (let l = length_push ys x in omega (arith, n))
        (subst (λ (r : Registry). slice_get (found_from config r xs) k ≡ Some j) (sym (registry_next config ys x)) g)

pub record EntryOf (config : Config) (list : List Listed) (place : ℕ) (e : Entry) : Type 0 where
  pub judged : Judged
  pub is : judged.entry ≡ e
  pub found : FoundOf config list place judged

pub entry_of_place : (config : Config) (list : List Listed) (place : ℕ) (e : Entry) → slice_get (entries_of (registry config list)) place ≡ Some e → EntryOf config list place e
entry_of_place config list place e there =
    let m = mapped (λ (j : Judged). j.entry) (registry config list).judged place e there in
    record { judged = m.one; is = m.is; found = found_of_place config list place m.one m.there }

-- Each entry of a list is at its own place.
pub entry_placed : (config : Config) (list : List Listed) (n : ℕ) (e : Entry) → slice_get (entries config list) n ≡ Some e → e.place ≡ n
entry_placed config list n e h =
    let w = entry_of_place config list n e h in
    sym (ap (λ (j : Judged). j.entry.place) w.found.found ∙ ap (λ (x : Entry). x.place) w.is) ∙ judged_length config w.found.before ∙ w.found.many

pub judged_before : (config : Config) (list : List Listed) (place : ℕ) (j : Judged) (f : FoundOf config list place j) → (registry config f.before).judged ≡ take place (registry config list).judged
judged_before config list place j f =
    let js : List Judged = (registry config f.before).judged in
    let rest : List Judged = found_from config (registry config f.before) (f.element ∷ f.behind) in
    let count : length (registry config f.before).judged ≡ place = judged_length config f.before ∙ f.many in
    sym (ap (λ (zs : List Listed). take place (registry config zs).judged) (sym f.whole) ∙ ap (take place) (judged_after config f.before (f.element ∷ f.behind))
    ∙ ap (λ (n : ℕ). take n (js ++ rest)) (sym count) ∙ take-append_seam js rest)

pub got_here : {X : Type 0} (xs : List X) (x : X) (ys : List X) → slice_get (xs ++ x ∷ ys) (length xs) ≡ Some x
got_here [] x ys = refl
got_here (y ∷ xs) x ys = got_here xs x ys

pub found_there : (config : Config) (xs : List Listed) (x : Listed) (ys : List Listed) → slice_get (registry config (xs ++ x ∷ ys)).judged (length xs) ≡ Some (next_found config (registry config xs) x)
found_there config xs x ys =
    let js : List Judged = (registry config xs).judged in
    let j : Judged = next_found config (registry config xs) x in
    let rest : List Judged = found_from config (judge config (registry config xs) x) ys in
    ap (λ (ks : List Judged). slice_get ks (length xs)) (judged_after config xs (x ∷ ys)) ∙ ap (slice_get (js ++ j ∷ rest)) (sym (judged_length config xs)) ∙ got_here js j rest
