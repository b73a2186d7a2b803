-- A session answers only messages that wait for it, and each answer that it files is the list's.
use Rattle.std.proofs.Common.{arith, ◌≡◌, ◌==◌, ℕ, zero, suc, Option, Some, None, List, [], ◌∷◌, ◌++◌, find, length, map, option_map, slice_get, refl, sym, ap, ◌∙◌, subst, eqb-true, append_assoc, Bool}
use Rattle.std.proofs.lemmas.List.{length_push}
use Rattle.std.specs.List.{AllByRecursion}
use Rattle.bx_advice.specs.declared.config.Config.{Config}
use Rattle.bx_message.specs.declared.{message_kind.MessageKind.MessageKind, message.Message.Message, reply.Reply.Reply}
use Rattle.bx_entry.specs.Words.{Listed, Posted, Registry, Registered, Judged, PlaceSlot, Waiting, kind_for, slot_for, slot_with, rider_by, rider_for, is_rider, hold_of, registry, entries_of, sessionless_kind, Ready, Filed, Session, PlacedAnswer, answer, answer_at, answer_of, filed_for, session, unopened}
use Rattle.bx_message.specs.MessageKinds.{message_kind_of}
use Rattle.bx_entry.specs.declared.entry.{Entry.Entry, EntryKind.EntryKind, Rider.Rider}
use Rattle.bx_entry.specs.declared.entry.EntryKind.TheVariants.{Connect}
use Rattle.bx_theory.proofs.{Verdicts.each_found, Verdicts.each_verdict, Verdicts.got_here, Runs.EachEntry, Lists.entries_in_order, Lists.find_each, Lists.find_true}
use Rattle.bx_theory.specs.Laws.{PlacesFrom}
use Rattle.bx_theory.proofs.Places.{Only, Allowed, AllowedRide, run_only, only_unopened}

abbrev pub WaitsBy : PlaceSlot → EntryKind → Type 0
WaitsBy slot (Connect n client id acked hold) = slot ≡ Waiting n
WaitsBy slot _ = Unit {0}

abbrev pub RidesBy : PlaceSlot → Option Rider → Type 0
RidesBy slot None = Unit {0}
RidesBy slot (Some rider) = slot ≡ Waiting rider.session

abbrev pub WaitsFor : Judged → Type 0
WaitsFor j = WaitsBy j.slot j.entry.kind × RidesBy j.slot j.entry.rides

abbrev pub EachWaits : List Judged → Type 0
EachWaits js = AllByRecursion WaitsFor js

served_waits : (config : Config) (b : Bool) (c : MessageKind) (p : Posted) (s : Registered) (hold : ℕ) → WaitsBy (slot_with (rider_for b s.number (slot_for config c p s)) (slot_for config c p s)) (kind_for c p s hold)
served_waits config b c p s hold = grind arith

slot_rides : (rides : Option Rider) (slot : PlaceSlot) → RidesBy (slot_with rides slot) rides
slot_rides None slot = tt
slot_rides (Some rider) slot = refl

sessionless_waits : (reply : Reply) (c : MessageKind) (m : Message) → WaitsBy (Ready reply) (sessionless_kind c m)
sessionless_waits reply c m = grind arith

pub all_waits : (config : Config) (xs : List Listed) → EachWaits (registry config xs).judged
all_waits config xs = each_found config xs WaitsFor (λ ys x zs whole.
    let r : Registry = registry config ys in
    each_verdict config r (λ y v. WaitsBy v.slot v.kind × RidesBy v.slot v.rides) (record {
      refuses = λ p sender error. (tt, tt);
      opens = λ p. (tt, tt);
      none = λ p. (sessionless_waits _ (message_kind_of p.message.channel) p.message, tt);
      serves = λ p s e.
          let c : MessageKind = message_kind_of p.message.channel in
          let rides : Option Rider = rider_by config r.senders c p s in
          (served_waits config (is_rider config r.senders c p s) c p s (hold_of config p), slot_rides rides (slot_for config c p s));
      ticks = λ moment. (tt, tt);
    }) x)

abbrev pub WaitsAt : List Judged → ℕ → ℕ → Type 0
WaitsAt js number place = option_map (λ (j : Judged). j.slot) (slice_get js place) ≡ Some (Waiting number)

allowed_by : (P : ℕ → Type 0) (number place : ℕ) (slot : PlaceSlot) (k : EntryKind) → WaitsBy slot k → (slot ≡ Waiting number → P place) → Allowed P number place k
allowed_by P number place slot k w h = grind arith

rides_allowed : (P : ℕ → Type 0) (number place : ℕ) (slot : PlaceSlot) (rides : Option Rider) → RidesBy slot rides → (slot ≡ Waiting number → P place) → AllowedRide P number place rides
rides_allowed P number place slot rides w h = grind arith

waits_here : (number : ℕ) (front rest : List Judged) (j : Judged) → j.entry.place ≡ length front → j.slot ≡ Waiting number → WaitsAt (front ++ j ∷ rest) number j.entry.place
waits_here number front rest j p w = ap (λ (k : ℕ). option_map (λ (i : Judged). i.slot) (slice_get (front ++ j ∷ rest) k)) p ∙ ap (option_map (λ (i : Judged). i.slot)) (got_here front j rest) ∙ ap Some w

abbrev AllowedBy : (ℕ → Type 0) → ℕ → Entry → Type 0
AllowedBy P number e = Allowed P number e.place e.kind × AllowedRide P number e.place e.rides

allowed_from : (number : ℕ) (front rest : List Judged) → EachWaits rest → PlacesFrom (length front) (map (λ (j : Judged). j.entry) rest) →
    EachEntry (AllowedBy (WaitsAt (front ++ rest) number) number) (map (λ (j : Judged). j.entry) rest)
allowed_from number front [] w d = tt
allowed_from number front (j ∷ rest) w d =
    let whole : (front ++ j ∷ []) ++ rest ≡ front ++ j ∷ rest = append_assoc front (j ∷ []) rest in
    let next : PlacesFrom (length (front ++ j ∷ [])) (map (λ (i : Judged). i.entry) rest) = subst (λ (k : ℕ). PlacesFrom k (map (λ (i : Judged). i.entry) rest)) (sym (length_push front j)) d.1 in (
      (
        allowed_by (WaitsAt (front ++ j ∷ rest) number) number j.entry.place j.slot j.entry.kind w.0.0 (waits_here number front rest j d.0),
        rides_allowed (WaitsAt (front ++ j ∷ rest) number) number j.entry.place j.slot j.entry.rides w.0.1 (waits_here number front rest j d.0),
      ),
      subst (λ (js : List Judged). EachEntry (AllowedBy (WaitsAt js number) number) (map (λ (i : Judged). i.entry) rest)) whole (allowed_from number (front ++ j ∷ []) rest w.1 next),
    )

answered_waits : (config : Config) (number : ℕ) (xs : List Listed) → Only (WaitsAt (registry config xs).judged number) (session config number (entries_of (registry config xs)))
answered_waits config number xs =
    let r : Registry = registry config xs in
    run_only config (WaitsAt r.judged number) number (unopened number) (entries_of r) refl
    (allowed_from number [] r.judged (all_waits config xs) (entries_in_order config xs)) (only_unopened (WaitsAt r.judged number) number)

-- ---- The answers of the list

answer_waiting : (config : Config) (number place : ℕ) (a : PlacedAnswer) (r : Registry) (o : Option Judged) → option_map (λ (j : Judged). j.slot) o ≡ Some (Waiting number) →
    filed_for place (session config number (entries_of r)).answers ≡ Some a → answer_at config (entries_of r) place o ≡ Some a
answer_waiting config number place a r o w e = grind arith

-- A message for which the session filed an answer waits for the session.
pub waits_over : (config : Config) (number p : ℕ) (xs : List Listed) (f : Filed) → find (λ (g : Filed). g.connect == p) (session config number (entries_of (registry config xs))).answers ≡ Some f → WaitsAt (registry config xs).judged number p
waits_over config number p xs f e =
    let test : Filed → Bool = λ g. g.connect == p in
    let s : Session = session config number (entries_of (registry config xs)) in
    subst (WaitsAt (registry config xs).judged number) (eqb-true f.connect p (find_true test s.answers f e))
    (find_each (λ g. WaitsAt (registry config xs).judged number g.connect) test s.answers f e (answered_waits config number xs).answers)

-- So the list gives that answer.
pub session_answer : (config : Config) (number place : ℕ) (xs : List Listed) (f : Filed) →
    find (λ (g : Filed). g.connect == place) (session config number (entries_of (registry config xs))).answers ≡ Some f → answer config xs place ≡ Some (answer_of f)
session_answer config number place xs f e =
    let r : Registry = registry config xs in
    answer_waiting config number place (answer_of f) r (slice_get r.judged place) (waits_over config number place xs f e) (ap (option_map answer_of) e)

-- ---- The slot at a place

pub judged_at : (Asks : Entry → ℕ → Type 0) → ((j : Judged) (m : ℕ) → WaitsFor j → Asks j.entry m → j.slot ≡ Waiting m) →
    (js : List Judged) (n m : ℕ) (e : Entry) → EachWaits js → slice_get (map (λ (j : Judged). j.entry) js) n ≡ Some e → Asks e m → WaitsAt js m n
judged_at Asks slot [] n m e w h k = absurd (let no : None ≡ Some e = h in cc)
judged_at Asks slot (j ∷ js) zero m e w h k = let same : j.entry ≡ e = cc in ap Some (slot j m w.0 (subst (λ (x : Entry). Asks x m) (sym same) k))
judged_at Asks slot (j ∷ js) (suc n) m e w h k = judged_at Asks slot js n m e w.1 h k
