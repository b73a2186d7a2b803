-- A shard still agrees with its definition `shard_at` after it applies the next entry.
use Rattle.std.proofs.Common.{◌≡◌, ◌≢◌, ⊎_elim, get_or, ℕ, ◌+◌, ◌<◌, ◌≤◌, Bool, true, false, is_some, Option, Some, None, List, [], ◌∷◌, ◌++◌, length, take, map, filter, flat_map, option_map, slice_get, ◌==◌, refl, sym, ap, ◌∙◌, subst, arith, eq-eqb, length-take}
use Rattle.std.proofs.lemmas.Bool.{both_ways}
use Rattle.std.proofs.lemmas.{Grind.common_steps, List.length_push, List.map-append, List.Elements.All-map, List.Elements.filter-append, List.Folds.find-append}
use Rattle.std.specs.{List.All, List.Contains, Option.option_and_then, Option.option_or}
use Rattle.bx_history.proofs.{Elements.or_none, Tests.either}
use Rattle.bx_history.proofs.Ascending.{Ascends}
use Rattle.bx_advice.specs.declared.config.Config.{Config}
use Rattle.bx_entry.specs.declared.entry.{Entry.Entry, EntryKind.EntryKind, Rider.Rider}
use Rattle.bx_entry.specs.Words.{answer_of, Listed, Kept, kept, kept_answers, kept_step, resumed, entries, registry, Filed, Live, Session, is_live, step, unopened}
use Rattle.bx_theory.proofs.{Stages.step_number, Verdicts.entry_placed, Waits.WaitsAt}
use Rattle.bx_session.specs.declared.answered.Answered.{Answered}
use Rattle.bx_session.specs.Views.{answered_of}
use Rattle.bx_session.proofs.FilingLemmas.{answer_has_place_of_its_entry}
use Rattle.bx_connects.specs.declared.connects.ConnectState.{ConnectState}
use Rattle.bx_connects.specs.declared.connects.ConnectState.TheVariants as states
use Rattle.bx_connects.specs.Connects.{session_at}
use Rattle.bx_shard.specs.Effects as effects
use Rattle.bx_shard.specs.Words.{IsReached, Setup, is_taken, sessions_in, shard_at, is_placed_in, Applied, IsGiven, IsSound, State, begun, connect_in, if_live, dropped_by, opening, opens_in, session_after, session_in}
use Rattle.bx_shard.specs.Refining.{Refines, RefinesOnwards, IsConnectOf, IsOwn, filed_with_place, placed}
use Rattle.bx_shard.specs.Steps.{answers_by, opening_by, stepped}
use Rattle.bx_shard.proofs.{Cases.by_option, Elements.Met, Elements.met, Filings.entry_determines_filed_answers, Singles.nowhere, Stepping.entry_determines_sessions, Untaken.find_of}
use Rattle.bx_shard.proofs.Finding.{GivenBy, apart, contains_found, each_none, find_kept, found_each, given_by, next, none_there, numbers_of, placed_found, steps, steps_found}
use Rattle.bx_shard.proofs.Gives.{Unanswered, all_contains, given_unanswered}
use Rattle.bx_shard.proofs.Holdings.{holds_reached, holds_stand, sessions_ascend}
use Rattle.bx_shard.proofs.Taking.{connect_of_filed, none_taken}
use Rattle.bx_shard.proofs.Waits.{connect_waits, rider_waits}

abbrev entry : ℕ → ℕ → Option Rider → EntryKind → Entry
entry place moment rides kind = record { place = place; moment = moment; kind = kind; rides = rides }

-- ---- the sessions

abbrev opened : ℕ → Bool → Kept
opened n ack = record (kept (unopened n)) { stage = Live; ack = ack }

module _ (config : Config) (e : Entry) where
  abbrev onward : Kept → Option Kept
  onward k = if_live (kept_step config k e)

  next_onward : (o : Option Kept) → next config e o ≡ option_and_then onward o
  next_onward o = grind arith

opened_found : (setup : Setup) (index place moment : ℕ) (rides : Option Rider) (m : ℕ) (kind : EntryKind) → find_kept m (steps setup.config (entry place moment rides kind) (opening_by setup index kind))
    ≡ option_and_then (onward setup.config (entry place moment rides kind)) (opening (opens_in setup index kind) kind m)
opened_found setup index place moment rides m kind = grind (arith, common_steps)

onward_first : (config : Config) (stands : Bool) (place moment : ℕ) (rides : Option Rider) (m : ℕ) (k : Kept) (kind : EntryKind) → k.stage ≡ Live →
    option_or (onward config (entry place moment rides kind) k) (option_and_then (onward config (entry place moment rides kind)) (opening stands kind m)) ≡ onward config (entry place moment rides kind) k
onward_first config stands place moment rides m k kind live = grind arith

found_stepped : (setup : Setup) (index : ℕ) (e : Entry) (ks : List Kept) (m : ℕ) → Ascends (numbers_of ks) → find_kept m (stepped setup index e ks)
    ≡ option_or (option_and_then (onward setup.config e) (find_kept m ks)) (option_and_then (onward setup.config e) (opening (opens_in setup index e.kind) e.kind m))
found_stepped setup index e ks m d =
    let config : Config = setup.config in
    let os : List Kept = opening_by setup index e.kind in
    let F : Kept → Kept = λ k. kept_step config k e in
    let live : Kept → Bool = λ k. is_live k.stage in
    ap (λ (xs : List Kept). find_kept m (filter live xs)) (map-append F ks os)
    ∙ ap (λ (xs : List Kept). find_kept m xs) (filter-append live (map F ks) (map F os))
    ∙ find-append (λ (k : Kept). k.number == m) (steps config e ks) (steps config e os)
    ∙ ap (λ (o : Option Kept). option_or o (find_kept m (steps config e os))) (steps_found config e m ks d (λ i b l. step_number config (resumed (get_or ks i b)) e) ∙ next_onward config e (find_kept m ks))
    ∙ ap (option_or (option_and_then (onward config e) (find_kept m ks))) (opened_found setup index e.place e.moment e.rides m e.kind)

abbrev Knows : State → List Kept → Type 0
Knows s ks = (m : ℕ) → session_in s m ≡ find_kept m ks

abbrev AllReached : Entry → List Kept → Type 0
AllReached e ks = All (IsReached e.place) ks

sessions_next : (s : State) (e : Entry) (ks : List Kept) (m : ℕ) → AllReached e ks → Ascends (numbers_of ks) → Knows s ks →
    session_after s.setup.config (opens_in s.setup s.index e.kind) e m (session_in s m) ≡ find_kept m (stepped s.setup s.index e ks)
sessions_next s e ks m reached d known =
    let config : Config = s.setup.config in
    let stands : Bool = opens_in s.setup s.index e.kind in
    ap (session_after config stands e m) (known m)
    ∙ by_option (λ o. session_after config stands e m o ≡ option_or (option_and_then (onward config e) o) (option_and_then (onward config e) (opening stands e.kind m))) (find_kept m ks)
    (λ f. refl) (λ k f. let w = found_each (IsReached e.place) m ks k f reached in sym (onward_first config stands e.place e.moment e.rides m k e.kind w.0.live))
    ∙ sym (found_stepped s.setup s.index e ks m d)

-- ---- the answers that the entry gives

abbrev given_by_one : State → Entry → Option Kept → List Answered
given_by_one s e o = effects.answers_by (λ t. step s.setup.config t e) o

none_given : (s : State) (e : Entry) (ks : List Kept) (p : ℕ) → Knows s ks → find_of p (answers_by s.setup.config e ks) ≡ None → (n : ℕ) (a : Answered) → IsGiven s.setup.config (session_in s) e n a → a.place ≢ p
none_given s e ks p known none number a g =
    let config : Config = s.setup.config in
    let Not : Answered → Type 0 = λ x. (x.place == p) ≡ false in
    let each : All (λ k. find_of p (kept_answers config k e) ≡ None) ks = each_none (λ k. kept_answers config k e) p ks none in
    let other : (a.place == p) ≡ false =
    by_option (λ o. Contains (given_by_one s e o) a → Not a) (find_kept number ks)
    (λ f there. absurd (nowhere a there))
    (λ k f there.
    let w = found_each (λ j. find_of p (kept_answers config j e) ≡ None) number ks k f each in
    all_contains Not (map answered_of (kept_answers config k e)) a (All-map Not answered_of (kept_answers config k e) (none_there p (kept_answers config k e) w.0)) there)
    (subst (λ o. Contains (given_by_one s e o) a) (known number) g) in
    λ h. both_ways (a.place == p) other (eq-eqb a.place p h)

record Gave (s : State) (e : Entry) (p : ℕ) (f : Filed) : Type 0 where
  number : ℕ
  given : IsGiven s.setup.config (session_in s) e number (answered_of f)
  answer : answer_of f ≡ placed e.place (answered_of f).answer
  connect : f.connect ≡ p

gave : (s : State) (e : Entry) (ks : List Kept) (p : ℕ) (f : Filed) → Ascends (numbers_of ks) → Knows s ks → find_of p (answers_by s.setup.config e ks) ≡ Some f → Gave s e p f
gave s e ks p f d known found =
    let config : Config = s.setup.config in
    let b : GivenBy (λ k. kept_answers config k e) ks p f = given_by (λ k. kept_answers config k e) ks p f d found in
    let k : Kept = b.one in
    let at = placed_found p e.place (kept_answers config k e) f (answer_has_place_of_its_entry config k e) b.gives in
    record {
      number = k.number;
      given = subst (λ o. Contains (given_by_one s e o) (answered_of f)) (sym (known k.number ∙ b.found)) (contains_found p (kept_answers config k e) f b.gives);
      answer = at.0;
      connect = at.1;
    }

-- ---- the connects before any is answered

dropped_by_none : (numbers : List ℕ) (o : Option ConnectState) → o ≡ None → dropped_by numbers o ≡ None
dropped_by_none numbers o h = grind arith

begun_filed : (s : State) (e : Entry) (kind : EntryKind) (p : ℕ) → connect_in s e.place ≡ None → filed_with_place (begun (session_in s) (connect_in s) e kind p) ≡ filed_with_place (connect_in s p)
begun_filed s e kind p fresh = grind arith

pub begun_none : (s : State) (e : Entry) (kind : EntryKind) (p : ℕ) → connect_in s p ≡ None → p ≢ e.place → begun (session_in s) (connect_in s) e kind p ≡ None
begun_none s e kind p none other = grind arith

-- ---- one entry of the list

record Before (list : List Listed) (taken : List ℕ) (n : ℕ) (e : Entry) (s : State) : Type 0 where
  room : 0 < s.setup.config.limits.batch
  there : slice_get (entries s.setup.config list) n ≡ Some e
  holds : Refines s.setup list taken s.index n s
  place : e.place ≡ n
  reached : AllReached e (shard_at s.setup list taken s.index n).sessions
  apart : Ascends (numbers_of (shard_at s.setup list taken s.index n).sessions)
  fresh : connect_in s e.place ≡ None

before : (list : List Listed) (taken : List ℕ) (n : ℕ) (e : Entry) (s : State) → 0 < s.setup.config.limits.batch → slice_get (entries s.setup.config list) n ≡ Some e → Refines s.setup list taken s.index n s → Before list taken n e s
before list taken n e s room there h =
    let place : e.place ≡ n = entry_placed s.setup.config list n e there in
    let ks : List Kept = (shard_at s.setup list taken s.index n).sessions in
    record {
      room = room;
      there = there;
      holds = h;
      place = place;
      reached = subst (λ (q : ℕ). All (IsReached q) ks) (sym place) (holds_reached s.setup list taken s.index n);
      apart = apart (numbers_of ks) (sessions_ascend s.setup list taken s.index n);
      fresh = h.sound.fresh e.place (omega (arith, place, h.place_is));
    }

abbrev given_at : List Listed → List ℕ → ℕ → Entry → State → ℕ → Option Filed
given_at list taken n e s p = find_of p (answers_by s.setup.config e (shard_at s.setup list taken s.index n).sessions)

abbrev filed_then : List Listed → List ℕ → State → ℕ → ℕ → Option Filed
filed_then list taken s n p = find_of p (shard_at s.setup list taken s.index n).filed

same_filed : (list : List Listed) (taken : List ℕ) (n : ℕ) (e : Entry) (s : State) (p : ℕ) → Before list taken n e s → given_at list taken n e s p ≡ None → filed_then list taken s (n + 1) p ≡ filed_then list taken s n p
same_filed list taken n e s p b none =
    let fs : ℕ → List Filed = λ m. flat_map (λ (x : Session). x.answers) (sessions_in s.setup list s.index m) in
    let o : Option Filed = filed_then list taken s n p in
    either (is_taken taken p) (filed_then list taken s (n + 1) p ≡ filed_then list taken s n p)
    (λ t. none_taken taken p (fs (n + 1)) t ∙ sym (none_taken taken p (fs n) t))
    (λ u. entry_determines_filed_answers s.setup list taken s.index n e p b.room b.there u ∙ ap (option_or o) none ∙ or_none o)

given_is_connect : (list : List Listed) (taken : List ℕ) (n : ℕ) (e : Entry) (s : State) (p : ℕ) (f : Filed) → Before list taken n e s → given_at list taken n e s p ≡ Some f → IsConnectOf s.setup list s.index p
given_is_connect list taken n e s p f b some =
    let nobody : List ℕ = [] in
    let next_filed : filed_then list nobody s (n + 1) p ≡ option_or (filed_then list nobody s n p) (Some f) =
    entry_determines_filed_answers s.setup list nobody s.index n e p b.room b.there refl ∙ ap (option_or (filed_then list nobody s n p)) some in
    by_option (λ o. filed_then list nobody s (n + 1) p ≡ option_or o (Some f) → IsConnectOf s.setup list s.index p) (filed_then list nobody s n p)
    (λ e h. connect_of_filed s.setup list nobody s.index (n + 1) p f h) (λ g e h. connect_of_filed s.setup list nobody s.index (n + 1) p g h) next_filed

record Answers (list : List Listed) (taken : List ℕ) (n : ℕ) (e : Entry) (s : State) (p : ℕ) (f : Filed) : Type 0 where
  gives : Gave s e p f
  unanswered : Unanswered e.place p (connect_in s p)
  free : is_taken taken p ≡ true → ⊥
  first : filed_then list taken s n p ≡ None

none_answer : (o : Option Filed) → option_map answer_of o ≡ None → o ≡ None
none_answer o h = grind arith

answered : (list : List Listed) (taken : List ℕ) (n : ℕ) (e : Entry) (s : State) (p : ℕ) (f : Filed) → Before list taken n e s → given_at list taken n e s p ≡ Some f → Answers list taken n e s p f
answered list taken n e s p f b some =
    let h : Refines s.setup list taken s.index n s = b.holds in
    let g : Gave s e p f = gave s e (shard_at s.setup list taken s.index n).sessions p f b.apart h.sessions some in
    let u : Unanswered e.place p (connect_in s p) =
    subst (λ (q : ℕ). Unanswered e.place q (connect_in s q)) g.connect (given_unanswered s e g.number (answered_of f) h.sound (h.place_is ∙ sym b.place) g.given) in
    record {
      gives = g;
      unanswered = u;
      free = λ t. let w = h.gone p t (given_is_connect list taken n e s p f b some) in let own : p ≡ e.place = u.own w.1 in omega (arith, own, b.place, w.0);
      first = none_answer (filed_then list taken s n p) (sym (h.filed p) ∙ u.filed);
    }

-- ---- the shard after the entry

untaken_then : (taken : List ℕ) (p : ℕ) → (is_taken taken p ≡ true → ⊥) → is_taken taken p ≡ false
untaken_then taken p h = either (is_taken taken p) (is_taken taken p ≡ false) (λ t. absurd (h t)) (λ u. u)

unanswered_as : (list : List Listed) (taken : List ℕ) (n : ℕ) (e : Entry) (s new : State) (p : ℕ) → Before list taken n e s → Applied s e new → given_at list taken n e s p ≡ None → connect_in new p ≡ begun (session_in s) (connect_in s) e e.kind p
unanswered_as list taken n e s new p b a none =
    a.connects.kept p (none_given s e (shard_at s.setup list taken s.index n).sessions p b.holds.sessions none)

filed_next : (list : List Listed) (taken : List ℕ) (n : ℕ) (e : Entry) (s new : State) (p : ℕ) → Before list taken n e s → Applied s e new → filed_with_place (connect_in new p) ≡ option_map answer_of (filed_then list taken s (n + 1) p)
filed_next list taken n e s new p b a =
    by_option (λ o. filed_with_place (connect_in new p) ≡ option_map answer_of (filed_then list taken s (n + 1) p)) (given_at list taken n e s p)
    (λ h. ap filed_with_place (unanswered_as list taken n e s new p b a h) ∙ begun_filed s e e.kind p b.fresh ∙ b.holds.filed p ∙ ap (option_map answer_of) (sym (same_filed list taken n e s p b h)))
    (λ f h.
    let w : Answers list taken n e s p f = answered list taken n e s p f b h in
    let here : connect_in new p ≡ Some (states.Filed w.gives.number e.place (answered_of f).answer) =
    subst (λ (q : ℕ). connect_in new q ≡ Some (states.Filed w.gives.number e.place (answered_of f).answer)) w.gives.connect (a.connects.given w.gives.number (answered_of f) w.gives.given) in
    let there : filed_then list taken s (n + 1) p ≡ Some f =
    entry_determines_filed_answers s.setup list taken s.index n e p b.room b.there (untaken_then taken p w.free) ∙ ap (λ (o : Option Filed). option_or o (given_at list taken n e s p)) w.first ∙ h in
    ap filed_with_place here ∙ ap Some (sym w.gives.answer) ∙ sym (ap (option_map answer_of) there))

gone_next : (list : List Listed) (taken : List ℕ) (n : ℕ) (e : Entry) (s new : State) (p : ℕ) → Before list taken n e s → Applied s e new → is_taken taken p ≡ true → IsConnectOf s.setup list s.index p → (p < n + 1) × (connect_in new p ≡ None)
gone_next list taken n e s new p b a t c =
    let g = b.holds.gone p t c in
    let below : p < n + 1 = let l : p < n = g.0 in omega (arith, l) in
    let other : p ≢ e.place = λ own. (let l : p < n = g.0 in omega (arith, own, b.place, l)) in (
      below,
      by_option (λ o. connect_in new p ≡ None) (given_at list taken n e s p)
          (λ h. unanswered_as list taken n e s new p b a h ∙ begun_none s e e.kind p g.1 other) (λ f h. absurd ((answered list taken n e s p f b h).free t)),
    )

stands_here : (list : List Listed) (taken : List ℕ) (n : ℕ) (e : Entry) (s : State) (m : ℕ) → Before list taken n e s → is_some (session_in s m) ≡ true → is_placed_in s.setup s.index m ≡ true
stands_here list taken n e s m b here =
    let ks : List Kept = (shard_at s.setup list taken s.index n).sessions in
    by_option (λ o. session_in s m ≡ o → is_placed_in s.setup s.index m ≡ true) (find_kept m ks)
    (λ f h. absurd (let no : false ≡ true = sym (ap is_some h) ∙ here in cc))
    (λ k f h.
    let w = found_each (λ j. is_placed_in s.setup s.index j.number ≡ true) m ks k f (holds_stand s.setup list taken s.index n) in
    subst (λ (q : ℕ). is_placed_in s.setup s.index q ≡ true) w.1 w.0)
    (b.holds.sessions m)

owned_next : (list : List Listed) (taken : List ℕ) (n : ℕ) (e : Entry) (s new : State) (p m : ℕ) → Before list taken n e s → Applied s e new → session_at (connect_in new p) ≡ Some m → IsOwn s.setup list s.index p m
owned_next list taken n e s new p m b a k =
    ⊎_elim (λ h. b.holds.owned p m h)
    (λ h. record {
      waits = subst (λ (q : ℕ). WaitsAt (registry s.setup.config list).judged m q) (sym b.place ∙ h.place) (⊎_elim (λ c. connect_waits s.setup.config list n m e b.there c) (λ r. rider_waits s.setup.config list n m e b.there r) h.session);
      stands = stands_here list taken n e s m b h.here;
    })
    (a.known p m k)

shorter_by_one : (list : List Listed) (n : ℕ) (x : Listed) → take (n + 1) list ≡ take n list ++ x ∷ [] → n + 1 ≤ length list
shorter_by_one list n x e =
    let l : length (take (n + 1) list) ≡ length (take n list) + 1 = ap length e ∙ length_push (take n list) x in
    omega (arith, l, length-take (n + 1) list, length-take n list)

onwards : (list : List Listed) (taken : List ℕ) (n : ℕ) (e : Entry) (s new : State) → Before list taken n e s → Applied s e new → IsSound new → Refines s.setup list taken s.index (n + 1) new
onwards list taken n e s new b a sound =
    let m : Met s.setup.config list n e = met s.setup.config list n e b.there in
    let ks : List Kept = (shard_at s.setup list taken s.index n).sessions in
    record {
      setup_is = a.setup;
      index_is = a.index;
      place_is = a.place ∙ ap (λ (q : ℕ). q + 1) b.place;
      within = shorter_by_one list n m.element m.next;
      sound = sound;
      sessions = λ q. a.sessions q ∙ sessions_next s e ks q b.reached b.apart b.holds.sessions
          ∙ ap (find_kept q) (sym (entry_determines_sessions s.setup list taken s.index n e b.room b.there));
      filed = λ p. filed_next list taken n e s new p b a;
      known = b.holds.known;
      gone = λ p t c. gone_next list taken n e s new p b a t c;
      owned = λ p m k. owned_next list taken n e s new p m b a k;
    }

abbrev with_setup : Setup → ℕ → State → State
with_setup setup shard s = record { setup = setup; index = shard; place = s.place; shut = s.shut; sessions = s.sessions }

pub refines_applied : RefinesOnwards
refines_applied setup list taken shard n e old new room there h a sound =
    let s : State = with_setup setup shard old in
    let same : old ≡ with_setup setup shard old = ap (λ (x : Setup). with_setup x old.index old) h.setup_is ∙ ap (λ (i : ℕ). with_setup setup i old) h.index_is in
    onwards list taken n e s new (before list taken n e s room there (subst (Refines setup list taken shard n) same h)) (subst (λ (x : State). Applied x e new) same a) sound
