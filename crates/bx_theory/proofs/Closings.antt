-- A closed session holds no connect, and its events and answers stay as they are.
use Rattle.std.proofs.Common.{◌≡◌, ℕ, ◌+◌, ◌<◌, ◌≤◌, max, Bool, true, false, cond, Option, Some, None, List, [], ◌∷◌, ◌++◌, length, fold, ◌==◌, refl, sym, ap, ◌∙◌, subst, arith, append-nil, append_assoc, eqb-true}
use Rattle.std.proofs.lemmas.{Bool.cond_both, Bool.both_ways, Grind.common_steps, List.Sums.fold-append}
use Rattle.std.specs.List.{list_any}
use Rattle.bx_advice.specs.declared.{config.Config.Config, error.Error.Error}
use Rattle.bx_message.specs.declared.{message_kind.MessageKind.MessageKind, message.Message.Message}
use Rattle.bx_message.specs.MessageKinds.{message_kind_of}
use Rattle.bx_entry.specs.Words.{Listed, Post, Posted, refused, sessionless, served, due_of, Registry, Registered, PlaceSlot, slot_for, rider_for, is_rider, judge, judged_by, kind_for, left_by, extended, overdue_closed, overdue, is_overdue, named_by, refusal, hold_of, is_ack, acked_by, opened, registry, empty_registry, entries_of, sessionless_kind, noted, state_of, Session, Pending, Stage, Live, Closed, is_live, connected, expired, closed_by, begun, step_by, step, unopened, session, ridden_by, rider_of}
use Rattle.bx_entry.specs.Listing as messages
use Rattle.bx_entry.specs.declared.entry.{Entry.Entry, Rider.Rider, EntryKind.EntryKind}
use Rattle.bx_entry.specs.declared.entry.EntryKind.TheVariants.{Connect, Subscribe, Unsubscribe, Disconnect}
use Rattle.bx_theory.specs.Readings.{unclosed, EachSession, NothingMore, ClosedIsOver}
use Rattle.bx_theory.proofs.{Counts.ride_both, Verdicts.by_verdict, Verdicts.each_registry, Keeps.connected_k, Lives.opened_later, Lives.entries_push, Senders.live_by, Senders.sender_reads}
use Rattle.bx_theory.proofs.Stages.{live_from_opening_to_first_close, step_number, step_by_next}
use Rattle.bx_theory.proofs.Dues.{each_session_push, each_session_through, left_each}

-- ---- Due moments only rise

abbrev DueFrom : ℕ → ℕ → List Registered → Type 0
DueFrom number b rs = EachSession (λ q. q.number ≡ number → b ≤ q.due) rs

abbrev Rises : ℕ → List Registered → List Registered → Type 0
Rises number rs ts = (b : ℕ) → DueFrom number b rs → DueFrom number b ts

extended_rises : (number n due : ℕ) (rs : List Registered) → Rises number rs (extended n due rs)
extended_rises number n due rs b d =
    each_session_through (λ q. q.number ≡ number → b ≤ q.due) (λ q. q.number ≡ number → b ≤ q.due) (λ q. cond (q.number == n) (record q { due = max q.due due }) q) rs
    (λ q h k. grind (arith, common_steps)) d

extended_here : (number due b : ℕ) (rs : List Registered) → b ≤ due → DueFrom number b (extended number due rs)
extended_here number due b [] h = tt
extended_here number due b (r ∷ rs) h = ((λ k. grind (arith, common_steps)), extended_here number due b rs h)

left_rises : (c : MessageKind) (number n : ℕ) (rs : List Registered) → Rises number rs (left_by c n rs)
left_rises c number n rs b d = left_each (λ q. q.number ≡ number → b ≤ q.due) c n rs (λ q h. h) d

overdue_closed_rises : (number now : ℕ) (rs : List Registered) → Rises number rs (overdue_closed now rs)
overdue_closed_rises number now rs b d =
    each_session_through (λ q. q.number ≡ number → b ≤ q.due) (λ q. q.number ≡ number → b ≤ q.due) (λ q. cond (is_overdue now q) (record q { live = false }) q) rs
    (λ q h k. grind (arith, common_steps)) d

named_due : (number now b : ℕ) (rs : List Registered) → list_any (λ n. n == number) (overdue now rs) ≡ true → DueFrom number b rs → b < now
named_due number now b [] h d = cc
named_due number now b (r ∷ rs) h d =
    let here : r.number ≡ number → b ≤ r.due = d.0 in
    let rest : list_any (λ n. n == number) (overdue now rs) ≡ true → b < now = λ g. named_due number now b rs g d.1 in
    grind (arith, common_steps)

-- ---- The session of a held connect is live, and due after the hold

record Holding (number : ℕ) (s : Session) (rs : List Registered) : Type 0 where
  live : (q : Pending) → s.held ≡ Some q → s.stage ≡ Live
  due : (q : Pending) → s.held ≡ Some q → DueFrom number (q.moment + q.hold) rs

abbrev StillHeld : Session → Session → Type 0
StillHeld s u = (q : Pending) → u.held ≡ Some q → (s.held ≡ Some q) × (u.stage ≡ Live)

still : (number : ℕ) (s u : Session) (rs ts : List Registered) → StillHeld s u → Rises number rs ts → Holding number s rs → Holding number u ts
still number s u rs ts k r h = record { live = λ q e. (k q e).1; due = λ q e. r (q.moment + q.hold) (h.due q (k q e).0) }

connected_only : (config : Config) (p : Pending) (acked : Option ℕ) (s : Session) (q : Pending) → (connected config p acked s).held ≡ Some q → q ≡ p
connected_only config p acked s q e = grind (arith, common_steps)

connected_holds : (config : Config) (p : Pending) (acked : Option ℕ) (number : ℕ) (s : Session) (rs ts : List Registered) (b : Bool) → (b ≡ true → s.stage ≡ Live) → (b ≡ true → DueFrom number (p.moment + p.hold) ts) → Rises number rs ts →
    Holding number s rs → Holding number (cond b (connected config p acked s) s) ts
connected_holds config p acked number s rs ts b live due rises h =
    cond_both b (connected config p acked s) s (λ (u : Session). Holding number u ts)
    (λ g. record {
      live = λ q e. (connected_k config p acked s).stage ∙ live g;
      due = λ q e. subst (λ (x : Pending). DueFrom number (x.moment + x.hold) ts) (sym (connected_only config p acked s q e)) (due g);
    })
    (λ g. still number s s rs ts (λ q e. (e, h.live q e)) rises h)

-- ---- Ticks

tick_still : (config : Config) (place now : ℕ) (s : Session) (rs : List Registered) → Holding s.number s rs → StillHeld s (closed_by (overdue now rs) (expired config place now s))
tick_still config place now s rs h q e =
    let was : s.held ≡ Some q = grind (arith, common_steps) in
    let early : list_any (λ n. n == s.number) (overdue now rs) ≡ true → q.moment + q.hold < now = λ k. named_due s.number now (q.moment + q.hold) rs k (h.due q was) in
    (was, grind (arith, common_steps, h.live q was))

-- ---- Closed sessions

pub live_stage : (stage : Stage) → is_live stage ≡ true → stage ≡ Live
live_stage Live h = refl
live_stage _ h = cc

over_same : (s : Session) → s.stage ≡ Closed → s.held ≡ None → NothingMore s s
over_same s c n = record { stage = c; held = n; events = refl; answers = refl }

abbrev is_of : ℕ → EntryKind → Bool
is_of number (Connect n client id acked hold) = n == number
is_of number (Subscribe n ps) = n == number
is_of number (Unsubscribe n ps) = n == number
is_of number (Disconnect n) = n == number
is_of number _ = false

step_by_over : (config : Config) (place moment : ℕ) (s : Session) (k : EntryKind) → (is_of s.number k ≡ true → s.stage ≡ Live) → s.stage ≡ Closed → s.held ≡ None → NothingMore s (step_by config place moment s k)
step_by_over config place moment s k own c n = grind (arith, common_steps)

ride_over : (config : Config) (place : ℕ) (s u : Session) (rides : Option Rider) → NothingMore s u → NothingMore s (ridden_by config place u rides)
ride_over config place s u rides n = grind (arith, common_steps)

-- ---- A session that is not live gives no answers

step_by_idle : (config : Config) (place moment : ℕ) (s : Session) (k : EntryKind) → (is_of s.number k ≡ true → s.stage ≡ Live) → is_live s.stage ≡ false → s.held ≡ None → (step_by config place moment s k).answers ≡ s.answers
step_by_idle config place moment s k own c n = grind (arith, common_steps)

ride_idle : (config : Config) (place : ℕ) (s u : Session) (rides : Option Rider) → u.number ≡ s.number → ((rider : Rider) → rides ≡ Some rider → (rider.session == s.number) ≡ true → s.stage ≡ Live) → is_live s.stage ≡ false → u.answers ≡ s.answers →
    (ridden_by config place u rides).answers ≡ s.answers
ride_idle config place s u None same own c e = e
ride_idle config place s u (Some rider) same own c e = let live : (rider.session == s.number) ≡ true → s.stage ≡ Live = own rider refl in grind (arith, common_steps)

-- ---- One element

record Goes (config : Config) (number : ℕ) (s : Session) (r t : Registry) : Type 0 where
  entry : Entry
  more : entries_of t ≡ entries_of r ++ entry ∷ []
  holding : Holding number (step config s entry) t.sessions
  own : is_of s.number entry.kind ≡ true → s.stage ≡ Live
  rides : (rider : Rider) → rider_of entry.kind entry.rides ≡ Some rider → (rider.session == s.number) ≡ true → s.stage ≡ Live

goes_over : (config : Config) (number : ℕ) (s : Session) (r t : Registry) (g : Goes config number s r t) → s.stage ≡ Closed → s.held ≡ None → NothingMore s (step config s g.entry)
goes_over config number s r t g c n = ride_over config g.entry.place s _ (rider_of g.entry.kind g.entry.rides) (step_by_over config g.entry.place g.entry.moment s g.entry.kind g.own c n)

goes_idle : (config : Config) (number : ℕ) (s : Session) (r t : Registry) (g : Goes config number s r t) → is_live s.stage ≡ false → s.held ≡ None → (step config s g.entry).answers ≡ s.answers
goes_idle config number s r t g c n =
    ride_idle config g.entry.place s _ (rider_of g.entry.kind g.entry.rides) (step_by_next config g.entry.place g.entry.moment s g.entry.kind).number g.rides c (step_by_idle config g.entry.place g.entry.moment s g.entry.kind g.own c n)

abbrev behind_served : Config → ℕ → MessageKind → Registered → ℕ → List Registered → List Registered
behind_served config moment c q hold rs = left_by c q.number (extended q.number (due_of config moment hold) rs)

served_holding : (config : Config) (place moment : ℕ) (c : MessageKind) (p : Posted) (q : Registered) (hold number : ℕ) (s : Session) (rs : List Registered) → s.number ≡ number → ((q.number == s.number) ≡ true → s.stage ≡ Live) → Holding number s rs →
    Holding number (step_by config place moment s (kind_for c p q hold)) (behind_served config moment c q hold rs)
served_holding config place moment c p q hold number s rs same live h = by c
  where
    rises : (d : MessageKind) → Rises number rs (behind_served config moment d q hold rs)
    rises d b g = left_rises d number q.number (extended q.number (due_of config moment hold) rs) b (extended_rises number q.number (due_of config moment hold) rs b g)

    here : (q.number == s.number) ≡ true → DueFrom number (moment + hold) (behind_served config moment MessageKind.Connect q hold rs)
    here e = subst (λ (n : ℕ). DueFrom n (moment + hold) (extended q.number (due_of config moment hold) rs)) (eqb-true q.number s.number e ∙ same) (extended_here q.number (due_of config moment hold) (moment + hold) rs (omega arith))

    by : (d : MessageKind) → Holding number (step_by config place moment s (kind_for d p q hold)) (behind_served config moment d q hold rs)
    by MessageKind.Connect =
        let x : Pending = record { place = place; client = q.client; id = p.message.id; moment = moment; hold = hold } in
        connected_holds config x (acked_by p.message.ack) number s rs (behind_served config moment MessageKind.Connect q hold rs) (q.number == s.number) live here (rises MessageKind.Connect) h
    by d = still number s (step_by config place moment s (kind_for d p q hold)) rs (behind_served config moment d q hold rs) (λ x e. grind (arith, common_steps, h.live x)) (rises d) h

served_own : (c : MessageKind) (p : Posted) (q : Registered) (hold number : ℕ) → is_of number (kind_for c p q hold) ≡ true → (q.number == number) ≡ true
served_own c p q hold number h = grind (arith, common_steps)

served_rides : (k : EntryKind) (b : Bool) (n : ℕ) (slot : PlaceSlot) (rider : Rider) → rider_of k (rider_for b n slot) ≡ Some rider → rider.session ≡ n
served_rides k b n slot rider h = grind (arith, common_steps)

opened_goes : (config : Config) (number : ℕ) (s : Session) (r : Registry) (moment : ℕ) (p : Posted) → s.number ≡ number → (length r.sessions < number → is_live s.stage ≡ false) → Holding number s r.sessions →
    Goes config number s r (noted r moment (opened config (state_of r) moment p (length r.sessions + 1)))
opened_goes config number s r moment p same fresh h =
    let t : Registry = noted r moment (opened config (state_of r) moment p (length r.sessions + 1)) in
    let keeps : StillHeld s (cond (length r.sessions + 1 == s.number) (begun (is_ack p.message.ack) s s.stage) s) = λ q e. grind (arith, common_steps, h.live q) in
    record {
      entry = _;
      more = entries_push r t _ refl;
      holding = record {
        live = λ q e. (keeps q e).1;
        due = λ q e. each_session_push (λ x. x.number ≡ number → q.moment + q.hold ≤ x.due) r.sessions _ (h.due q (keeps q e).0)
            (λ k. absurd (let f : length r.sessions + 1 ≡ number = k in let no : is_live s.stage ≡ false = fresh (omega arith) in let yes : true ≡ is_live s.stage = ap is_live (sym (h.live q (keeps q e).0)) in let both : true ≡ false = yes ∙ no in cc));
      };
      own = λ e. cc;
      rides = λ rider e. cc;
    }

sessionless_holding : (config : Config) (place moment : ℕ) (c : MessageKind) (m : Message) (number : ℕ) (s : Session) (rs : List Registered) → Holding number s rs → Holding number (step_by config place moment s (sessionless_kind c m)) rs
sessionless_holding config place moment c m number s rs h = still number s (step_by config place moment s (sessionless_kind c m)) rs rs (λ q e. grind (arith, common_steps, h.live q)) (λ b g. g) h

sessionless_own : (c : MessageKind) (m : Message) (number : ℕ) → is_of number (sessionless_kind c m) ≡ false
sessionless_own c m number = grind (arith, common_steps)

sessionless_rides : (c : MessageKind) (m : Message) (rider : Rider) → rider_of (sessionless_kind c m) None ≡ Some rider → ⊥
sessionless_rides c m rider e = grind (arith, common_steps)

-- ---- Riders

ride_holding : (config : Config) (place number : ℕ) (s : Session) (rs : List Registered) (rides : Option Rider) → Holding number s rs → Holding number (ridden_by config place s rides) rs
ride_holding config place number s rs rides h = ride_both config place s rides (λ (u : Session). Holding number u rs) h (λ rider g. record { live = h.live; due = h.due })

-- ---- Messages

judged_by_goes : (config : Config) (number : ℕ) (s : Session) (r : Registry) (moment : ℕ) (p : Posted) (sender : Option Registered) (error : Option Error) → s.number ≡ number → (length r.sessions < number → is_live s.stage ≡ false) →
    ((q : Registered) → sender ≡ Some q → (q.number == s.number) ≡ true → s.stage ≡ Live) → Holding number s r.sessions → Goes config number s r (noted r moment (judged_by config (state_of r) moment p sender error))
judged_by_goes config number s r moment p sender error same fresh live h =
    let c : MessageKind = message_kind_of p.message.channel in
    by_verdict (λ v. Goes config number s r (noted r moment v)) config (state_of r) moment p sender error
    (λ e. record { entry = _; more = entries_push r (noted r moment (refused config (state_of r) p e sender)) _ refl; holding = h; own = λ g. cc; rides = λ rider g. cc })
    (opened_goes config number s r moment p same fresh h)
    (record {
      entry = _;
      more = entries_push r (noted r moment (sessionless config (state_of r) p c)) _ refl;
      holding = ride_holding config (length r.judged) number _ _ _ (sessionless_holding config (length r.judged) moment (message_kind_of p.message.channel) p.message number s r.sessions h);
      own = λ e. absurd (both_ways _ (sessionless_own c p.message s.number) e);
      rides = λ rider e. absurd (sessionless_rides c p.message rider e);
    })
    (λ q e. record {
      entry = _;
      more = entries_push r (noted r moment (served config (state_of r) moment p c q (hold_of config p))) _ refl;
      holding = ride_holding config (length r.judged) number _ _ _ (served_holding config (length r.judged) moment (message_kind_of p.message.channel) p q (hold_of config p) number s r.sessions same (live q e) h);
      own = λ g. live q e (served_own c p q (hold_of config p) s.number g);
      rides = λ rider f g. live q e
          (subst (λ (n : ℕ). (n == s.number) ≡ true) (served_rides (kind_for c p q (hold_of config p)) (is_rider config r.senders c p q) q.number (slot_for config c p q) rider f) g);
    })

abbrev at : Config → ℕ → List Listed → Session
at config number ys = session config number (entries_of (registry config ys))

pub run_number : (config : Config) (s : Session) (es : List Entry) → (fold (step config) s es).number ≡ s.number
run_number config s [] = refl
run_number config s (e ∷ es) = run_number config (step config s e) es ∙ step_number config s e

judge_goes : (config : Config) (number : ℕ) (ys : List Listed) (x : Listed) → Holding number (at config number ys) (registry config ys).sessions → Goes config number (at config number ys) (registry config ys) (judge config (registry config ys) x)
judge_goes config number ys (Post p) h =
    let r : Registry = registry config ys in
    let s : Session = at config number ys in
    let same : (at config number ys).number ≡ number = run_number config (unopened number) (entries_of (registry config ys)) in
    judged_by_goes config number s r (max r.clock p.moment) p (named_by r.sessions (message_kind_of p.message.channel) p.message) (refusal config r.sessions p) same
    (λ l. live_from_opening_to_first_close config number (entries_of (registry config ys)) ∙ ap (unclosed number) (opened_later config ys number l))
    (λ q e g. live_stage s.stage (live_from_opening_to_first_close config number (entries_of (registry config ys)) ∙ subst (λ (n : ℕ). live_by n (entries_of (registry config ys)) ≡ true) (eqb-true q.number s.number g ∙ same) (sender_reads config ys p q e)))
    h
judge_goes config number ys (messages.Tick moment) h =
    let r : Registry = registry config ys in
    let s : Session = at config number ys in
    let now : ℕ = max r.clock moment in
    let same : (at config number ys).number ≡ number = run_number config (unopened number) (entries_of (registry config ys)) in
    record {
      entry = _;
      more = entries_push r (judge config r (messages.Tick moment)) _ refl;
      holding = still number s (closed_by (overdue now r.sessions) (expired config (length r.judged) now s)) r.sessions (overdue_closed now r.sessions)
          (tick_still config (length r.judged) now s r.sessions (subst (λ (n : ℕ). Holding n (at config number ys) (registry config ys).sessions) (sym same) h)) (overdue_closed_rises number now r.sessions) h;
      own = λ e. cc;
      rides = λ rider e. cc;
    }

-- ---- All elements

next_at : (config : Config) (number : ℕ) (ys : List Listed) (x : Listed) (g : Goes config number (at config number ys) (registry config ys) (judge config (registry config ys) x)) →
    at config number (ys ++ x ∷ []) ≡ step config (at config number ys) g.entry
next_at config number ys x g =
    ap (λ (t : Registry). session config number (entries_of t)) (fold-append (judge config) empty_registry ys (x ∷ [])) ∙ ap (session config number) g.more
    ∙ fold-append (step config) (unopened number) (entries_of (registry config ys)) (g.entry ∷ [])

holds : (config : Config) (number : ℕ) (list : List Listed) → Holding number (at config number list) (registry config list).sessions
holds config number list =
    each_registry config (λ r. Holding number (session config number (entries_of r)) r.sessions) (record { live = λ q e. cc; due = λ q e. tt }) (λ ys x h.
    let g : Goes config number (at config number ys) (registry config ys) (judge config (registry config ys) x) = judge_goes config number ys x h in
    let next : session config number (entries_of (judge config (registry config ys) x)) ≡ step config (at config number ys) g.entry =
    ap (session config number) g.more ∙ fold-append (step config) (unopened number) (entries_of (registry config ys)) (g.entry ∷ []) in
    subst (λ (u : Session). Holding number u (judge config (registry config ys) x).sessions) (sym next) g.holding) list

none_held : (number : ℕ) (s : Session) (rs : List Registered) → is_live s.stage ≡ false → Holding number s rs → s.held ≡ None
none_held number s rs c h = let live : (q : Pending) → s.held ≡ Some q → s.stage ≡ Live = h.live in grind (arith, common_steps)

more_over : (s t u : Session) → NothingMore s t → NothingMore t u → NothingMore s u
more_over s t u a b = record { stage = b.stage; held = b.held; events = b.events ∙ a.events; answers = b.answers ∙ a.answers }

over_from : (config : Config) (number : ℕ) (ys xs : List Listed) → (at config number ys).stage ≡ Closed → NothingMore (at config number ys) (at config number (ys ++ xs))
over_from config number ys [] c =
    subst (λ (zs : List Listed). NothingMore (at config number ys) (at config number zs)) (sym (append-nil ys))
    (over_same (at config number ys) c (none_held number (at config number ys) (registry config ys).sessions (ap is_live c) (holds config number ys)))
over_from config number ys (x ∷ xs) c =
    let s : Session = at config number ys in
    let h : Holding number (at config number ys) (registry config ys).sessions = holds config number ys in
    let g : Goes config number (at config number ys) (registry config ys) (judge config (registry config ys) x) = judge_goes config number ys x h in
    let one : NothingMore (at config number ys) (at config number (ys ++ x ∷ [])) =
    subst (NothingMore (at config number ys)) (sym (next_at config number ys x g)) (goes_over config number s _ _ g c (none_held number s (registry config ys).sessions (ap is_live c) h)) in
    subst (λ (zs : List Listed). NothingMore (at config number ys) (at config number zs)) (append_assoc ys (x ∷ []) xs)
    (more_over s (at config number (ys ++ x ∷ [])) (at config number ((ys ++ x ∷ []) ++ xs)) one (over_from config number (ys ++ x ∷ []) xs one.stage))

pub idle_next : (config : Config) (number : ℕ) (ys : List Listed) (x : Listed) → is_live (session config number (entries_of (registry config ys))).stage ≡ false →
    (session config number (entries_of (registry config (ys ++ x ∷ [])))).answers ≡ (session config number (entries_of (registry config ys))).answers
idle_next config number ys x c =
    let s : Session = at config number ys in
    let h : Holding number (at config number ys) (registry config ys).sessions = holds config number ys in
    let g : Goes config number (at config number ys) (registry config ys) (judge config (registry config ys) x) = judge_goes config number ys x h in
    ap (λ (u : Session). u.answers) (next_at config number ys x g) ∙ goes_idle config number s _ _ g c (none_held number s (registry config ys).sessions c h)

pub closed_session_never_changes : ClosedIsOver
closed_session_never_changes config list more number c = over_from config number list more c
