-- The events of a session are the publishes that reach it.
use Rattle.std.proofs.Common.{◌≡◌, ℕ, ◌+◌, ◌<◌, ◌≤◌, Bool, true, false, cond, not, ◌&&◌, List, [], ◌∷◌, ◌++◌, fold, refl, sym, ap, ◌∙◌, subst, append-nil, append_assoc, filter_map, arith}
use Rattle.std.proofs.lemmas.{Bool.cond_both, Bool.cond-true, Bool.and_parts, List.Sums.fold-append, Grind.common_steps}
use Rattle.std.proofs.ByRecursion.{All-append, All-push, All-weaker}
use Rattle.bx_names.specs.Words.{any_matches, segments, is_broadcast, in_force}
use Rattle.bx_names.proofs.Actives.{Matching, matching_any, matching_from}
use Rattle.bx_advice.specs.declared.config.Config.{Config}
use Rattle.bx_message.specs.declared.event.Event.{Event}
use Rattle.bx_message.specs.Events.{event_size}
use Rattle.bx_entry.specs.declared.{entry.Entry.Entry, entry.EntryKind.EntryKind, entry.EntryKind.TheVariants.Publish}
use Rattle.bx_entry.specs.Sessions.{Session, Publication, is_live, is_hit, has_room, pending_bytes, pending_count, step_by, step, unopened, session, rider_of, window_in}
use Rattle.bx_entry.proofs.Rooms.{room_count, room_bytes, room_where}
use Rattle.bx_theory.specs.{Readings.mention_by, Readings.last_of, Laws.EachOf, Laws.PlacesFrom}
use Rattle.bx_theory.specs.Events.{IsEvent, GetsPublish, Rising, EventsWerePublished, PublishesAreEvents, EventsRise}
use Rattle.bx_theory.proofs.{Keeps.ride_k, Keeps.overflowed_if_entry_found_no_room, Stages.live_from_opening_to_first_close, Forces.pattern_active_if_last_subscribed}

-- ---- One entry

gains_by : Config → Session → ℕ → EntryKind → List Publication
gains_by config s place (Publish e) = cond (is_hit s e && has_room config e s) (record { place = place; event = e } ∷ []) []
gains_by config s place _ = []

pub gains : Config → Session → Entry → List Publication
gains config s e = gains_by config s e.place e.kind

step_by_gains : (config : Config) (place moment : ℕ) (s : Session) (k : EntryKind) → (step_by config place moment s k).events ≡ s.events ++ gains_by config s place k
unfolding gains_by
step_by_gains config place moment s k = grind (arith, common_steps)

pub step_gains : (config : Config) (s : Session) (e : Entry) → (step config s e).events ≡ s.events ++ gains config s e
unfolding gains
step_gains config s e = (ride_k config e.place (step_by config e.place e.moment s e.kind) (rider_of e.kind e.rides)).events ∙ step_by_gains config e.place e.moment s e.kind

-- ---- Many entries

record More (s t : Session) : Type 0 where
  later : List Publication
  events : t.events ≡ s.events ++ later

run_more : (config : Config) (s : Session) (es : List Entry) → More s (fold (step config) s es)
run_more config s [] = record { later = []; events = sym (append-nil s.events) }
run_more config s (e ∷ es) =
    let m : More (step config s e) (fold (step config) (step config s e) es) = run_more config (step config s e) es in
    record { later = gains config s e ++ m.later; events = m.events ∙ ap (λ (ps : List Publication). ps ++ m.later) (step_gains config s e) ∙ append_assoc s.events (gains config s e) m.later }

-- ---- Places

abbrev LaterAt : ℕ → List Publication → Type 0
LaterAt place [] = Unit {0}
LaterAt place (e ∷ []) = e.place ≡ place
LaterAt place (e ∷ f ∷ fs) = ⊥

record RisingBelow (n : ℕ) (events : List Publication) : Type 0 where
  rising : Rising events
  below : EachOf (λ p. p.place < n) events

rising_push : (ps : List Publication) (q : Publication) → Rising ps → EachOf (λ p. p.place < q.place) ps → Rising (ps ++ q ∷ [])
rising_push [] q r d = (tt, tt)
rising_push (p ∷ ps) q r d = (All-push (λ x. p.place < x.place) ps q r.0 d.0, rising_push ps q r.1 d.1)

rising_later : (n : ℕ) (events later : List Publication) → LaterAt n later → RisingBelow n events → RisingBelow (n + 1) (events ++ later)
rising_later n events [] l r = subst (RisingBelow (n + 1)) (sym (append-nil events)) (record { rising = r.rising; below = All-weaker (λ p. p.place < n) (λ p. p.place < n + 1) (λ p h. omega (arith, h)) events r.below })
rising_later n events (e ∷ []) l r = record {
  rising = rising_push events e r.rising (All-weaker (λ p. p.place < n) (λ p. p.place < e.place) (λ p h. omega (arith, h, l)) events r.below);
  below = All-push (λ p. p.place < n + 1) events e (All-weaker (λ p. p.place < n) (λ p. p.place < n + 1) (λ p h. omega (arith, h)) events r.below) (omega (arith, l));
}
rising_later n events (e ∷ f ∷ fs) l r = absurd l

gains_later : (config : Config) (s : Session) (place : ℕ) (k : EntryKind) → LaterAt place (gains_by config s place k)
unfolding gains_by
gains_later config s place (Publish e) = let p : Publication = record { place = place; event = e } in cond_both (is_hit s e && has_room config e s) (p ∷ []) [] (LaterAt place) (λ h. refl) (λ h. tt)
gains_later config s place _ = tt

rising_step : (config : Config) (n : ℕ) (s : Session) (e : Entry) → e.place ≡ n → RisingBelow n s.events → RisingBelow (n + 1) (step config s e).events
unfolding gains
rising_step config n s e h r =
    subst (RisingBelow (n + 1)) (sym (step_gains config s e)) (rising_later n s.events (gains config s e) (subst (λ (k : ℕ). LaterAt k (gains config s e)) h (gains_later config s e.place e.kind)) r)

rising_run : (config : Config) (n : ℕ) (s : Session) (es : List Entry) → PlacesFrom n es → RisingBelow n s.events → Rising (fold (step config) s es).events
rising_run config n s [] d r = r.rising
rising_run config n s (e ∷ es) d r = rising_run config (n + 1) (step config s e) es d.1 (rising_step config n s e d.0 r)

pub events_have_ascending_places : EventsRise
events_have_ascending_places config number es d = rising_run config 0 (unopened number) es d (record { rising = tt; below = tt })

-- ---- When a publish reaches a session

record Hit (config : Config) (s : Session) (e : Event) : Type 0 where
  live : is_live s.stage ≡ true
  within : s.overflow ≡ false
  broadcast : is_broadcast e.channel ≡ true
  matched : any_matches s.patterns (segments e.channel) ≡ true
  room : pending_count s < config.limits.events
  fits : pending_bytes s + event_size e ≤ config.limits.bytes

hit : (config : Config) (s : Session) (e : Event) → (is_hit s e && has_room config e s) ≡ true → Hit config s e
hit config s e h = record {
  live = grind (arith, common_steps);
  within = grind (arith, common_steps);
  broadcast = grind (arith, common_steps);
  matched = (and_parts (is_live s.stage && not s.overflow && is_broadcast e.channel) (any_matches s.patterns (segments e.channel)) (and_parts (is_hit s e) (has_room config e s) h).0).1;
  room = room_count config.limits.events config.limits.bytes e (window_in s) (and_parts (is_hit s e) (has_room config e s) h).1;
  fits = room_bytes config.limits.events config.limits.bytes e (window_in s) (and_parts (is_hit s e) (has_room config e s) h).1;
}

is_so : (config : Config) (s : Session) (e : Event) → Hit config s e → (is_hit s e && has_room config e s) ≡ true
is_so config s e h = let room : has_room config e s ≡ true = room_where config.limits.events config.limits.bytes e (window_in s) h.room h.fits in grind (arith, common_steps)

hit_reads : (config : Config) (number : ℕ) (before : List Entry) (e : Event) → (is_hit (session config number before) e && has_room config e (session config number before)) ≡ true → IsEvent config number before e
hit_reads config number before e h =
    let s : Session = session config number before in
    let x : Hit config (session config number before) e = hit config (session config number before) e h in
    let m : Matching s.patterns (segments e.channel) = matching_from s.patterns (segments e.channel) x.matched in
    record {
      broadcast = x.broadcast;
      live = sym (live_from_opening_to_first_close config number before) ∙ x.live;
      within = sym (overflowed_if_entry_found_no_room config (unopened number) before) ∙ x.within;
      pattern = m.pattern;
      in_force = (and_parts (not s.overflow) (last_of false (filter_map (λ (x : Entry). mention_by number m.pattern x.kind) before)) (sym (pattern_active_if_last_subscribed config number before m.pattern) ∙ m.force)).1;
      matching = m.matching;
      room = x.room;
      fits = x.fits;
    }

reads_hit : (config : Config) (number : ℕ) (before : List Entry) (e : Event) → IsEvent config number before e → (is_hit (session config number before) e && has_room config e (session config number before)) ≡ true
reads_hit config number before e i =
    let s : Session = session config number before in
    let within : s.overflow ≡ false = overflowed_if_entry_found_no_room config (unopened number) before ∙ i.within in
    is_so config s e (record {
      live = live_from_opening_to_first_close config number before ∙ i.live;
      within = within;
      broadcast = i.broadcast;
      matched = matching_any s.patterns (segments e.channel) i.pattern
          (pattern_active_if_last_subscribed config number before i.pattern ∙ ap (λ (o : Bool). not o && last_of false (filter_map (λ (x : Entry). mention_by number i.pattern x.kind) before)) within ∙ i.in_force) i.matching;
      room = i.room;
      fits = i.fits;
    })

-- ---- Each event is such a publish

gains_gets : (config : Config) (number : ℕ) (before : List Entry) (e : Entry) (behind : List Entry) (k : EntryKind) → e.kind ≡ k →
    EachOf (GetsPublish config number (before ++ e ∷ behind)) (gains_by config (session config number before) e.place k)
unfolding gains_by
gains_gets config number before e behind (Publish x) h =
    let p : Publication = record { place = e.place; event = x } in
    let s : Session = session config number before in
    cond_both (is_hit s x && has_room config x s) (p ∷ []) [] (EachOf (GetsPublish config number (before ++ e ∷ behind)))
    (λ g. (record { before = before; entry = e; behind = behind; split = refl; place = refl; kind = h; gets = hit_reads config number before x g }, tt)) (λ g. tt)
gains_gets config number before e behind _ h = tt

gets_run : (config : Config) (number : ℕ) (before es : List Entry) → EachOf (GetsPublish config number (before ++ es)) (session config number before).events →
    EachOf (GetsPublish config number (before ++ es)) (session config number (before ++ es)).events
unfolding gains
gets_run config number before [] d = subst (λ (xs : List Entry). EachOf (GetsPublish config number (before ++ [])) (session config number xs).events) (sym (append-nil before)) d
gets_run config number before (e ∷ es) d =
    let s : Session = session config number before in
    let whole : (before ++ e ∷ []) ++ es ≡ before ++ e ∷ es = append_assoc before (e ∷ []) es in
    let next : session config number (before ++ e ∷ []) ≡ step config s e = fold-append (step config) (unopened number) before (e ∷ []) in
    let here : EachOf (GetsPublish config number (before ++ e ∷ es)) (session config number (before ++ e ∷ [])).events =
    subst (EachOf (GetsPublish config number (before ++ e ∷ es))) (sym (ap (λ (t : Session). t.events) next ∙ step_gains config s e))
    (All-append (GetsPublish config number (before ++ e ∷ es)) s.events (gains config s e) d (gains_gets config number before e es e.kind refl)) in
    subst (λ (xs : List Entry). EachOf (GetsPublish config number xs) (session config number xs).events) whole
    (gets_run config number (before ++ e ∷ []) es (subst (λ (xs : List Entry). EachOf (GetsPublish config number xs) (session config number (before ++ e ∷ [])).events) (sym whole) here))

pub events_were_published : EventsWerePublished
events_were_published config number es = gets_run config number [] es tt

-- ---- Each such publish is an event

gains_one : (config : Config) (s : Session) (place : ℕ) (e : Event) (k : EntryKind) → k ≡ Publish e → (is_hit s e && has_room config e s) ≡ true → gains_by config s place k ≡ record { place = place; event = e } ∷ []
unfolding gains_by
gains_one config s place e k h g = let p : Publication = record { place = place; event = e } in ap (gains_by config s place) h ∙ cond-true (is_hit s e && has_room config e s) (p ∷ []) [] g

pub publishes_are_events : PublishesAreEvents
unfolding gains
publishes_are_events config number before entry behind e h i =
    let s : Session = session config number before in
    let p : Publication = record { place = entry.place; event = e } in
    let m : More (step config s entry) (fold (step config) (step config s entry) behind) = run_more config (step config s entry) behind in
    record {
      later = m.later;
      events = ap (λ (t : Session). t.events) (fold-append (step config) (unopened number) before (entry ∷ behind)) ∙ m.events
          ∙ ap (λ (ps : List Publication). ps ++ m.later) (step_gains config s entry ∙ ap (λ (ps : List Publication). s.events ++ ps) (gains_one config s entry.place e entry.kind h (reads_hit config number before e i)))
          ∙ append_assoc s.events (p ∷ []) m.later;
    }
