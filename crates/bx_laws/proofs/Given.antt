-- Each event in an answer is that of an accepted publish that reached the session.
use Rattle.std.proofs.Common.{◌≡◌, ℕ, ◌<◌, Option, Some, None, List, [], ◌∷◌, ◌++◌, length, drop, find, option_map, slice_get, ◌==◌, refl, sym, ap, ◌∙◌, subst, arith}
use Rattle.bx_advice.specs.declared.config.Config.{Config}
use Rattle.bx_message.specs.declared.{event.Event.Event, message_kind.MessageKind.MessageKind}
use Rattle.bx_message.specs.MessageKinds.{message_kind_of}
use Rattle.bx_entry.specs.Words.{Listed, Post, Posted, Registry, Registered, Judged, PlaceSlot, Ready, Waiting, NoSlot, event_of, kind_for, hold_of, registry, entries_of, sessionless_kind, PlacedAnswer, answer_of, events_of, answer_by, answer_at}
use Rattle.bx_entry.specs.declared.{entry.Entry.Entry, entry.EntryKind.EntryKind, entry.EntryKind.TheVariants.Publish}
use Rattle.bx_entry.specs.Sessions.{Publication, Filed, session, unopened}
use Rattle.bx_theory.proofs.Verdicts.{EntryOf, FoundOf, each_verdict, entry_of_place, got_here, judged_length, next_found, verdict_of}
use Rattle.bx_theory.specs.Laws.{Each, EachOf, Slice}
use Rattle.bx_theory.specs.Events.{GetsPublish, EachEvent, WasPublished, GivenWasPublished}
use Rattle.bx_theory.proofs.{Counts.unopened_in_step, Moves.each_map, Rising.each_of_take, Rising.each_of_drop, Lists.find_each, Gained.events_were_published}
use Rattle.bx_theory.proofs.Runs.{Grown, run_grown, all_places}

-- ---- The entry of a publish is at its place in the list

pub record FromPost (x : Listed) (e : Event) : Type 0 where
  pub message : Posted
  pub posted : x ≡ Post message
  pub message_kind : message_kind_of message.message.channel ≡ MessageKind.Publish
  pub event : e ≡ event_of message.message

abbrev OfPost : Listed → EntryKind → Type 0
OfPost x k = (e : Event) → k ≡ Publish e → FromPost x e

kind_of_post : (c : MessageKind) (p : Posted) (s : Registered) (hold : ℕ) → message_kind_of p.message.channel ≡ c → OfPost (Post p) (kind_for c p s hold)
kind_of_post MessageKind.Publish p s hold h = λ e k. record { message = p; posted = refl; message_kind = h; event = (let same : event_of p.message ≡ e = cc in sym same) }
kind_of_post _ p s hold h = λ e k. cc

sessionless_of_post : (c : MessageKind) (p : Posted) → message_kind_of p.message.channel ≡ c → OfPost (Post p) (sessionless_kind c p.message)
sessionless_of_post MessageKind.Publish p h = λ e k. record { message = p; posted = refl; message_kind = h; event = (let same : event_of p.message ≡ e = cc in sym same) }
sessionless_of_post _ p h = λ e k. cc

of_post : (config : Config) (r : Registry) (x : Listed) → OfPost x (verdict_of config r x).kind
of_post config r x = each_verdict config r (λ y v. OfPost y v.kind) (record {
  refuses = λ p sender error e k. cc;
  opens = λ p e k. cc;
  none = λ p. sessionless_of_post (message_kind_of p.message.channel) p refl;
  serves = λ p s h. kind_of_post (message_kind_of p.message.channel) p s (hold_of config p) refl;
  ticks = λ moment e k. cc;
}) x

-- ---- The events of an answer are events of its session

slice_each : (P : Publication → Type 0) (events : List Publication) (f : Filed) → EachOf P events → Slice events 0 f.publications → EachOf P f.publications
slice_each P events f d s = subst (EachOf P) (sym s.is) (each_of_take P s.count (drop s.from events) (each_of_drop P s.from events d))

answers_each : (config : Config) (number : ℕ) (es : List Entry) (P : Publication → Type 0) → 0 < config.limits.batch → EachOf P (session config number es).events → Each (λ f. EachOf P f.publications) (session config number es).answers
answers_each config number es P room d =
    let g : Grown 0 (unopened number) (session config number es) = run_grown config 0 (unopened number) es room (unopened_in_step config number) (all_places es) in
    subst (Each (λ f. EachOf P f.publications)) (sym g.answers)
    (each_map (λ f. Slice (session config number es).events 0 f.publications) (λ f. EachOf P f.publications) g.filed (λ f s. slice_each P (session config number es).events f d s) g.slices)

each_event : (P : Publication → Type 0) (Q : Event → Type 0) (ps : List Publication) → ((p : Publication) → P p → Q p.event) → EachOf P ps → EachEvent Q (events_of ps)
each_event P Q [] h d = tt
each_event P Q (p ∷ ps) h d = (h p d.0, each_event P Q ps h d.1)

-- ---- The law

pub record Source (list : List Listed) (p : Publication) : Type 0 where
  pub before : List Listed
  pub element : Listed
  pub behind : List Listed
  pub whole : before ++ element ∷ behind ≡ list
  pub place : length before ≡ p.place
  pub post : FromPost element p.event

pub source_of : (config : Config) (list : List Listed) (number : ℕ) (p : Publication) → GetsPublish config number (entries_of (registry config list)) p → Source list p
source_of config list number p g =
    let here : EntryOf config list (length g.before) g.entry = entry_of_place config list (length g.before) g.entry (ap (λ (es : List Entry). slice_get es (length g.before)) g.split ∙ got_here g.before g.entry g.behind) in
    let f : FoundOf config list (length g.before) here.judged = here.found in
    let found : (next_found config (registry config f.before) f.element).entry ≡ g.entry = ap (λ (j : Judged). j.entry) f.found ∙ here.is in
    record {
      before = f.before;
      element = f.element;
      behind = f.behind;
      whole = f.whole;
      place = omega (arith, ap (λ (e : Entry). e.place) found, judged_length config f.before, g.place);
      post = of_post config (registry config f.before) f.element p.event (ap (λ (e : Entry). e.kind) found ∙ g.kind);
    }

published_here : (config : Config) (list : List Listed) (place number : ℕ) (p : Publication) →
    option_map (λ (j : Judged). j.slot) (slice_get (registry config list).judged place) ≡ Some (Waiting number) →
    GetsPublish config number (entries_of (registry config list)) p → WasPublished config list place p.event
published_here config list place number p asked g =
    let s : Source list p = source_of config list number p g in
    record {
      number = number;
      asked = asked;
      source = p.place;
      message = s.post.message;
      listed = ap (slice_get list) (sym s.place) ∙ ap (λ (xs : List Listed). slice_get xs (length s.before)) (sym s.whole) ∙ got_here s.before s.element s.behind ∙ ap Some s.post.posted;
      message_kind = s.post.message_kind;
      event = s.post.event;
      gets = g;
    }

filed_events : (config : Config) (list : List Listed) (place number : ℕ) (a : PlacedAnswer) (o : Option Filed) → 0 < config.limits.batch →
    option_map (λ (j : Judged). j.slot) (slice_get (registry config list).judged place) ≡ Some (Waiting number) →
    find (λ (f : Filed). f.connect == place) (session config number (entries_of (registry config list))).answers ≡ o → option_map answer_of o ≡ Some a →
    EachEvent (WasPublished config list place) a.events
filed_events config list place number a None room asked h e = cc
filed_events config list place number a (Some f) room asked h e =
    let es : List Entry = entries_of (registry config list) in
    let same : events_of f.publications ≡ a.events = (let b : answer_of f ≡ a = cc in ap (λ (x : PlacedAnswer). x.events) b) in
    subst (EachEvent (WasPublished config list place)) same
    (each_event (GetsPublish config number (entries_of (registry config list))) (WasPublished config list place) f.publications (λ p g. published_here config list place number p asked g)
    (find_each (λ g. EachOf (GetsPublish config number (entries_of (registry config list))) g.publications) (λ (g : Filed). g.connect == place) (session config number es).answers f h
    (answers_each config number es (GetsPublish config number (entries_of (registry config list))) room (events_were_published config number es))))

given_by_slot : (config : Config) (list : List Listed) (place : ℕ) (a : PlacedAnswer) (slot : PlaceSlot) → 0 < config.limits.batch →
    option_map (λ (j : Judged). j.slot) (slice_get (registry config list).judged place) ≡ Some slot →
    answer_by config (entries_of (registry config list)) place slot ≡ Some a → EachEvent (WasPublished config list place) a.events
given_by_slot config list place a (Ready reply) room asked e = (let none : [] ≡ a.events = ap (λ (o : Option PlacedAnswer). elim o [ None ↦ [] | Some x ↦ x.events ]) e in subst (EachEvent (WasPublished config list place)) none tt)
given_by_slot config list place a (Waiting number) room asked e = filed_events config list place number a (find (λ (f : Filed). f.connect == place) (session config number (entries_of (registry config list))).answers) room asked refl e
given_by_slot config list place a NoSlot room asked e = cc

given_at : (config : Config) (list : List Listed) (place : ℕ) (a : PlacedAnswer) (o : Option Judged) → 0 < config.limits.batch → slice_get (registry config list).judged place ≡ o →
    answer_at config (entries_of (registry config list)) place o ≡ Some a → EachEvent (WasPublished config list place) a.events
given_at config list place a None room h e = cc
given_at config list place a (Some j) room h e = given_by_slot config list place a j.slot room (ap (option_map (λ (i : Judged). i.slot)) h) e

pub given_was_published : GivenWasPublished
given_was_published config list place a room e = given_at config list place a (slice_get (registry config list).judged place) room refl e
