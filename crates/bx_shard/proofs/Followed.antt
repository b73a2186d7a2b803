-- What each kind of entry does to a shard's sessions, from the contracts of the calls.
use Rattle.std.proofs.Common.{arith, Contains, ◌≡◌, ◌≢◌, ◌⊎◌, inl, inr, ℕ, nat_eq, ◌==◌, Bool, true, false, cond, Option, Some, None, option_map, is_some, List, [], refl, sym, ap, ◌∙◌, subst}
use Rattle.std.specs.{List.list_any, Option.option_and_then, Option.option_map_or}
use Rattle.std.proofs.lemmas.{Bool.eqb-true, Bool.eq-eqb, List.Elements.Contains-append_cases}
use Rattle.bx_names.specs.Globs.{Glob}
use Rattle.bx_advice.specs.declared.advice.Outcome.TheVariants.{Disconnected}
use Rattle.bx_message.specs.declared.event.Event.{Event}
use Rattle.bx_entry.specs.declared.entry.{Entry.Entry, EntryKind.EntryKind}
use Rattle.bx_entry.specs.declared.entry.EntryKind.TheVariants as kinds
use Rattle.bx_entry.specs.Words.{Kept, after, kept, resumed, Live, Pending, Session, Stage, begun, closed_by, connected, disconnected, ended, expired, is_live, published, released, step}
use Rattle.bx_session.specs.declared.answered.Answered.{Answered}
use Rattle.bx_session.specs.Views.{deadline_of, pending}
use Rattle.bx_connects.specs.declared.connects.ConnectState.{ConnectState}
use Rattle.bx_connects.specs.declared.connects.ConnectState.TheVariants.{Filed}
use Rattle.bx_connects.specs.Connects.{connect_at, held_by, session_at}
use Rattle.bx_shard.specs.declared.sessions.Sessions.{Sessions}
use Rattle.bx_shard.specs.Effects.{answers_by, connect_filing, filing_each, holding}
use Rattle.bx_shard.specs.Words.{Followed, alone, published_at, Connects, IsGiven, if_live, dropped_by, session_after}
use Rattle.bx_shard.specs.Sessions.{AreCounted, AreHeld, IsCounted, IsOwn, kept_in, patterns_in}
use Rattle.bx_shard.specs.States as states
use Rattle.bx_shard.proofs.Beginnings.{both_answers, filing_more, is_own, is_superseded, others_superseded, own_answers, superseded, to_itself}
use Rattle.bx_theory.proofs.Keeps.{Keeps, connected_k, expired_from_k, released_from_k}
use Rattle.bx_shard.proofs.{Counts.published_stage, Singles.nowhere}
use Rattle.bx_shard.proofs.Ends.{IsTo, filed_only, filed_to, held_to, is_to, release_settles}
use Rattle.bx_shard.proofs.Keeps.{AreElsewhere, filing_each_session, held_session, dropped_by_session, unfiled}

of_kind : (stands : Bool) (e : Entry) (kind : EntryKind) (old new : Sessions) → e.kind ≡ kind → Followed stands (record e { kind = kind; rides = None }) old new → Followed stands (alone e) old new
of_kind stands e kind old new is follows = subst (λ (k : EntryKind). Followed stands (record e { kind = k; rides = None }) old new) (sym is) follows

-- ---- one session

pub live_there : (t : Session) → t.stage ≡ Live → Some (kept t) ≡ if_live (kept t)
live_there t live = sym (ap (λ (stage : Stage). cond (is_live stage) (Some (kept t)) None) live)

module _ (n : ℕ) (k : Kept) (patterns : List Glob) (own : IsOwn n k patterns) where
  own_or_as_it_was : (m : ℕ) (t : Session) → t.stage ≡ k.stage → cond (nat_eq m n) (Some (kept t)) (Some k) ≡ if_live (kept (cond (m == k.number) t (resumed k)))
  own_or_as_it_was m t stage = grind arith

  own_ended : (m : ℕ) (t : Session) → t.stage ≡ k.stage → cond (nat_eq m n) None (Some k) ≡ if_live (kept (cond (m == k.number) (ended t) (resumed k)))
  own_ended m t stage = grind arith

  closed_or_live : (numbers : List ℕ) (t : Session) → t.stage ≡ k.stage → t.number ≡ k.number
      → cond (list_any (λ m. m == n) numbers) None (Some (kept t)) ≡ if_live (kept (closed_by numbers t))
  closed_or_live numbers t stage number = grind arith

-- ---- all sessions

abbrev with_one : ℕ → (Session → Session) → (ℕ → Option Kept) → ℕ → Option Kept
with_one m change sessions n = cond (nat_eq m n) (option_map (after change) (sessions m)) (sessions n)

pub at_number : (m n : ℕ) (f : Option Kept → Option Kept) (sessions : ℕ → Option Kept) → cond (nat_eq m n) (f (sessions m)) (sessions n) ≡ cond (nat_eq m n) (f (sessions n)) (sessions n)
at_number m n f sessions = grind arith

pub none_here : (b : Bool) → cond {A = Option Kept} b None None ≡ None
none_here true = refl
none_here false = refl

given_of_one : (b : Bool) (answers : List Answered) (a : Answered) → Contains (cond b answers []) a → (b ≡ true) × Contains answers a
given_of_one b answers a there = grind arith

module _ (stands : Bool) (e : Entry) (m : ℕ) (old : Sessions) (counted : AreCounted old) (kind : EntryKind) (change : Session → Session)
    (is : (s : Session) → step old.config s (record e { kind = kind; rides = None }) ≡ cond (m == s.number) (change s) s) where
  abbrev follows : Entry
  follows = record e { kind = kind; rides = None }

  one_stepped : ((n : ℕ) → states.opening stands kind n ≡ None) → ((n : ℕ) (k : Kept) → kept_in old n ≡ Some k → (change (resumed k)).stage ≡ k.stage)
      → (n : ℕ) → with_one m change (kept_in old) n ≡ session_after old.config stands follows n (kept_in old n)
  one_stepped opens stage n = at_number m n (option_map (after change)) (kept_in old) ∙ by (kept_in old n) refl (counted n)
    where
      F : Kept → Option Kept
      F k = if_live (kept (step old.config (resumed k) follows))

      by : (o : Option Kept) → kept_in old n ≡ o → IsCounted n o (patterns_in old n) → cond (nat_eq m n) (option_map (after change) o) o ≡ session_after old.config stands follows n o
      by None here c = none_here (nat_eq m n) ∙ sym (ap (option_and_then F) (opens n))
      by (Some k) here c = own_or_as_it_was n k (patterns_in old n) c m (change (resumed k)) (stage n k here) ∙ sym (ap (λ (t : Session). if_live (kept t)) (is (resumed k)))

  one_answered : (n : ℕ) → answers_by (λ s. step old.config s follows) (kept_in old n) ≡ cond (nat_eq m n) (answers_by change (kept_in old n)) []
  one_answered n = grind arith

  one_given : (n : ℕ) (a : Answered) → IsGiven old.config (kept_in old) follows n a → (m ≡ n) × Contains (answers_by change (kept_in old m)) a
  one_given n a g =
      let w = given_of_one (nat_eq m n) (answers_by change (kept_in old n)) a (subst (λ answers. Contains answers a) (one_answered n) g) in
      let same : m ≡ n = eqb-true m n w.0 in
      (same, subst (λ j. Contains (answers_by change (kept_in old j)) a) (sym same) w.1)

  given_one : (a : Answered) → Contains (answers_by change (kept_in old m)) a → IsGiven old.config (kept_in old) follows m a
  given_one a there = subst (λ answers. Contains answers a) (sym (one_answered m ∙ ap (λ b. cond b (answers_by change (kept_in old m)) []) (eq-eqb m m refl))) there

  one_filed : (C : ℕ → Option ConnectState) → ((a : Answered) → Contains (answers_by change (kept_in old m)) a → C a.place ≡ Some (Filed m e.place a.answer))
      → (n : ℕ) (a : Answered) → IsGiven old.config (kept_in old) follows n a → C a.place ≡ Some (Filed n e.place a.answer)
  one_filed C filed n a g = let w = one_given n a g in filed a w.1 ∙ ap (λ j. Some (Filed j e.place a.answer)) w.0

-- ---- a handshake

unchanged : (stands : Bool) (e : Entry) (s : Sessions) (kind : EntryKind) → e.kind ≡ kind → ((n : ℕ) → kept_in s n ≡ session_after s.config stands (record e { kind = kind; rides = None }) n (kept_in s n))
    → ((n : ℕ) → answers_by (λ t. step s.config t (record e { kind = kind; rides = None })) (kept_in s n) ≡ [])
    → ((p : ℕ) → connect_at s.connects p ≡ states.begun (kept_in s) (connect_at s.connects) (record e { kind = kind; rides = None }) kind p) → AreCounted s → AreHeld s → Followed stands (alone e) s s
unchanged stands e s kind is sessions none connects counted held = of_kind stands e kind s s is (record {
  config = refl;
  sessions = sessions;
  connects = record { given = λ n a g. absurd (nowhere a (rw (none n) at g)); kept = λ p never. connects p };
  known = λ p m k. inl k;
  counted = counted;
  held = held;
})

-- ---- a connect

module _ (s : Sessions) (m : ℕ) (connect : Pending) (acked : Option ℕ) (k : Kept) (held : AreHeld s) (here : kept_in s m ≡ Some k) (fresh : connect_at s.connects connect.place ≡ None) where
  abbrev first_held : ℕ → Option ConnectState
  first_held p = holding m connect (connect_at s.connects) p

  abbrev its_answers : List Answered
  its_answers = answers_by (connected s.config connect acked) (Some k)

  held_known : (p : ℕ) → session_at (connect_at s.connects p) ≡ Some m → session_at (first_held p) ≡ Some m
  held_known p known = grind arith

  fresh_known : (p : ℕ) → p ≡ connect.place → session_at (first_held p) ≡ Some m
  fresh_known p same = grind arith

  abbrev first : List Answered
  first = superseded s.config connect acked k

  abbrev own : List Answered
  own = own_answers s.config connect acked k

  superseded_known : (a : Answered) → Contains first a → session_at (connect_at s.connects a.place) ≡ Some m
  superseded_known a there =
      let to : IsTo (kept_in s m) first a = subst (λ o. IsTo o first a) (sym here) (is_superseded s.config connect acked k a there) in
      held_session (connect_at s.connects a.place) m (deadline_of to.hold) (held_to (connect_at s.connects) (kept_in s) m first a held to)

  filed_both : (a : Answered) → Contains its_answers a → filing_each connect.place its_answers first_held a.place ≡ Some (Filed m connect.place a.answer)
  filed_both a there =
      ap (λ answers. filing_each connect.place answers first_held a.place) (sym (both_answers s.config connect acked k))
      ∙ filing_more connect.place first own first_held a.place
      ∙ by (Contains-append_cases first own a (subst (λ answers. Contains answers a) (sym (both_answers s.config connect acked k)) there))
    where
      others : AreElsewhere connect.place first
      others = others_superseded s.config connect acked (connect_at s.connects) (connect_at s.connects) (kept_in s) (kept_in s) m k here held fresh

      by : Contains first a ⊎ Contains own a → filing_each connect.place own (filing_each connect.place first first_held) a.place ≡ Some (Filed m connect.place a.answer)
      by (inl earlier) =
          unfiled connect.place own (filing_each connect.place first first_held) a.place (λ b later same. others a earlier (sym same ∙ to_itself s.config connect acked k b later))
          ∙ filed_only connect.place m first a first_held (is_superseded s.config connect acked k a earlier).only (held_known a.place (superseded_known a earlier))
      by (inr last) =
          filed_only connect.place m own a (filing_each connect.place first first_held) (is_own s.config connect acked k a last).only
          (filing_each_session connect.place first first_held a.place ∙ fresh_known a.place (to_itself s.config connect acked k a last))

followed_pending : (stands : Bool) (e : Entry) (m : ℕ) (client : List ℕ) (id : Option (List ℕ)) (acked : Option ℕ) (hold : ℕ) (old new : Sessions)
    → e.kind ≡ kinds.Connect m client id acked hold → connect_at old.connects e.place ≡ None
    → ((n : ℕ) → kept_in new n ≡ with_one m (connected old.config (pending e.place client id e.moment hold) acked) (kept_in old) n)
    → ((p : ℕ) → connect_at new.connects p ≡ connect_filing m (pending e.place client id e.moment hold) (connected old.config (pending e.place client id e.moment hold) acked) (kept_in old m) (connect_at old.connects) p)
    → new.config ≡ old.config → (AreCounted old → AreCounted new) → (AreHeld old → AreHeld new)
    → AreCounted old → AreHeld old → Followed stands (alone e) old new
followed_pending stands e m client id acked hold old new kind fresh sessions connects config counts holds counted held =
    of_kind stands e (kinds.Connect m client id acked hold) old new kind (record {
      config = config;
      sessions = λ n. sessions n ∙ one_stepped stands e m old counted (kinds.Connect m client id acked hold) change (λ s. refl) (λ n. refl) (λ n k here. (connected_k old.config connect acked (resumed k)).stage) n;
      connects = record {
        given = one_filed stands e m old counted (kinds.Connect m client id acked hold) change (λ s. refl) (connect_at new.connects) (λ a there. connects a.place ∙ filed (kept_in old m) refl a there);
        kept = kept_at;
      };
      known = λ p n k. known p n (kept_in old m) refl (sym (ap session_at (connects p)) ∙ k);
      counted = counts counted;
      held = holds held;
    })
  where
    connect : Pending
    connect = pending e.place client id e.moment hold

    change : Session → Session
    change = connected old.config connect acked

    follows : Entry
    follows = record e { kind = kinds.Connect m client id acked hold; rides = None }

    filed : (o : Option Kept) → kept_in old m ≡ o → (a : Answered) → Contains (answers_by change o) a → connect_filing m connect change o (connect_at old.connects) a.place ≡ Some (Filed m e.place a.answer)
    filed None gone a there = absurd (nowhere a there)
    filed (Some k) here a there =
        filed_both old m connect acked k held here fresh a there

    known : (p n : ℕ) (o : Option Kept) → kept_in old m ≡ o → session_at (connect_filing m connect change (kept_in old m) (connect_at old.connects) p) ≡ Some n
        → (session_at (connect_at old.connects p) ≡ Some n) ⊎ Connects (kept_in old) follows p n
    known p n None gone k = inl (rw gone at k)
    known p n (Some x) here k = by (nat_eq e.place p) refl (rw (here, filing_each_session e.place (answers_by change (Some x)) (holding m connect (connect_at old.connects)) p) at k)
      where
        by : (b : Bool) → nat_eq e.place p ≡ b → session_at (cond b (held_by m (deadline_of connect)) (connect_at old.connects p)) ≡ Some n
            → (session_at (connect_at old.connects p) ≡ Some n) ⊎ Connects (kept_in old) follows p n
        by true same h = inr (record {
          place = eqb-true e.place p same;
          session = inl h;
          here = subst (λ j. is_some (kept_in old j) ≡ true) (ap (λ o. option_map_or (λ (j : ℕ). j) o m) h) (ap is_some here);
        })
        by false other h = inl h

    kept_at : (p : ℕ) → ((n : ℕ) (a : Answered) → IsGiven old.config (kept_in old) follows n a → a.place ≢ p) → connect_at new.connects p ≡ states.begun (kept_in old) (connect_at old.connects) follows (kinds.Connect m client id acked hold) p
    kept_at p never = connects p ∙ by (kept_in old m) refl
      where
        by : (o : Option Kept) → kept_in old m ≡ o → connect_filing m connect change (kept_in old m) (connect_at old.connects) p ≡ states.begun (kept_in old) (connect_at old.connects) follows (kinds.Connect m client id acked hold) p
        by None gone = rw gone
        by (Some k) here = rw here (unfiled e.place (answers_by change (Some k)) (holding m connect (connect_at old.connects)) p
            (λ a there. never m a (given_one stands e m old counted (kinds.Connect m client id acked hold) change (λ s. refl) a (rw here there))))

pub followed_connect : (stands : Bool) (e : Entry) (m : ℕ) (client : List ℕ) (id : Option (List ℕ)) (acked : Option ℕ) (hold : ℕ) (connect : Pending) (old new : Sessions)
    → e.kind ≡ kinds.Connect m client id acked hold → connect ≡ pending e.place client id e.moment hold
    → connect_at old.connects connect.place ≡ None
    → ((n : ℕ) → kept_in new n ≡ with_one m (connected old.config connect acked) (kept_in old) n)
    → ((p : ℕ) → connect_at new.connects p ≡ connect_filing m connect (connected old.config connect acked) (kept_in old m) (connect_at old.connects) p)
    → (new.config ≡ old.config) × (new.tree ≡ old.tree)
    → (AreCounted old → AreCounted new) → (AreHeld old → AreHeld new)
    → AreCounted old → AreHeld old → Followed stands (alone e) old new
followed_connect stands e m client id acked hold connect old new kind is fresh sessions connects others counts holds counted held =
    followed_pending stands e m client id acked hold old new kind
    (ap (λ (c : Pending). connect_at old.connects c.place) (sym is) ∙ fresh)
    (λ n. sessions n ∙ ap (λ (c : Pending). with_one m (connected old.config c acked) (kept_in old) n) is)
    (λ p. connects p ∙ ap (λ (c : Pending). connect_filing m c (connected old.config c acked) (kept_in old m) (connect_at old.connects) p) is)
    others.0 counts holds counted held

-- ---- a disconnect

pub followed_disconnect : (stands : Bool) (e : Entry) (m : ℕ) (old new : Sessions) → e.kind ≡ kinds.Disconnect m
    → ((n : ℕ) → kept_in new n ≡ cond (nat_eq m n) None (kept_in old n))
    → ((p : ℕ) → connect_at new.connects p ≡ filing_each e.place (answers_by (released old.config e.place Disconnected) (kept_in old m)) (connect_at old.connects) p)
    → new.config ≡ old.config
    → (AreCounted old → AreCounted new) → (AreHeld old → AreHeld new)
    → AreCounted old → AreHeld old → Followed stands (alone e) old new
followed_disconnect stands e m old new kind sessions connects config counts holds counted held = of_kind stands e (kinds.Disconnect m) old new kind (record {
  config = config;
  sessions = λ n. sessions n ∙ by n (kept_in old n) (counted n);
  connects = record {
    given = one_filed stands e m old counted (kinds.Disconnect m) (disconnected old.config e.place) (λ s. refl) (connect_at new.connects) (λ a there. filed a (subst (λ answers. Contains answers a) same there));
    kept = λ p never. connects p ∙ unfiled e.place given (connect_at old.connects) p
        (λ a there. never m a (given_one stands e m old counted (kinds.Disconnect m) (disconnected old.config e.place) (λ s. refl) a (subst (λ answers. Contains answers a) (sym same) there)));
  };
  known = λ p n k. inl (sym (ap session_at (connects p) ∙ filing_each_session e.place given (connect_at old.connects) p) ∙ k);
  counted = counts counted;
  held = holds held;
})
  where
    follows : Entry
    follows = record e { kind = kinds.Disconnect m; rides = None }

    by : (n : ℕ) (o : Option Kept) → IsCounted n o (patterns_in old n) → cond (nat_eq m n) None o ≡ session_after old.config stands follows n o
    by n None c = none_here (nat_eq m n)
    by n (Some k) c = own_ended n k (patterns_in old n) c m (released old.config e.place Disconnected (resumed k)) (released_from_k old.config e.place Disconnected (resumed k) k.held).stage

    given : List Answered
    given = answers_by (released old.config e.place Disconnected) (kept_in old m)

    same : answers_by (disconnected old.config e.place) (kept_in old m) ≡ given
    same = grind arith

    filed : (a : Answered) → Contains given a → connect_at new.connects a.place ≡ Some (Filed m e.place a.answer)
    filed a there = connects a.place ∙ filed_to (connect_at old.connects) (kept_in old) e.place m given a held (is_to (kept_in old m) None given a (release_settles old.config e.place (kept_in old m)) there)

-- ---- a rejected message

-- ---- patterns

-- ---- a publish

pub followed_publish : (stands : Bool) (e : Entry) (event : Event) (old new : Sessions) → e.kind ≡ kinds.Publish event
    → ((n : ℕ) → kept_in new n ≡ option_map (after (published old.config (published_at e.place event))) (kept_in old n))
    → ((n : ℕ) (a : Answered) → Contains (answers_by (published old.config (published_at e.place event)) (kept_in old n)) a → connect_at new.connects a.place ≡ Some (Filed n e.place a.answer))
    → ((p : ℕ) → ((n : ℕ) (a : Answered) → Contains (answers_by (published old.config (published_at e.place event)) (kept_in old n)) a → a.place ≢ p) → connect_at new.connects p ≡ connect_at old.connects p)
    → ((p : ℕ) → session_at (connect_at new.connects p) ≡ session_at (connect_at old.connects p))
    → new.config ≡ old.config → AreCounted old → AreCounted new → AreHeld new → Followed stands (alone e) old new
followed_publish stands e event old new is sessions given kept_at known config before counted held = of_kind stands e (kinds.Publish event) old new is (record {
  config = config;
  sessions = λ n. sessions n ∙ by n (kept_in old n) (before n);
  connects = record { given = λ n a g. given n a (rw (same (kept_in old n)) at g); kept = λ p never. kept_at p (λ n a g. never n a (subst (λ answers. Contains answers a) (sym (same (kept_in old n))) g)) };
  known = λ p m k. inl (sym (known p) ∙ k);
  counted = counted;
  held = held;
})
  where
    change : Session → Session
    change = published old.config (published_at e.place event)

    by : (n : ℕ) (o : Option Kept) → IsCounted n o (patterns_in old n) → option_map (after change) o ≡ session_after old.config stands (record e { kind = kinds.Publish event; rides = None }) n o
    by n None c = refl
    by n (Some k) c = live_there (change (resumed k)) (published_stage k old.config (published_at e.place event) ∙ c.live)

    same : (o : Option Kept) → answers_by (λ s. step old.config s (record e { kind = kinds.Publish event; rides = None })) o ≡ answers_by change o
    same None = refl
    same (Some k) = refl

-- ---- a tick

pub followed_tick : (stands : Bool) (e : Entry) (numbers : List ℕ) (old between new : Sessions) → e.kind ≡ kinds.Tick numbers
    → ((n : ℕ) → kept_in between n ≡ option_map (after (expired old.config e.place e.moment)) (kept_in old n))
    → ((n : ℕ) (a : Answered) → Contains (answers_by (expired old.config e.place e.moment) (kept_in old n)) a → connect_at between.connects a.place ≡ Some (Filed n e.place a.answer))
    → ((p : ℕ) → ((n : ℕ) (a : Answered) → Contains (answers_by (expired old.config e.place e.moment) (kept_in old n)) a → a.place ≢ p) → connect_at between.connects p ≡ connect_at old.connects p)
    → ((p : ℕ) → session_at (connect_at between.connects p) ≡ session_at (connect_at old.connects p))
    → between.config ≡ old.config
    → ((n : ℕ) → kept_in new n ≡ cond (list_any (λ m. m == n) numbers) None (kept_in between n))
    → ((p : ℕ) → connect_at new.connects p ≡ dropped_by numbers (connect_at between.connects p))
    → new.config ≡ between.config → AreCounted old → AreCounted new → AreHeld new → Followed stands (alone e) old new
followed_tick stands e numbers old between new is ends given kept_at known config closed gone config_closed before counted held = of_kind stands e (kinds.Tick numbers) old new is (record {
  config = config_closed ∙ config;
  sessions = λ n. closed n ∙ ap (λ o. cond (list_any (λ m. m == n) numbers) None o) (ends n) ∙ by n (kept_in old n) (before n);
  connects = record {
    given = λ n a g. gone a.place ∙ ap (dropped_by numbers) (given n a (subst (λ answers. Contains answers a) (answered (kept_in old n)) g));
    kept = λ p never. gone p ∙ ap (dropped_by numbers) (kept_at p (λ n a g. never n a (subst (λ answers. Contains answers a) (sym (answered (kept_in old n))) g)));
  };
  known = λ p m k. inl (sym (known p) ∙ dropped_by_session numbers (connect_at between.connects p) m (sym (ap session_at (gone p)) ∙ k));
  counted = counted;
  held = held;
})
  where
    change : Session → Session
    change = expired old.config e.place e.moment

    follows : Entry
    follows = record e { kind = kinds.Tick numbers; rides = None }

    by : (n : ℕ) (o : Option Kept) → IsCounted n o (patterns_in old n) → cond (list_any (λ m. m == n) numbers) None (option_map (after change) o) ≡ session_after old.config stands follows n o
    by n None c = none_here (list_any (λ m. m == n) numbers)
    by n (Some k) c = let s : Keeps (resumed k) (change (resumed k)) = expired_from_k old.config e.place e.moment (resumed k) k.held in closed_or_live n k (patterns_in old n) c numbers (change (resumed k)) s.stage s.number

    answered : (o : Option Kept) → answers_by (λ s. step old.config s follows) o ≡ answers_by change o
    answered o = grind arith
