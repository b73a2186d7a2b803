-- A rider is answered after the rest of its entry is applied.
use Rattle.std.proofs.Common.{Contains, arith, ◌≡◌, ◌≢◌, ◌≤◌, ◌+◌, ◌&&◌, ◌⊎◌, inl, inr, ⊎_elim, ℕ, nat_eq, ◌==◌, Bool, true, false, cond, Option, Some, None, option_map, IfSome, is_some, List, [], ◌∷◌, length, map, refl, sym, ap, ◌∙◌, subst, true≢false}
use Rattle.std.specs.Option.{option_and_then}
use Rattle.std.proofs.lemmas.{Bool.and_parts, Bool.cond_both, Bool.eqb-true, Bool.eq-eqb, Bool.ne_eqb, Grind.common_steps}
use Rattle.std.proofs.lemmas.{List.length_push, List.map-append, List.Elements.Contains-append_cases, List.Elements.Contains-append_left, List.Elements.Contains-append_right}
use Rattle.bx_history.proofs.Tests.{either}
use Rattle.bx_names.specs.Globs.{Glob}
use Rattle.bx_advice.specs.declared.config.Config.{Config}
use Rattle.bx_message.specs.declared.event.Event.{Event}
use Rattle.bx_entry.specs.declared.entry.{Entry.Entry, EntryKind.EntryKind, Rider.Rider}
use Rattle.bx_entry.specs.declared.entry.EntryKind.TheVariants.{Opened}
use Rattle.bx_entry.specs.Keeping.{Kept, kept, resumed}
use Rattle.bx_entry.specs.Sessions.{Live, Session, is_live, is_riding, ridden, ridden_by, ride_filing, ride_portion, rider_of, step, step_by}
use Rattle.bx_session.specs.declared.answered.Answered.{Answered}
use Rattle.bx_session.specs.Views.{answered_of, ride_most}
use Rattle.bx_connects.specs.declared.connects.ConnectState.{ConnectState}
use Rattle.bx_connects.specs.declared.connects.ConnectState.TheVariants as states
use Rattle.bx_connects.specs.Connects.{completed, connect_at, session_at}
use Rattle.bx_shard.specs.declared.sessions.Sessions.{Sessions}
use Rattle.bx_shard.specs.Effects.{answers_by}
use Rattle.bx_shard.specs.Words.{Followed, alone, completed_by, given_up, rider_in, rides_of, unridden, Connects, IsGiven, begun, if_live, opening, riding, session_after}
use Rattle.bx_shard.specs.Sessions.{AreCounted, AreHeld, IsCounted, IsOwn, ends_for, held_until, holds_until, kept_in, patterns_in}
use Rattle.bx_theory.proofs.{Stages.step_by_next}
use Rattle.bx_shard.proofs.{Followed.at_number, Followed.live_there, Followed.none_here, Ties.Agree, Ties.still}
use Rattle.bx_shard.proofs.Gives.{HoldsIt, holds_ends, rider_due}
use Rattle.bx_shard.proofs.Singles.{nowhere, only_one, the_one}

-- ---- the kinds of entries that are riders

portion_fits : (config : Config) (k : Kept) (t : Session) (room : ℕ) → t.ack ≡ k.ack → length t.queue ≤ length k.queue + 1 → ride_most config k ≤ room → ride_portion config t ≤ room
portion_fits config k t room ack longer fits = grind (arith, common_steps)

rider_of_none : (kind : EntryKind) → rider_of kind None ≡ None
rider_of_none kind = grind arith

pub alone_step : (config : Config) (s : Session) (e : Entry) → step config s (alone e) ≡ step_by config e.place e.moment s e.kind
alone_step config s e = ap (ridden_by config e.place (step_by config e.place e.moment s e.kind)) (rider_of_none e.kind)

module _ (kind : EntryKind) (rides : Option Rider) (rider : Rider) (is : rider_of kind rides ≡ Some rider) where
  rider_opens : (stands : Bool) (n : ℕ) → opening stands kind n ≡ None
  rider_opens stands n = grind arith

  rider_begins : (sessions : ℕ → Option Kept) (connects : ℕ → Option ConnectState) (e : Entry) (p : ℕ) → begun sessions connects e kind p ≡ connects p
  rider_begins sessions connects e p = grind arith

  rider_stays : (config : Config) (place moment : ℕ) (s : Session) → (step_by config place moment s kind).stage ≡ s.stage
  rider_stays config place moment s = grind (arith, (step_by_next config place moment s kind).stage)

  -- ---- room

  record OneMore (s t : Session) : Type 0 where
    ack : t.ack ≡ s.ack
    longer : length t.queue ≤ length s.queue + 1

  rider_adds : (config : Config) (place moment : ℕ) (s : Session) → OneMore s (step_by config place moment s kind)
  rider_adds config place moment s = grind (arith, common_steps, length_push)

  rider_fits : (config : Config) (place moment : ℕ) (k : Kept) (room : ℕ) → ride_most config k ≤ room → ride_portion config (step_by config place moment (resumed k) kind) ≤ room
  rider_fits config place moment k room fits =
      let one : OneMore (resumed k) (step_by config place moment (resumed k) kind) = rider_adds config place moment (resumed k) in
      portion_fits config k (step_by config place moment (resumed k) kind) room one.ack one.longer fits

-- ---- one session

rode : (config : Config) (place : ℕ) (reply : _) (b : Bool) (t : Session) → t.stage ≡ Live → cond b (Some (given_up config (kept t))) (Some (kept t)) ≡ if_live (kept (cond (b && is_live t.stage) (ridden config place reply t) t))
rode config place reply b t live = grind arith

module _ (config : Config) (place : ℕ) (rider : Rider) where
  abbrev pub ride_answer : Session → Answered
  ride_answer t = answered_of (ride_filing config place rider.reply t)

  still_given : (t : Session) (a : Answered) → Contains (map answered_of t.answers) a → Contains (map answered_of (ridden_by config place t (Some rider)).answers) a
  still_given t a there = grind (arith, common_steps, map-append answered_of t.answers (ride_filing config place rider.reply t ∷ []), Contains-append_left (map answered_of t.answers) (ride_answer t ∷ []) a there)

  ride_given : (t : Session) → is_riding rider t ≡ true → Contains (map answered_of (ridden_by config place t (Some rider)).answers) (ride_answer t)
  ride_given t h = grind (arith, common_steps, map-append answered_of t.answers (ride_filing config place rider.reply t ∷ []), Contains-append_right (map answered_of t.answers) (ride_answer t ∷ []) (ride_answer t) (the_one (ride_answer t)))

  given_cases : (t : Session) (a : Answered) → Contains (map answered_of (ridden_by config place t (Some rider)).answers) a → Contains (map answered_of t.answers) a ⊎ ((is_riding rider t ≡ true) × (a ≡ ride_answer t))
  given_cases t a = cond_both (is_riding rider t) (ridden config place rider.reply t) t
      (λ (u : Session). Contains (map answered_of u.answers) a → Contains (map answered_of t.answers) a ⊎ ((is_riding rider t ≡ true) × (a ≡ ride_answer t)))
      (λ h there.
      ⊎_elim (λ earlier. inl earlier) (λ last. inr (h, sym (only_one (ride_answer t) a last)))
      (Contains-append_cases (map answered_of t.answers) (ride_answer t ∷ []) a (rw (map-append answered_of t.answers (ride_filing config place rider.reply t ∷ [])) at there)))
      (λ h there. inl there)

-- ---- all sessions

convert : (sessions : ℕ → Option Kept) (e : Entry) (p m : ℕ) → Connects sessions (alone e) p m → Connects sessions e p m
convert sessions e p m c = record {
  place = c.place;
  session = ⊎_elim (λ h. inl h) (λ h. absurd (let no : None ≡ Some m = sym (ap riding (rider_of_none e.kind)) ∙ h in cc)) c.session;
  here = c.here;
}

ridden_other : (config : Config) (place n : ℕ) (t : Session) (rides : Option Rider) → t.number ≡ n → ((rider : Rider) → rides ≡ Some rider → (rider.session == n) ≡ false) → ridden_by config place t rides ≡ t
ridden_other config place n t rides number away = grind arith

opened_alone : (config : Config) (stands : Bool) (e : Entry) (n : ℕ) (kind : EntryKind) → session_after config stands (alone (record e { kind = kind })) n None ≡ session_after config stands (record e { kind = kind }) n None
opened_alone config stands e n (Opened m ack) = refl
opened_alone config stands e n _ = refl

pub followed_alone : (stands : Bool) (e : Entry) (old new : Sessions) → ((n : ℕ) (rider : Rider) → rides_of e ≡ Some rider → is_some (kept_in old n) ≡ true → (rider.session == n) ≡ false) → AreCounted old
    → Followed stands (alone e) old new → Followed stands e old new
followed_alone stands e old new away counted f = record {
  config = f.config;
  sessions = λ n. f.sessions n ∙ after n (kept_in old n) refl (counted n);
  connects = record {
    given = λ n a g. f.connects.given n a (subst (λ answers. Contains answers a) (sym (answers n (kept_in old n) refl (counted n))) g);
    kept = λ p others. f.connects.kept p (λ n a g. others n a (subst (λ answers. Contains answers a) (answers n (kept_in old n) refl (counted n)) g));
  };
  known = λ p m h. ⊎_elim (λ l. inl l) (λ r. inr (convert (kept_in old) e p m r)) (f.known p m h);
  counted = f.counted;
  held = f.held;
}
  where
    config : Config
    config = old.config

    same : (n : ℕ) (k : Kept) (patterns : List Glob) → kept_in old n ≡ Some k → IsOwn n k patterns → step config (resumed k) (alone e) ≡ step config (resumed k) e
    same n k patterns here own =
        alone_step config (resumed k) e
        ∙ sym (ridden_other config e.place n _ (rides_of e) ((step_by_next config e.place e.moment (resumed k) e.kind).number ∙ own.number) (λ rider h. away n rider h (ap is_some here)))

    after : (n : ℕ) (o : Option Kept) → kept_in old n ≡ o → IsCounted n o (patterns_in old n) → session_after config stands (alone e) n o ≡ session_after config stands e n o
    after n None here c = opened_alone config stands e n e.kind
    after n (Some k) here c = ap (λ (s : Session). if_live (kept s)) (same n k (patterns_in old n) here c)

    answers : (n : ℕ) (o : Option Kept) → kept_in old n ≡ o → IsCounted n o (patterns_in old n) → answers_by (λ s. step config s (alone e)) o ≡ answers_by (λ s. step config s e) o
    answers n None here c = refl
    answers n (Some k) here c = ap (λ (s : Session). map answered_of s.answers) (same n k (patterns_in old n) here c)

pub away : (sessions : ℕ → Option Kept) (e : Entry) → rider_in sessions e ≡ None → (n : ℕ) (rider : Rider) → rides_of e ≡ Some rider → is_some (sessions n) ≡ true → (rider.session == n) ≡ false
away sessions e none n rider rides here = grind arith

pub record Rides (sessions : ℕ → Option Kept) (e : Entry) (rider : Rider) : Type 0 where
  pub rides : rides_of e ≡ Some rider
  pub here : is_some (sessions rider.session) ≡ true

pub rides_here : (sessions : ℕ → Option Kept) (e : Entry) (rider : Rider) → Some rider ≡ rider_in sessions e → Rides sessions e rider
rides_here sessions e rider is = grind arith

pub ridden_held : (config : Config) (place number : ℕ) (events : List Event) (C D : ℕ → Option ConnectState) (S T : ℕ → Option Kept) → Agree C S
    → ((p : ℕ) → D p ≡ cond (nat_eq place p) (completed events (C place)) (C p)) → ((n : ℕ) → T n ≡ cond (nat_eq number n) (option_map (given_up config) (S number)) (S n)) → Agree D T
ridden_held config place number events C D S T agree at on =
    still C D S T agree (λ p n. grind (arith, at p, completes (C place) n)) (λ n p. grind (arith, on n, keeps (S number) p))
  where
    completes : (o : Option ConnectState) (n : ℕ) → held_until (completed events o) n ≡ held_until o n
    completes o n = grind arith

    keeps : (o : Option Kept) (p : ℕ) → holds_until (option_map (given_up config) o) p ≡ holds_until o p
    keeps o p = grind arith

-- ---- a rider

module _ (stands : Bool) (e : Entry) (rider : Rider) (rides : rides_of e ≡ Some rider) (old seated mid : Sessions) (here : is_some (kept_in old rider.session) ≡ true)
    (fresh : connect_at old.connects e.place ≡ None) (counted : AreCounted old) (held : AreHeld old)
    (seated_config : seated.config ≡ old.config) (seated_sessions : (n : ℕ) → kept_in seated n ≡ kept_in old n)
    (seated_connects : (p : ℕ) → connect_at seated.connects p ≡ cond (nat_eq e.place p) (Some (states.Filed rider.session e.place (unridden rider))) (connect_at old.connects p))
    (f : Followed stands (alone e) seated mid) where
  abbrev config : Config
  config = old.config

  abbrev effect : Kept → Session
  effect k = step_by config e.place e.moment (resumed k) e.kind

  mid_config : mid.config ≡ old.config
  mid_config = f.config ∙ seated_config

  effect_number : (n : ℕ) (k : Kept) (patterns : List Glob) → IsOwn n k patterns → (effect k).number ≡ n
  effect_number n k patterns own = (step_by_next config e.place e.moment (resumed k) e.kind).number ∙ own.number

  effect_live : (n : ℕ) (k : Kept) (patterns : List Glob) → IsOwn n k patterns → (effect k).stage ≡ Live
  effect_live n k patterns own = rider_stays e.kind e.rides rider rides config e.place e.moment (resumed k) ∙ own.live

  mid_kept : (n : ℕ) → kept_in mid n ≡ session_after config stands (alone e) n (kept_in old n)
  mid_kept n = rw (f.sessions n, seated_config, seated_sessions n)

  mid_there : (n : ℕ) (k : Kept) (patterns : List Glob) → kept_in old n ≡ Some k → IsOwn n k patterns → kept_in mid n ≡ Some (kept (effect k))
  mid_there n k patterns is own =
      mid_kept n ∙ ap (session_after config stands (alone e) n) is ∙ ap (λ (s : Session). if_live (kept s)) (alone_step config (resumed k) e) ∙ sym (live_there (effect k) (effect_live n k patterns own))

  mid_gone : (n : ℕ) → kept_in old n ≡ None → kept_in mid n ≡ None
  mid_gone n is =
      mid_kept n ∙ ap (session_after config stands (alone e) n) is
      ∙ ap (option_and_then (λ k. if_live (kept (step config (resumed k) (alone e))))) (rider_opens e.kind e.rides rider rides stands n)

  pub mid_fits : (room : ℕ) → IfSome (kept_in old rider.session) (λ (k : Kept). ride_most config k ≤ room) → IfSome (kept_in mid rider.session) (λ (k : Kept). ride_portion mid.config (resumed k) ≤ room)
  mid_fits room fits = by (kept_in old rider.session) refl (counted rider.session) fits
    where
      by : (o : Option Kept) → kept_in old rider.session ≡ o → IsCounted rider.session o (patterns_in old rider.session) → IfSome o (λ (k : Kept). ride_most config k ≤ room)
          → IfSome (kept_in mid rider.session) (λ (k : Kept). ride_portion mid.config (resumed k) ≤ room)
      by None is c g = rw (mid_gone rider.session is) tt
      by (Some k) is c g = rw (mid_there rider.session k (patterns_in old rider.session) is c, mid_config) (rider_fits e.kind e.rides rider rides config e.place e.moment k room g)

  -- ---- the answers of the rest of the entry

  given_seated : (n : ℕ) (k : Kept) (a : Answered) → kept_in old n ≡ Some k → Contains (map answered_of (effect k).answers) a → IsGiven seated.config (kept_in seated) (alone e) n a
  given_seated n k a is there = rw (seated_sessions n, is, seated_config, rider_of_none e.kind) there

  seated_given : (n : ℕ) (a : Answered) → IsGiven seated.config (kept_in seated) (alone e) n a → Contains (answers_by (λ s. step config s (alone e)) (kept_in old n)) a
  seated_given n a g = rw (seated_config, seated_sessions n) at g

  elsewhere : (n : ℕ) (k : Kept) (a : Answered) → kept_in old n ≡ Some k → Contains (map answered_of (effect k).answers) a → a.place ≢ e.place
  elsewhere n k a is there same =
      let holds : HoldsIt k.held a.place = rider_due config e.place e.moment k a e.kind e.rides rider rides there in
      let tied : held_until (connect_at old.connects e.place) n ≡ ends_for k.held e.place = held e.place n ∙ ap (λ (o : Option Kept). holds_until o e.place) is in
      let none : ends_for k.held e.place ≡ None = sym tied ∙ ap (λ (o : Option ConnectState). held_until o n) fresh in
      true≢false (sym (holds_ends k.held e.place (subst (HoldsIt k.held) same holds)) ∙ ap is_some none)

  mid_filed : connect_at mid.connects e.place ≡ Some (states.Filed rider.session e.place (unridden rider))
  mid_filed = rw (f.connects.kept e.place (λ n a g. by n a (kept_in old n) refl (seated_given n a g)), rider_begins e.kind e.rides rider rides (kept_in seated) (connect_at seated.connects) (alone e) e.place, seated_connects e.place, eq-eqb e.place e.place refl)
    where
      by : (n : ℕ) (a : Answered) (o : Option Kept) → kept_in old n ≡ o → Contains (answers_by (λ s. step config s (alone e)) (kept_in old n)) a → a.place ≢ e.place
      by n a None is g = absurd (nowhere a (rw is at g))
      by n a (Some k) is g = elsewhere n k a is (rw (is, rider_of_none e.kind) at g)

  -- ---- the entry with its rider

  ridden_step : (k : Kept) → step config (resumed k) e ≡ ridden_by config e.place (effect k) (Some rider)
  ridden_step k = ap (ridden_by config e.place (effect k)) rides

  module _ (new : Sessions) (new_sessions : (n : ℕ) → kept_in new n ≡ cond (nat_eq rider.session n) (option_map (given_up mid.config) (kept_in mid rider.session)) (kept_in mid n))
      (new_connects : (p : ℕ) → connect_at new.connects p ≡ cond (nat_eq e.place p) (completed_by mid.config (kept_in mid rider.session) (connect_at mid.connects e.place)) (connect_at mid.connects p))
      (new_config : new.config ≡ mid.config) (new_counted : AreCounted new) (new_held : AreHeld new) where
    followed_sessions : (n : ℕ) → kept_in new n ≡ session_after config stands e n (kept_in old n)
    followed_sessions n = rw (new_sessions n, mid_config, at_number rider.session n (option_map (given_up config)) (kept_in mid)) (by (kept_in old n) refl (counted n))
      where
        by : (o : Option Kept) → kept_in old n ≡ o → IsCounted n o (patterns_in old n) → cond (nat_eq rider.session n) (option_map (given_up config) (kept_in mid n)) (kept_in mid n) ≡ session_after config stands e n o
        by None is c = rw (mid_gone n is, none_here (nat_eq rider.session n), rider_opens e.kind e.rides rider rides stands n)
        by (Some k) is c =
            ap (λ o. cond (nat_eq rider.session n) (option_map (given_up config) o) o) (mid_there n k (patterns_in old n) is c)
            ∙ rode config e.place rider.reply (nat_eq rider.session n) (effect k) (effect_live n k (patterns_in old n) c)
            ∙ ap (λ (m : ℕ). if_live (kept (cond ((rider.session == m) && is_live (effect k).stage) (ridden config e.place rider.reply (effect k)) (effect k)))) (sym (effect_number n k (patterns_in old n) c))
            ∙ sym (ap (λ (s : Session). if_live (kept s)) (ridden_step k))

    own_answer : (n : ℕ) (k : Kept) (patterns : List Glob) → kept_in old n ≡ Some k → IsOwn n k patterns → is_riding rider (effect k) ≡ true →
        connect_at new.connects e.place ≡ Some (states.Filed n e.place (ride_answer config e.place rider (effect k)).answer)
    own_answer n k patterns is own riding =
        let number : rider.session ≡ n = eqb-true rider.session (effect k).number (and_parts (rider.session == (effect k).number) (is_live (effect k).stage) riding).0 ∙ effect_number n k patterns own in
        rw (new_connects e.place, eq-eqb e.place e.place refl, mid_filed, mid_config, number, mid_there n k patterns is own)

    followed_given : (n : ℕ) (a : Answered) → IsGiven config (kept_in old) e n a → connect_at new.connects a.place ≡ Some (states.Filed n e.place a.answer)
    followed_given n a g = by (kept_in old n) refl (counted n) g
      where
        own : (k : Kept) → kept_in old n ≡ Some k → Contains (map answered_of (effect k).answers) a → connect_at new.connects a.place ≡ Some (states.Filed n e.place a.answer)
        own k is there = rw (new_connects a.place, ne_eqb e.place a.place (λ h. elsewhere n k a is there (sym h))) (f.connects.given n a (given_seated n k a is there))

        by : (o : Option Kept) → kept_in old n ≡ o → IsCounted n o (patterns_in old n) → Contains (answers_by (λ s. step config s e) o) a → connect_at new.connects a.place ≡ Some (states.Filed n e.place a.answer)
        by None is c there = absurd (nowhere a there)
        by (Some k) is c there =
            ⊎_elim (λ earlier. own k is earlier) (λ last. rw last.1 (own_answer n k (patterns_in old n) is c last.0)) (given_cases config e.place rider (effect k) a (rw rides at there))

    answered : (p : ℕ) → ((n : ℕ) (a : Answered) → IsGiven config (kept_in old) e n a → a.place ≢ p) → nat_eq e.place p ≡ false
    answered p others = by (kept_in old rider.session) refl here (counted rider.session)
      where
        by : (o : Option Kept) → kept_in old rider.session ≡ o → is_some o ≡ true → IsCounted rider.session o (patterns_in old rider.session) → nat_eq e.place p ≡ false
        by None is h c = absurd (true≢false (sym h))
        by (Some k) is h c =
            let t : Session = effect k in
            let riding : is_riding rider t ≡ true = rw (effect_number rider.session k (patterns_in old rider.session) c, eq-eqb rider.session rider.session refl, effect_live rider.session k (patterns_in old rider.session) c) in
            let given : IsGiven config (kept_in old) e rider.session (ride_answer config e.place rider t) = rw (is, rides) (ride_given config e.place rider t riding) in
            ne_eqb e.place p (others rider.session (ride_answer config e.place rider t) given)

    followed_kept : (p : ℕ) → ((n : ℕ) (a : Answered) → IsGiven config (kept_in old) e n a → a.place ≢ p) → connect_at new.connects p ≡ begun (kept_in old) (connect_at old.connects) e e.kind p
    followed_kept p others =
        let other : nat_eq e.place p ≡ false = answered p others in
        rw (
          new_connects p,
          other,
          f.connects.kept p (λ n a g. others n a (on n a (kept_in old n) refl (seated_given n a g))),
          rider_begins e.kind e.rides rider rides (kept_in seated) (connect_at seated.connects) (alone e) p,
          seated_connects p,
          other,
          rider_begins e.kind e.rides rider rides (kept_in old) (connect_at old.connects) e p,
        )
      where
        on : (n : ℕ) (a : Answered) (o : Option Kept) → kept_in old n ≡ o → Contains (answers_by (λ s. step config s (alone e)) (kept_in old n)) a → IsGiven config (kept_in old) e n a
        on n a None is g = absurd (nowhere a (rw is at g))
        on n a (Some k) is g = rw (is, rides) (still_given config e.place rider (effect k) a (rw (is, rider_of_none e.kind) at g))

    completed_session : (o : Option Kept) (p : ℕ) → session_at (completed_by mid.config o (Some (states.Filed rider.session p (unridden rider)))) ≡ Some rider.session
    completed_session None p = refl
    completed_session (Some k) p = refl

    followed_known : (p m : ℕ) → session_at (connect_at new.connects p) ≡ Some m → (session_at (connect_at old.connects p) ≡ Some m) ⊎ Connects (kept_in old) e p m
    followed_known p m h = either (nat_eq e.place p) ((session_at (connect_at old.connects p) ≡ Some m) ⊎ Connects (kept_in old) e p m) own other
      where
        own : nat_eq e.place p ≡ true → (session_at (connect_at old.connects p) ≡ Some m) ⊎ Connects (kept_in old) e p m
        own g =
            let is : Some rider.session ≡ Some m = rw (new_connects p, g, mid_filed, completed_session (kept_in mid rider.session) e.place) at h in
            let same : rider.session ≡ m = cc in
            inr (record { place = eqb-true e.place p g; session = inr (ap riding rides ∙ is); here = subst (λ (n : ℕ). is_some (kept_in old n) ≡ true) same here })

        other : nat_eq e.place p ≡ false → (session_at (connect_at old.connects p) ≡ Some m) ⊎ Connects (kept_in old) e p m
        other g =
            let at_mid : session_at (connect_at mid.connects p) ≡ Some m = rw (new_connects p, g) at h in
            ⊎_elim (λ l. inl (rw (seated_connects p, g) at l))
            (λ r. let c : Connects (kept_in seated) e p m = convert (kept_in seated) e p m r in
            inr (record { place = c.place; session = c.session; here = rw (seated_sessions m) at c.here }))
            (f.known p m at_mid)

    pub followed_riding : Followed stands e old new
    followed_riding = record {
      config = new_config ∙ mid_config;
      sessions = followed_sessions;
      connects = record { given = followed_given; kept = followed_kept };
      known = followed_known;
      counted = new_counted;
      held = new_held;
    }
