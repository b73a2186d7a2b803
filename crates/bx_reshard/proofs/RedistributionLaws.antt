-- What shards hold after redistribution.
use Rattle.std.proofs.Common.{◌≡◌, ◌≢◌, ℕ, zero, suc, ◌<◌, true, false, cond, is_some, Option, Some, None, List, [], ◌∷◌, length, take, drop, map, filter, flat_map, option_map, slice_get, ◌==◌, refl, sym, ap, ◌∙◌, subst, arith, eqb-true, eq-eqb}
use Rattle.std.proofs.lemmas.{Bool.cond_both, Bool.cond-true, List.take-append-drop, List.Folds.find-append}
use Rattle.std.specs.Option.{option_or}
use Rattle.bx_history.proofs.{Elements.or_none, Tests.either}
use Rattle.bx_advice.specs.declared.config.Config.{Config}
use Rattle.bx_entry.specs.declared.entry.Entry.{Entry}
use Rattle.bx_entry.specs.Words.{Listed, answer_of, Kept, kept, Judged, PlaceSlot, Registered, Waiting, Ready, NoSlot, entries_of, registry, Filed, Session, session, unopened}
use Rattle.bx_connects.specs.declared.connects.ConnectState.{ConnectState}
use Rattle.bx_connects.specs.declared.connects.ConnectState.TheVariants as states
use Rattle.bx_connects.specs.Connects.{session_at}
use Rattle.bx_reshard.specs.Redistribution.{AreAlike, AreApart, HoldersAreApart, RefinesRedistributed, IsRedistributed, among, connect_among, redistributed_connect, session_among}
use Rattle.bx_shard.specs.Refining.{Refines, IsConnectOf, IsOwn, filed_with_place}
use Rattle.bx_shard.specs.Words.{Setup, is_taken, live_among, sessions_in, shard_at, is_placed_in, State, connect_in, session_in}
use Rattle.bx_shard.proofs.{Cases.by_option, Finding.find_kept, Taking.connect_of_filed, Taking.none_taken, Taking.waits_later}
use Rattle.bx_shard.proofs.Untaken.{find_of, find_untaken, untaken}
use Rattle.bx_theory.proofs.{Closings.run_number, Waits.WaitsAt, Waits.waits_over}
use Rattle.bx_reshard.proofs.Among.{nobody}

-- ---- look-ups in several shards

none_among : {X : Type 0} (f : State → Option X) (ss : List State) → ((i : ℕ) (t : State) → slice_get ss i ≡ Some t → f t ≡ None) → among f ss ≡ None
none_among f [] none = refl
none_among f (t ∷ ss) none = ap (λ o. option_or o (among f ss)) (none 0 t refl) ∙ none_among f ss (λ i u at. none (suc i) u at)

among_one : {X : Type 0} (f : State → Option X) (ss : List State) (j : ℕ) (s : State) → slice_get ss j ≡ Some s →
    ((i : ℕ) (t : State) → i ≢ j → slice_get ss i ≡ Some t → f t ≡ None) → among f ss ≡ f s
among_one f [] j s there others = absurd (let no : None ≡ Some s = there in cc)
among_one f (t ∷ ss) zero s there others =
    let same : t ≡ s = cc in
    ap (λ o. option_or (f t) o) (none_among f ss (λ i u at. others (suc i) u (λ e. omega (arith, e)) at)) ∙ or_none (f t) ∙ ap f same
among_one f (t ∷ ss) (suc j) s there others =
    ap (λ o. option_or o (among f ss)) (others 0 t (λ e. omega (arith, e)) refl)
    ∙ among_one f ss j s there (λ i u apart at. others (suc i) u (λ e. apart (omega (arith, e))) at)

record Has {X : Type 0} (f : State → Option X) (ss : List State) (x : X) : Type 0 where
  index : ℕ
  shard : State
  there : slice_get ss index ≡ Some shard
  has : f shard ≡ Some x

has_one : {X : Type 0} (f : State → Option X) (ss : List State) (x : X) → among f ss ≡ Some x → Has f ss x
has_one f [] x h = absurd (let no : None ≡ Some x = h in cc)
has_one {X = X} f (t ∷ ss) x h = by (f t) refl h (has_one f ss x)
  where
    by : (o : Option X) → f t ≡ o → option_or o (among f ss) ≡ Some x → (among f ss ≡ Some x → Has f ss x) → Has f (t ∷ ss) x
    by None e g rest = let w = rest g in record { index = suc w.index; shard = w.shard; there = w.there; has = w.has }
    by (Some y) e g rest = record { index = 0; shard = t; there = refl; has = e ∙ g }

record There (ss : List State) (j : ℕ) : Type 0 where
  shard : State
  at : slice_get ss j ≡ Some shard

there : (ss : List State) (j : ℕ) → j < length ss → There ss j
there [] j h = absurd (omega (arith, h))
there (s ∷ ss) zero h = record { shard = s; at = refl }
there (s ∷ ss) (suc j) h = let w = there ss j (omega (arith, h)) in record { shard = w.shard; at = w.at }

-- ---- the sessions of a shard by its definition

abbrev kept_of : ℕ → List Session → Option Kept
kept_of m us = find_kept m (map kept (live_among us))

found_standing : (setup : Setup) (shard m : ℕ) (es : List Entry) (rs : List Registered) →
    kept_of m (map (λ (s : Registered). session setup.config s.number es) (filter (λ (s : Registered). is_placed_in setup shard s.number) rs))
    ≡ cond (is_placed_in setup shard m) (kept_of m (map (λ (s : Registered). session setup.config s.number es) rs)) None
found_standing setup shard m es [] = nobody (is_placed_in setup shard m)
found_standing setup shard m es (r ∷ rs) = grind (arith, found_standing setup shard m es rs, run_number setup.config (unopened r.number) es)

abbrev everyone : Config → List Listed → ℕ → List Session
everyone config list n =
    let r = registry config (take n list) in
    map (λ (s : Registered). session config s.number (entries_of r)) r.sessions

session_found : (setup : Setup) (list : List Listed) (taken : List ℕ) (shard n m : ℕ) →
    find_kept m (shard_at setup list taken shard n).sessions ≡ cond (is_placed_in setup shard m) (kept_of m (everyone setup.config list n)) None
session_found setup list taken shard n m = found_standing setup shard m (entries_of (registry setup.config (take n list))) (registry setup.config (take n list)).sessions

-- ---- the answers of a shard by its definition

abbrev answers_of : List Session → List Filed
answers_of us = flat_map (λ (u : Session). u.answers) us

abbrev OnlyOf : Config → List Entry → ℕ → ℕ → Type 0
OnlyOf config es p m = (q : ℕ) → is_some (find_of p (session config q es).answers) ≡ true → q ≡ m

answers_standing : (setup : Setup) (shard p m : ℕ) (es : List Entry) (rs : List Registered) → OnlyOf setup.config es p m →
    find_of p (answers_of (map (λ (s : Registered). session setup.config s.number es) (filter (λ (s : Registered). is_placed_in setup shard s.number) rs)))
    ≡ cond (is_placed_in setup shard m) (find_of p (answers_of (map (λ (s : Registered). session setup.config s.number es) rs))) None
answers_standing setup shard p m es [] only = nobody (is_placed_in setup shard m)
answers_standing setup shard p m es (r ∷ rs) only =
    let S : Registered → Session = λ s. session setup.config s.number es in
    let here : List Registered = filter (λ (s : Registered). is_placed_in setup shard s.number) rs in
    let each = find-append (λ (f : Filed). f.connect == p) (S r).answers (answers_of (map S rs)) in
    let standing = find-append (λ (f : Filed). f.connect == p) (S r).answers (answers_of (map S here)) in
    grind (arith, answers_standing setup shard p m es rs only, only r.number, each, standing)

slot_once : (js : List Judged) (p q m : ℕ) → WaitsAt js q p → WaitsAt js m p → q ≡ m
slot_once js p q m a b = let both : Some (Waiting q) ≡ Some (Waiting m) = sym a ∙ b in cc

only_waits : (config : Config) (list : List Listed) (n p m : ℕ) → WaitsAt (registry config list).judged m p → OnlyOf config (entries_of (registry config (take n list))) p m
only_waits config list n p m waits q here =
    by_option (λ o. is_some o ≡ true → q ≡ m) (find_of p (session config q (entries_of (registry config (take n list)))).answers) (λ e h. absurd (let no : false ≡ true = h in cc)) (λ f e h.
    let early : WaitsAt (registry config (take n list)).judged q p = waits_over config q p (take n list) f e in
    let late : WaitsAt (registry config list).judged q p =
    subst (λ (xs : List Listed). WaitsAt (registry config xs).judged q p) (take-append-drop n list) (waits_later config (take n list) (drop n list) q p early) in
    slot_once (registry config list).judged p q m late waits) here

untaken_standing : (setup : Setup) (list : List Listed) (taken : List ℕ) (n p m : ℕ) → OnlyOf setup.config (entries_of (registry setup.config (take n list))) p m → (shard : ℕ) →
    find_of p (shard_at setup list taken shard n).filed ≡ cond (is_placed_in setup shard m) (find_of p (untaken taken (answers_of (everyone setup.config list n)))) None
untaken_standing setup list taken n p m only shard =
    let theirs : List Filed = answers_of (sessions_in setup list shard n) in
    let all : List Filed = answers_of (everyone setup.config list n) in
    either (is_taken taken p) (find_of p (untaken taken theirs) ≡ cond (is_placed_in setup shard m) (find_of p (untaken taken all)) None)
    (λ t. none_taken taken p theirs t
    ∙ sym (ap (λ o. cond (is_placed_in setup shard m) o None) (none_taken taken p all t) ∙ cond_both (is_placed_in setup shard m) None None (λ (o : Option Filed). o ≡ None) (λ h. refl) (λ h. refl)))
    (λ u. find_untaken taken p theirs u
    ∙ answers_standing setup shard p m (entries_of (registry setup.config (take n list))) (registry setup.config (take n list)).sessions only
    ∙ sym (ap (λ o. cond (is_placed_in setup shard m) o None) (find_untaken taken p all u)))

-- ---- the shards before redistribution

standing : (placed k : ℕ) (o kept : Option Kept) → o ≡ cond (placed == k) kept None → is_some o ≡ true → placed ≡ k
standing placed k o kept is here = grind arith

module _ (setup : Setup) (list : List Listed) (taken : List ℕ) (n : ℕ) (old : List State) (each : (k : ℕ) (s : State) → slice_get old k ≡ Some s → Refines setup list taken k n s) where
  stands : (k : ℕ) (s : State) (m : ℕ) → slice_get old k ≡ Some s → is_some (session_in s m) ≡ true → setup.placing m setup.shards ≡ k
  stands k s m at here =
      let found : session_in s m ≡ cond (is_placed_in setup k m) (kept_of m (everyone setup.config list n)) None = (each k s at).sessions m ∙ session_found setup list taken k n m in
      standing (setup.placing m setup.shards) k (session_in s m) (kept_of m (everyone setup.config list n)) found here

  knows : (k : ℕ) (s : State) (p : ℕ) → slice_get old k ≡ Some s → is_some (connect_in s p) ≡ true → (m : ℕ) × IsOwn setup list k p m
  knows k s p at here = by (connect_in s p) refl here
    where
      by : (o : Option ConnectState) → connect_in s p ≡ o → is_some o ≡ true → (m : ℕ) × IsOwn setup list k p m
      by None e h = absurd (let no : false ≡ true = h in cc)
      by (Some (states.Held session deadline waker)) e h = (session, (each k s at).owned p session (ap session_at e))
      by (Some (states.Filed session place answer)) e h = (session, (each k s at).owned p session (ap session_at e))

  known_once : (k : ℕ) (s : State) (p m : ℕ) → slice_get old k ≡ Some s → WaitsAt (registry setup.config list).judged m p → is_some (connect_in s p) ≡ true → setup.placing m setup.shards ≡ k
  known_once k s p m at waits here =
      let w = knows k s p at here in
      let same : w.0 ≡ m = slot_once (registry setup.config list).judged p w.0 m w.1.waits waits in
      ap (λ (q : ℕ). setup.placing q setup.shards) (sym same) ∙ eqb-true (setup.placing w.0 setup.shards) k w.1.stands

  none_of : {X : Type 0} (o : Option X) → (is_some o ≡ true → ⊥) → o ≡ None
  none_of o h = grind arith

  alike : AreAlike old
  alike i j s t a b = (
    ap (λ (x : Setup). x.config) ((each i s a).setup_is ∙ sym ((each j t b).setup_is)),
    (each i s a).place_is ∙ sym ((each j t b).place_is),
  )

  apart : AreApart old
  apart i j s t other a b = (
    λ m here. none_of (session_in t m) (λ h. other (sym (stands i s m a here) ∙ stands j t m b h)),
    λ p here. none_of (connect_in t p) (λ h. let w = knows i s p a here in
        other (sym (eqb-true (setup.placing w.0 setup.shards) i w.1.stands) ∙ known_once j t p w.0 b w.1.waits h)),
  )

pub shards_are_disjoint : HoldersAreApart
shards_are_disjoint setup list taken n shards each = (alike setup list taken n shards each, apart setup list taken n shards each)

-- ---- the shards after redistribution

redistributed_session : (placing : ℕ → ℕ → ℕ) (count k : ℕ) (o : Option ConnectState) (m : ℕ) → session_at (redistributed_connect placing count k o) ≡ Some m → (session_at o ≡ Some m) × ((placing m count == k) ≡ true)
redistributed_session placing count k o m h = grind arith

redistributed_filed : (placing : ℕ → ℕ → ℕ) (count k m : ℕ) (o : Option ConnectState) → ((q : ℕ) → session_at o ≡ Some q → q ≡ m) →
    filed_with_place (redistributed_connect placing count k o) ≡ cond (placing m count == k) (filed_with_place o) None
redistributed_filed placing count k m None own = nobody (placing m count == k)
redistributed_filed placing count k m (Some (states.Held session deadline waker)) own =
    cond_both (placing session count == k) (Some (states.Held session deadline None)) None (λ (o : Option ConnectState). filed_with_place o ≡ None) (λ h. refl) (λ h. refl) ∙ nobody (placing m count == k)
redistributed_filed placing count k m (Some (states.Filed session place answer)) own =
    ap (λ (q : ℕ). filed_with_place (cond (placing q count == k) (Some (states.Filed session place answer)) None)) (own session refl)
    ∙ (elim (placing m count == k) as (λ b. filed_with_place (cond b (Some (states.Filed session place answer)) None) ≡ cond b (filed_with_place (Some (states.Filed session place answer))) None) [ true ↦ refl | false ↦ refl ])

abbrev redistributed_setup : Setup → ℕ → (ℕ → ℕ → ℕ) → Setup
redistributed_setup setup count placing = record { config = setup.config; shards = count; placing = placing }

module _ (setup : Setup) (list : List Listed) (taken : List ℕ) (n count : ℕ) (placing : ℕ → ℕ → ℕ) (old : List State) (many : length old ≡ setup.shards) (below : (m : ℕ) → setup.placing m setup.shards < setup.shards)
    (each : (k : ℕ) (s : State) → slice_get old k ≡ Some s → Refines setup list taken k n s) (k : ℕ) (t : State) (d : IsRedistributed placing count old k t) where
  home : (m : ℕ) → There old (setup.placing m setup.shards)
  home m = there old (setup.placing m setup.shards) (omega (arith, below m, many))

  at_home : (p m : ℕ) → WaitsAt (registry setup.config list).judged m p → connect_among old p ≡ connect_in (home m).shard p
  at_home p m waits = among_one (λ s. connect_in s p) old (setup.placing m setup.shards) (home m).shard (home m).at
      (λ i s other at. none_of setup list taken n old each (connect_in s p) (λ h. other (sym (known_once setup list taken n old each i s p m at waits h))))

  sessions_redistributed : (m : ℕ) → session_in t m ≡ find_kept m (shard_at (redistributed_setup setup count placing) list taken k n).sessions
  sessions_redistributed m =
      let j : ℕ = setup.placing m setup.shards in
      let g : Option Kept = kept_of m (everyone setup.config list n) in
      let own : session_in (home m).shard m ≡ g =
      (each (setup.placing m setup.shards) (home m).shard (home m).at).sessions m
      ∙ session_found setup list taken (setup.placing m setup.shards) n m ∙ cond-true (is_placed_in setup (setup.placing m setup.shards) m) g None (eq-eqb j j refl) in
      let whole : session_among old m ≡ session_in (home m).shard m = among_one (λ s. session_in s m) old (setup.placing m setup.shards) (home m).shard (home m).at
      (λ i s other at. none_of setup list taken n old each (session_in s m) (λ h. other (sym (stands setup list taken n old each i s m at h)))) in
      d.sessions m
      ∙ ap (λ o. cond (placing m count == k) o None) (whole ∙ own)
      ∙ sym (session_found (redistributed_setup setup count placing) list taken k n m)

  -- ---- answers

  filed_waiting : (p m : ℕ) → WaitsAt (registry setup.config list).judged m p → filed_with_place (connect_in t p) ≡ option_map answer_of (find_of p (shard_at (redistributed_setup setup count placing) list taken k n).filed)
  filed_waiting p m waits =
      let j : ℕ = setup.placing m setup.shards in
      let es : List Entry = entries_of (registry setup.config (take n list)) in
      let rs : List Registered = (registry setup.config (take n list)).sessions in
      let s : State = (home m).shard in
      let g : Option Filed = find_of p (untaken taken (answers_of (everyone setup.config list n))) in
      let only : OnlyOf setup.config (entries_of (registry setup.config (take n list))) p m = only_waits setup.config list n p m waits in
      let own : filed_with_place (connect_in s p) ≡ option_map answer_of g =
      (each (setup.placing m setup.shards) (home m).shard (home m).at).filed p
      ∙ ap (option_map answer_of) (untaken_standing setup list taken n p m only (setup.placing m setup.shards) ∙ cond-true (is_placed_in setup (setup.placing m setup.shards) m) g None (eq-eqb j j refl)) in
      ap filed_with_place (d.connects p ∙ ap (redistributed_connect placing count k) (at_home p m waits))
      ∙ redistributed_filed placing count k m (connect_in s p) (λ q h. slot_once (registry setup.config list).judged p q m ((each (setup.placing m setup.shards) (home m).shard (home m).at).owned p q h).waits waits)
      ∙ ap (λ o. cond (placing m count == k) o None) own
      ∙ (elim (placing m count == k) as (λ b. cond b (option_map answer_of g) None ≡ option_map answer_of (cond b g None)) [ true ↦ refl | false ↦ refl ])
      ∙ ap (option_map answer_of) (sym (untaken_standing (redistributed_setup setup count placing) list taken n p m only k))

  filed_nowhere : (p : ℕ) → ((m : ℕ) → WaitsAt (registry setup.config list).judged m p → ⊥) → filed_with_place (connect_in t p) ≡ option_map answer_of (find_of p (shard_at (redistributed_setup setup count placing) list taken k n).filed)
  filed_nowhere p never =
      let here : connect_among old p ≡ None = none_among (λ s. connect_in s p) old (λ i s at. none_of setup list taken n old each (connect_in s p) (λ h. let w = knows setup list taken n old each i s p at h in never w.0 w.1.waits)) in
      let gone : find_of p (shard_at (redistributed_setup setup count placing) list taken k n).filed ≡ None = by (find_of p (shard_at (redistributed_setup setup count placing) list taken k n).filed) refl in
      ap filed_with_place (d.connects p ∙ ap (redistributed_connect placing count k) here) ∙ ap (option_map answer_of) (sym gone)
    where
      by : (o : Option Filed) → find_of p (shard_at (redistributed_setup setup count placing) list taken k n).filed ≡ o → o ≡ None
      by None e = refl
      by (Some f) e = let c = connect_of_filed (redistributed_setup setup count placing) list taken k n p f e in absurd (never c.session c.waits)

  filed_redistributed : (p : ℕ) → filed_with_place (connect_in t p) ≡ option_map answer_of (find_of p (shard_at (redistributed_setup setup count placing) list taken k n).filed)
  filed_redistributed p = by (option_map (λ (j : Judged). j.slot) (slice_get (registry setup.config list).judged p)) refl
    where
      by : (o : Option PlaceSlot) → option_map (λ (j : Judged). j.slot) (slice_get (registry setup.config list).judged p) ≡ o
          → filed_with_place (connect_in t p) ≡ option_map answer_of (find_of p (shard_at (redistributed_setup setup count placing) list taken k n).filed)
      by None e = filed_nowhere p (λ m w. let no : None ≡ Some (Waiting m) = sym e ∙ w in cc)
      by (Some (Ready reply)) e = filed_nowhere p (λ m w. let no : Some (Ready reply) ≡ Some (Waiting m) = sym e ∙ w in cc)
      by (Some (Waiting m)) e = filed_waiting p m e
      by (Some NoSlot) e = filed_nowhere p (λ m w. let no : Some NoSlot ≡ Some (Waiting m) = sym e ∙ w in cc)

  -- ---- known connects

  gone_redistributed : (p : ℕ) → is_taken taken p ≡ true → IsConnectOf (redistributed_setup setup count placing) list k p → (p < n) × (connect_in t p ≡ None)
  gone_redistributed p gone c =
      let j : ℕ = setup.placing c.session setup.shards in
      let g = (each (setup.placing c.session setup.shards) (home c.session).shard (home c.session).at).gone p gone (record { session = c.session; waits = c.waits; stands = eq-eqb j j refl }) in
      (g.0, d.connects p ∙ ap (redistributed_connect placing count k) (at_home p c.session c.waits ∙ g.1))

  owned_redistributed : (p m : ℕ) → session_at (connect_in t p) ≡ Some m → IsOwn (redistributed_setup setup count placing) list k p m
  owned_redistributed p m h =
      let w = redistributed_session placing count k (connect_among old p) m (sym (ap session_at (d.connects p)) ∙ h) in
      by (connect_among old p) refl w.0 w.1
    where
      by : (o : Option ConnectState) → connect_among old p ≡ o → session_at o ≡ Some m → (placing m count == k) ≡ true → IsOwn (redistributed_setup setup count placing) list k p m
      by None e k placed = absurd (let no : None ≡ Some m = k in cc)
      by (Some state) e known placed =
          let h = has_one (λ s. connect_in s p) old state e in
          record { waits = ((each h.index h.shard h.there).owned p m (ap session_at h.has ∙ known)).waits; stands = placed }

  holds_one : Refines (redistributed_setup setup count placing) list taken k n t
  holds_one =
      let s0 = home 0 in
      let h = each (setup.placing 0 setup.shards) (home 0).shard (home 0).at in
      record {
        setup_is = d.setup (setup.placing 0 setup.shards) (home 0).shard (home 0).at ∙ ap (λ (x : Setup). record { config = x.config; shards = count; placing = placing }) h.setup_is;
        index_is = d.index;
        place_is = d.place (setup.placing 0 setup.shards) (home 0).shard (home 0).at ∙ h.place_is;
        within = h.within;
        sound = d.sound;
        sessions = sessions_redistributed;
        filed = filed_redistributed;
        known = h.known;
        gone = gone_redistributed;
        owned = owned_redistributed;
      }

pub refines_redistributed : RefinesRedistributed
refines_redistributed setup list taken n count placing old new room many below each redistributed k s at = holds_one setup list taken n count placing old many below each k s (redistributed.each k s at)
