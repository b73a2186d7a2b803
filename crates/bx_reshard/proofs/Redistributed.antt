-- The new shards, made of what the old ones have.
use Rattle.std.proofs.Common.{◌≡◌, ℕ, suc, ◌<◌, nat_eq, Bool, true, cond, Option, Some, None, List, [], ◌∷◌, length, get_or, map, slice_get, option_map, refl, sym, ap, ◌∙◌, subst, arith}
use Rattle.std.proofs.lemmas.{List.length-map, Option.slice_get-get_or, Option.slice_get-map, Option.slice_get_within}
use Rattle.std.specs.{Arc.arc_value, List.All, Option.option_or}
use Rattle.bx_names.specs.Globs.{Glob}
use Rattle.bx_advice.specs.declared.config.Config.{Config}
use Rattle.bx_entry.specs.Keeping.{Kept}
use Rattle.bx_connects.specs.Connects.{connect_at}
use Rattle.bx_shard.specs.declared.{sessions.Sessions.Sessions, shard.Shard.Shard}
use Rattle.bx_reshard.specs.Redistribution.{AreAlike, AreApart, Redistributed, IsRedistributed, connect_among, redistributed_connect, session_among}
use Rattle.bx_reshard.specs.Heirs.{AreLent, AreMoved, connect_there, patterns_among, patterns_there, kept_among, kept_there}
use Rattle.bx_reshard.specs.Making.{AreMade}
use Rattle.bx_shard.specs.Words.{state, Fits, IsCounted, has_formed_at_most, held_until, holds_until, patterns_in, kept_in, State, connect_in, session_in}
use Rattle.bx_reshard.proofs.Among.{Each, HaveOnce, IsApart, KnowOnce, connect_redistributed, counted_among, formed_among, held_among, held_redistributed, holds_redistributed, known_among, session_redistributed, unknown_among}

each_of_all : (Q : Sessions → Type 0) (ss : List Sessions) → All Q ss → Each Q ss
each_of_all Q [] all = tt
each_of_all Q (s ∷ ss) all = (all 0 s (omega arith), each_of_all Q ss (λ i d l. all (suc i) d (omega arith)))

counted_redistributed : (b : Bool) (n : ℕ) (o : Option Kept) (ps : List Glob) → IsCounted n o ps → IsCounted n (cond b o None) (cond b ps [])
counted_redistributed b n o ps h = grind arith

formed_redistributed : (b : Bool) (o : Option Kept) (place : ℕ) → has_formed_at_most place o ≡ true → has_formed_at_most place (cond b o None) ≡ true
formed_redistributed b o place h = grind arith

module _ {P : Type 0} (place_of : P → ℕ → ℕ → ℕ) where
  abbrev sessions_of : List (Shard P) → List Sessions
  sessions_of xs = map (λ s. s.sessions) xs

  abbrev states_of : List (Shard P) → List State
  states_of xs = map (state place_of) xs

  at_state : (xs : List (Shard P)) (j : ℕ) (s : Shard P) → slice_get xs j ≡ Some s → slice_get (states_of xs) j ≡ Some (state place_of s)
  at_state xs j s at = slice_get-map (state place_of) xs j ∙ ap (option_map (state place_of)) at

  sessions : (xs : List (Shard P)) (n : ℕ) → session_among (states_of xs) n ≡ kept_among (sessions_of xs) n
  sessions [] n = refl
  sessions (s ∷ xs) n = ap (option_or (kept_in s.sessions n)) (sessions xs n)

  connects : (xs : List (Shard P)) (p : ℕ) → connect_among (states_of xs) p ≡ known_among (sessions_of xs) p
  connects [] p = refl
  connects (s ∷ xs) p = ap (option_or (connect_at s.sessions.connects p)) (connects xs p)

  -- ---- apart

  apart_rest : (s : State) (ss : List State) → AreApart (s ∷ ss) → AreApart ss
  apart_rest s ss h = λ i j t u other a b. h (suc i) (suc j) t u (λ e. other (omega (arith, e))) a b

  no_session : (xs : List (Shard P)) (n : ℕ) → ((i : ℕ) (t : State) → slice_get (states_of xs) i ≡ Some t → session_in t n ≡ None) → kept_among (sessions_of xs) n ≡ None
  no_session [] n none = refl
  no_session (s ∷ xs) n none =
      ap (λ o. option_or o (kept_among (sessions_of xs) n)) (none 0 (state place_of s) refl)
      ∙ no_session xs n (λ i t at. none (suc i) t at)

  no_connect : (xs : List (Shard P)) (p : ℕ) → ((i : ℕ) (t : State) → slice_get (states_of xs) i ≡ Some t → connect_in t p ≡ None) → known_among (sessions_of xs) p ≡ None
  no_connect [] p none = refl
  no_connect (s ∷ xs) p none =
      ap (λ o. option_or o (known_among (sessions_of xs) p)) (none 0 (state place_of s) refl)
      ∙ no_connect xs p (λ i t at. none (suc i) t at)

  have_once : (xs : List (Shard P)) (n : ℕ) → AreApart (states_of xs) → HaveOnce n (sessions_of xs)
  have_once [] n apart = tt
  have_once (s ∷ xs) n apart = (
    λ here. no_session xs n (λ i t at. (apart 0 (suc i) (state place_of s) t (λ e. omega (arith, e)) refl at).0 n here),
    have_once xs n (apart_rest (state place_of s) (states_of xs) apart),
  )

  know_once : (xs : List (Shard P)) (p : ℕ) → AreApart (states_of xs) → KnowOnce p (sessions_of xs)
  know_once [] p apart = tt
  know_once (s ∷ xs) p apart = (
    λ here. no_connect xs p (λ i t at. (apart 0 (suc i) (state place_of s) t (λ e. omega (arith, e)) refl at).1 p here),
    know_once xs p (apart_rest (state place_of s) (states_of xs) apart),
  )

  each_at : (Q : Sessions → Type 0) (xs : List (Shard P)) → ((j : ℕ) (s : Shard P) → slice_get xs j ≡ Some s → Q s.sessions) → Each Q (sessions_of xs)
  each_at Q [] f = tt
  each_at Q (s ∷ xs) f = (f 0 s refl, each_at Q xs (λ j t at. f (suc j) t at))

  module _ (placing : P) (count : ℕ) (olds : List (Shard P)) (first : Shard P) (there : slice_get olds 0 ≡ Some first) (alike : AreAlike (states_of olds)) (apart : AreApart (states_of olds))
      (heirs last : List Sessions) (lent : AreLent (place_of placing) count (sessions_of olds) first.sessions.config heirs) (moved : AreMoved (place_of placing) count (sessions_of olds) heirs last) where
    -- ---- each new shard

    session_here : (k n : ℕ) (t : Sessions) → slice_get last k ≡ Some t → kept_in t n ≡ cond (nat_eq (place_of placing n count) k) (kept_among (sessions_of olds) n) None
    session_here k n t at =
        sym (ap (λ o. kept_there o n) at) ∙ moved.sessions k n
        ∙ session_redistributed (place_of placing) count k n (sessions_of olds) (kept_there (slice_get heirs k) n) (have_once olds n apart) (lent.sessions k n)

    patterns_here : (k n : ℕ) (t : Sessions) → slice_get last k ≡ Some t → patterns_in t n ≡ cond (nat_eq (place_of placing n count) k) (patterns_among (sessions_of olds) n) []
    patterns_here k n t at = sym (ap (λ o. patterns_there o n) at) ∙ moved.patterns k n ∙ lent.patterns k n

    connect_here : (k p : ℕ) (t : Sessions) → slice_get last k ≡ Some t → connect_at t.connects p ≡ redistributed_connect (place_of placing) count k (known_among (sessions_of olds) p)
    connect_here k p t at =
        sym (ap (λ o. connect_there o p) at) ∙ moved.connects k p
        ∙ connect_redistributed (place_of placing) count k p (sessions_of olds) (connect_there (slice_get heirs k) p) (each_of_all (IsApart p) (sessions_of olds) (λ i d l. lent.apart i d l p)) (know_once olds p apart) (lent.connects k p)

    many : length last ≡ count
    many = moved.many ∙ lent.many

    config_here : (k : ℕ) (t : Sessions) → slice_get last k ≡ Some t → t.config ≡ first.sessions.config
    config_here k t at =
        let within : k < length last = slice_get_within last k t at in
        let same : Some t.config ≡ Some first.sessions.config = sym (ap (option_map (λ (s : Sessions). s.config)) at) ∙ moved.configs k ∙ lent.configs k (omega (arith, within, many)) in
        cc

    as_first : (j : ℕ) (s : Shard P) → slice_get olds j ≡ Some s → (first.sessions.config ≡ s.sessions.config) × (first.place ≡ s.place)
    as_first j s at = alike 0 j (state place_of first) (state place_of s) (at_state olds 0 first there) (at_state olds j s at)

    fits : (k : ℕ) (t : Sessions) → slice_get last k ≡ Some t → Fits first.place t
    fits k t at = record {
      counted = λ n.
          subst (λ o. IsCounted n o (patterns_in t n)) (sym (session_here k n t at))
          (subst (IsCounted n (cond (nat_eq (place_of placing n count) k) (kept_among (sessions_of olds) n) None)) (sym (patterns_here k n t at))
          (counted_redistributed (nat_eq (place_of placing n count) k) n (kept_among (sessions_of olds) n) (patterns_among (sessions_of olds) n)
          (counted_among (sessions_of olds) n (each_at (λ s. IsCounted n (kept_in s n) (patterns_in s n)) olds (λ j s here. s.counted n)))));
      held = λ p n.
          ap (λ o. held_until o n) (connect_here k p t at)
          ∙ held_redistributed (place_of placing) count k n (known_among (sessions_of olds) p)
          ∙ ap (λ o. cond (nat_eq (place_of placing n count) k) o None)
          (held_among (sessions_of olds) n p (have_once olds n apart) (know_once olds p apart)
          (each_at (λ s. held_until (connect_at s.connects p) n ≡ holds_until (kept_in s n) p) olds (λ j s here. s.held p n)))
          ∙ sym (holds_redistributed (nat_eq (place_of placing n count) k) (kept_among (sessions_of olds) n) p)
          ∙ sym (ap (λ o. holds_until o p) (session_here k n t at));
      batches = λ n.
          ap (has_formed_at_most first.place) (session_here k n t at)
          ∙ formed_redistributed (nat_eq (place_of placing n count) k) (kept_among (sessions_of olds) n) first.place
          (formed_among (sessions_of olds) n first.place
          (each_at (λ s. has_formed_at_most first.place (kept_in s n) ≡ true) olds (λ j s here. ap (λ place. has_formed_at_most place (kept_in s.sessions n)) ((as_first j s here).1) ∙ s.batches n)));
      fresh = λ p later.
          connect_here k p t at
          ∙ ap (redistributed_connect (place_of placing) count k)
          (unknown_among (sessions_of olds) p (each_at (λ s. connect_at s.connects p ≡ None) olds (λ j s here. s.fresh p (omega (arith, later, (as_first j s here).1)))));
    }

    pub all_fit : All (Fits first.place) last
    all_fit = λ i d l. fits i (get_or last i d) (slice_get-get_or last i d l)

    -- ---- the new shards

    module _ (shut : Bool) (new : List (Shard P)) (shut_is : shut ≡ first.is_closed_to_wakers) (made : AreMade placing count first.place shut new) (theirs : sessions_of new ≡ last) where
      is_redistributed : (k : ℕ) (t : Shard P) → slice_get new k ≡ Some t → IsRedistributed (place_of placing) count (states_of olds) k (state place_of t)
      is_redistributed k t at =
          let m = made k t at in
          let here : slice_get last k ≡ Some t.sessions = ap (λ xs. slice_get xs k) (sym theirs) ∙ slice_get-map (λ s. s.sessions) new k ∙ ap (option_map (λ (s : Shard P). s.sessions)) at in
          record {
            index = m.index_is;
            setup = λ j s old.
                let like = alike 0 j (state place_of first) s (at_state olds 0 first there) old in
                ap (λ (c : Config). record { config = c; shards = t.shards; placing = place_of (arc_value t.placing) }) (config_here k t.sessions here ∙ like.0)
                ∙ ap (λ (c : ℕ). record { config = s.setup.config; shards = c; placing = place_of (arc_value t.placing) }) m.shards_is
                ∙ ap (λ (p : P). record { config = s.setup.config; shards = count; placing = place_of p }) m.placing_is;
            place = λ j s old. m.place_is ∙ (alike 0 j (state place_of first) s (at_state olds 0 first there) old).1;
            shut = λ s old.
                let same : Some (state place_of first) ≡ Some s = sym (at_state olds 0 first there) ∙ old in
                let one : state place_of first ≡ s = cc in
                m.shut_is ∙ shut_is ∙ ap (λ (x : State). x.shut) one;
            sessions = λ n.
                session_here k n t.sessions here
                ∙ ap (λ o. cond {A = Option Kept} (nat_eq (place_of placing n count) k) o None) (sym (sessions olds n));
            connects = λ p. connect_here k p t.sessions here ∙ ap (redistributed_connect (place_of placing) count k) (sym (connects olds p));
            sound = record {
              tied = record { patterns = t.counted; holds = t.held };
              fresh = t.fresh;
            };
          }

      pub all_redistributed : Redistributed (place_of placing) count (states_of olds) (states_of new)
      all_redistributed = record {
        many = length-map new (state place_of) ∙ sym (length-map new (λ (s : Shard P). s.sessions)) ∙ ap (λ (xs : List Sessions). length xs) theirs ∙ many;
        each = λ k s at. by k s (slice_get new k) refl (sym (slice_get-map (state place_of) new k) ∙ at);
      }
        where
          by : (k : ℕ) (s : State) (o : Option (Shard P)) → slice_get new k ≡ o → option_map (state place_of) o ≡ Some s → IsRedistributed (place_of placing) count (states_of olds) k s
          by k s None e h = absurd (let no : None ≡ Some s = h in cc)
          by k s (Some t) e h = let same : state place_of t ≡ s = cc in subst (IsRedistributed (place_of placing) count (states_of olds) k) same (is_redistributed k t e)
