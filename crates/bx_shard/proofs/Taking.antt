-- What shards hold after an answer is taken from one of them.
use Rattle.std.proofs.Common.{◌≢◌, ◌≡◌, ℕ, ◌<◌, Bool, true, false, ◌||◌, is_some, Option, Some, None, List, [], ◌∷◌, ◌++◌, length, take, drop, filter, flat_map, option_map, slice_get, nat_eq, nat_lt, ◌==◌, not, refl, sym, ap, ◌∙◌, subst, arith, eqb-true, ltb-true, ltb-false}
use Rattle.std.proofs.lemmas.{Bool.both_ways, Bool.cond-true, Bool.cond-false, Bool.or_right, List.take-append-drop, List.Folds.list_any-append}
use Rattle.std.specs.Option.{IsSome}
use Rattle.bx_history.proofs.Tests.{either}
use Rattle.bx_advice.specs.declared.config.Config.{Config}
use Rattle.bx_entry.specs.Words.{Listed, answer_of, Judged, PlaceSlot, Waiting, registry, Filed, Session}
use Rattle.bx_theory.proofs.{Lists.judged_more, Waits.WaitsAt, Waits.waits_over}
use Rattle.bx_connects.specs.declared.connects.ConnectState.{ConnectState}
use Rattle.bx_connects.specs.Connects.{filed_answer, session_at, taken_from}
use Rattle.bx_shard.specs.Words.{Setup, is_taken, sessions_in, shard_at, IsSound, State, connect_in, session_in}
use Rattle.bx_shard.specs.Refining.{Refines, RefinesBeside, RefinesTaken, IsConnectOf, IsOwn, filed_with_place}
use Rattle.bx_shard.proofs.Cases.{by_option}
use Rattle.bx_shard.proofs.Untaken.{find_of, find_untaken, found_in, found_kept, untaken}

-- ---- taken answers

pub taken_own : (taken : List ℕ) (place : ℕ) → is_taken (taken ++ place ∷ []) place ≡ true
taken_own taken place = list_any-append (λ (t : ℕ). t == place) taken (place ∷ []) ∙ or_right (is_taken taken place) (is_taken (place ∷ []) place) (grind arith)

taken_too : (taken places : List ℕ) (p : ℕ) → is_taken places p ≡ true → is_taken (taken ++ places) p ≡ true
taken_too taken places p h = list_any-append (λ (t : ℕ). t == p) taken places ∙ or_right (is_taken taken p) (is_taken places p) h

or_false : (a b : Bool) → b ≡ false → (a || b) ≡ a
or_false a b h = grind arith

taken_before : (taken places : List ℕ) (p : ℕ) → is_taken places p ≡ false → is_taken (taken ++ places) p ≡ is_taken taken p
taken_before taken places p h = list_any-append (λ (t : ℕ). t == p) taken places ∙ or_false (is_taken taken p) (is_taken places p) h

is_one : (place p : ℕ) (b : Bool) → is_taken (place ∷ []) p ≡ b → nat_eq place p ≡ b
is_one place p b h = grind arith

-- ---- look-ups among the answers that were not taken

pub none_taken : (taken : List ℕ) (p : ℕ) (fs : List Filed) → is_taken taken p ≡ true → find_of p (filter (λ (f : Filed). not (is_taken taken f.connect)) fs) ≡ None
none_taken taken p fs h =
    by_option (λ o. o ≡ None) (find_of p (untaken taken fs)) (λ e. refl) (λ f e. absurd (both_ways (is_taken taken p) (found_kept taken p fs f e).1 h))

same_found : (taken places : List ℕ) (p : ℕ) (fs : List Filed) → is_taken places p ≡ false → find_of p (untaken (taken ++ places) fs) ≡ find_of p (untaken taken fs)
same_found taken places p fs h =
    let more : List ℕ = taken ++ places in
    let same : is_taken (taken ++ places) p ≡ is_taken taken p = taken_before taken places p h in
    either (is_taken taken p) (find_of p (untaken more fs) ≡ find_of p (untaken taken fs))
    (λ t. none_taken more p fs (same ∙ t) ∙ sym (none_taken taken p fs t))
    (λ u. find_untaken more p fs (same ∙ u) ∙ sym (find_untaken taken p fs u))

-- ---- a connect with a filed answer

pub filed_below : (s : State) (place : ℕ) → IsSound s → IsSome (filed_answer (connect_in s place)) → place < s.place
filed_below s place sound some = either (nat_lt place s.place) (place < s.place) (λ l. ltb-true place s.place l)
    (λ l. let none : connect_in s place ≡ None = sound.fresh place (ltb-false place s.place l) in
    let nothing : false ≡ true = sym (ap (λ (o : Option ConnectState). is_some (filed_answer o)) none) ∙ some in cc)

pub gone_from : (o : Option ConnectState) → IsSome (filed_answer o) → taken_from o ≡ None
gone_from o h = grind arith

none_filed : (o : Option ConnectState) → IsSome (filed_answer o) → filed_with_place o ≡ None → ⊥
none_filed o h e = grind arith

-- ---- the session of a connect

abbrev slot_of : Judged → PlaceSlot
slot_of j = j.slot

pub waits_later : (config : Config) (xs ys : List Listed) (number p : ℕ) → WaitsAt (registry config xs).judged number p → WaitsAt (registry config (xs ++ ys)).judged number p
waits_later config xs ys number p w =
    by_option (λ o. option_map slot_of o ≡ Some (Waiting number) → WaitsAt (registry config (xs ++ ys)).judged number p) (slice_get (registry config xs).judged p)
    (λ a b. cc) (λ j a b. ap (option_map slot_of) (judged_more config xs ys p j a) ∙ b) w

pub connect_of_filed : (setup : Setup) (list : List Listed) (taken : List ℕ) (shard n p : ℕ) (f : Filed) → find_of p (shard_at setup list taken shard n).filed ≡ Some f → IsConnectOf setup list shard p
connect_of_filed setup list taken shard n p f e =
    let d = found_in setup list taken shard n p f e in
    record {
      session = d.one.number;
      waits = subst (λ (xs : List Listed). WaitsAt (registry setup.config xs).judged d.one.number p) (take-append-drop n list)
          (waits_later setup.config (take n list) (drop n list) d.one.number p (waits_over setup.config d.one.number p (take n list) f d.found));
      stands = d.holds;
    }

pub one_shard : (setup : Setup) (list : List Listed) (a b p : ℕ) → IsConnectOf setup list a p → IsConnectOf setup list b p → a ≡ b
one_shard setup list a b p c d =
    let both : Some (Waiting c.session) ≡ Some (Waiting d.session) = sym c.waits ∙ d.waits in
    let same : c.session ≡ d.session = cc in
    sym (eqb-true (setup.placing c.session setup.shards) a c.stands) ∙ ap (λ (m : ℕ). setup.placing m setup.shards) same ∙ eqb-true (setup.placing d.session setup.shards) b d.stands

pub connect_of_known : (setup : Setup) (list : List Listed) (taken : List ℕ) (shard n p : ℕ) (s : State) → Refines setup list taken shard n s → IsSome (filed_answer (connect_in s p)) → IsConnectOf setup list shard p
connect_of_known setup list taken shard n p s h some =
    by_option (λ o. filed_with_place (connect_in s p) ≡ option_map answer_of o → IsConnectOf setup list shard p) (find_of p (shard_at setup list taken shard n).filed)
    (λ a b. absurd (none_filed (connect_in s p) some b)) (λ f a b. connect_of_filed setup list taken shard n p f a) (h.filed p)

-- ---- the shard from which answers were taken

pub record AreGone (places : List ℕ) (old new : State) : Type 0 where
  pub setup_is : new.setup ≡ old.setup
  pub index_is : new.index ≡ old.index
  pub place_is : new.place ≡ old.place
  pub sessions : (n : ℕ) → session_in new n ≡ session_in old n
  pub filed : (p : ℕ) → is_taken places p ≡ true → IsSome (filed_answer (connect_in old p))
  pub here : (p : ℕ) → is_taken places p ≡ true → connect_in new p ≡ None
  pub there : (p : ℕ) → is_taken places p ≡ false → connect_in new p ≡ connect_in old p

pub refines_gone : (setup : Setup) (list : List Listed) (taken places : List ℕ) (shard n : ℕ) (old new : State) → Refines setup list taken shard n old → AreGone places old new → IsSound new →
    Refines setup list (taken ++ places) shard n new
refines_gone setup list taken places shard n old new h gone sound =
    let more : List ℕ = taken ++ places in
    let fs : List Filed = flat_map (λ (s : Session). s.answers) (sessions_in setup list shard n) in
    let below : (p : ℕ) → is_taken places p ≡ true → p < n = λ p e. let l : p < old.place = filed_below old p h.sound (gone.filed p e) in omega (arith, l, h.place_is) in
    record {
      setup_is = gone.setup_is ∙ h.setup_is;
      index_is = gone.index_is ∙ h.index_is;
      place_is = gone.place_is ∙ h.place_is;
      within = h.within;
      sound = sound;
      sessions = λ m. gone.sessions m ∙ h.sessions m;
      filed = λ p. either (is_taken places p) (filed_with_place (connect_in new p) ≡ option_map answer_of (find_of p (untaken more fs)))
          (λ e. ap filed_with_place (gone.here p e) ∙ sym (ap (option_map answer_of) (none_taken more p fs (taken_too taken places p e))))
          (λ e. ap filed_with_place (gone.there p e) ∙ h.filed p ∙ sym (ap (option_map answer_of) (same_found taken places p fs e)));
      known = λ p t. either (is_taken places p) (p < length list) (λ e. omega (arith, below p e, h.within)) (λ e. h.known p (sym (taken_before taken places p e) ∙ t));
      gone = λ p t c. either (is_taken places p) ((p < n) × (connect_in new p ≡ None))
          (λ e. (below p e, gone.here p e))
          (λ e. let g = h.gone p (sym (taken_before taken places p e) ∙ t) c in (g.0, gone.there p e ∙ g.1));
      owned = λ p m k. either (is_taken places p) (IsOwn setup list shard p m)
          (λ e. absurd (let no : None ≡ Some m = sym (ap session_at (gone.here p e)) ∙ k in cc))
          (λ e. h.owned p m (sym (ap session_at (gone.there p e)) ∙ k));
    }

-- ---- the other shards

pub refines_beside_gone : (setup : Setup) (list : List Listed) (taken places : List ℕ) (shard n : ℕ) (s : State) (other m : ℕ) (beside : State) → Refines setup list taken shard n s →
    ((p : ℕ) → is_taken places p ≡ true → IsSome (filed_answer (connect_in s p))) → other ≢ shard → Refines setup list taken other m beside → Refines setup list (taken ++ places) other m beside
refines_beside_gone setup list taken places shard n s other m beside h some apart g =
    let more : List ℕ = taken ++ places in
    let fs : List Filed = flat_map (λ (t : Session). t.answers) (sessions_in setup list other m) in
    let below : (p : ℕ) → is_taken places p ≡ true → p < length list =
    λ p e. let l : p < s.place = filed_below s p h.sound (some p e) in omega (arith, l, h.place_is, h.within) in
    let foreign : (p : ℕ) → is_taken places p ≡ true → IsConnectOf setup list other p → ⊥ =
    λ p e c. apart (one_shard setup list other shard p c (connect_of_known setup list taken shard n p s h (some p e))) in
    let none : (p : ℕ) → is_taken places p ≡ true → find_of p (shard_at setup list taken other m).filed ≡ None =
    λ p e. by_option (λ o. o ≡ None) (find_of p (shard_at setup list taken other m).filed) (λ k. refl) (λ f k. absurd (foreign p e (connect_of_filed setup list taken other m p f k))) in
    record {
      setup_is = g.setup_is;
      index_is = g.index_is;
      place_is = g.place_is;
      within = g.within;
      sound = g.sound;
      sessions = g.sessions;
      filed = λ p. either (is_taken places p) (filed_with_place (connect_in beside p) ≡ option_map answer_of (find_of p (untaken more fs)))
          (λ e. g.filed p ∙ ap (option_map answer_of) (none p e ∙ sym (none_taken more p fs (taken_too taken places p e))))
          (λ e. g.filed p ∙ sym (ap (option_map answer_of) (same_found taken places p fs e)));
      known = λ p t. either (is_taken places p) (p < length list) (λ e. below p e) (λ e. g.known p (sym (taken_before taken places p e) ∙ t));
      gone = λ p t c. either (is_taken places p) ((p < m) × (connect_in beside p ≡ None)) (λ e. absurd (foreign p e c)) (λ e. g.gone p (sym (taken_before taken places p e) ∙ t) c);
      owned = g.owned;
    }

-- ---- one taken answer

filed_one : (place : ℕ) (s : State) → IsSome (filed_answer (connect_in s place)) → (p : ℕ) → is_taken (place ∷ []) p ≡ true → IsSome (filed_answer (connect_in s p))
filed_one place s some p e = subst (λ (q : ℕ). IsSome (filed_answer (connect_in s q))) (eqb-true place p (is_one place p true e)) some

pub refines_taken : RefinesTaken
refines_taken setup list taken shard n place old new room h some took sound =
    refines_gone setup list taken (place ∷ []) shard n old new h
    (record {
      setup_is = took.setup_is;
      index_is = took.index_is;
      place_is = took.place_is;
      sessions = took.sessions;
      filed = filed_one place old some;
      here = λ p e. took.connects p ∙ cond-true (nat_eq place p) (taken_from (connect_in old place)) (connect_in old p) (is_one place p true e) ∙ gone_from (connect_in old place) some;
      there = λ p e. took.connects p ∙ cond-false (nat_eq place p) (taken_from (connect_in old place)) (connect_in old p) (is_one place p false e);
    }) sound

pub refines_other_taken : RefinesBeside
refines_other_taken setup list taken shard n place s other m beside room h some apart g = refines_beside_gone setup list taken (place ∷ []) shard n s other m beside h (filed_one place s some) apart g
