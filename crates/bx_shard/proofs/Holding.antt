-- A shard still agrees with its definition `shard_at` if the list grows or nothing has changed.
use Rattle.std.proofs.Common.{◌≡◌, ℕ, ◌<◌, Option, Some, None, List, ◌++◌, length, take, map, filter, find, option_map, slice_get, ◌==◌, sym, ap, ◌∙◌, arith, length-append}
use Rattle.std.proofs.lemmas.List.{take-append-le}
use Rattle.bx_advice.specs.declared.config.Config.{Config}
use Rattle.bx_entry.specs.Words.{Listed, answer_of, Kept, kept, Registry, Registered, Judged, registry, entries_of, Session, Filed, session}
use Rattle.bx_theory.proofs.{Lists.judged_length, Lists.slice_get_less, Verdicts.found_from, Verdicts.judged_after}
use Rattle.bx_connects.specs.Connects.{session_at}
use Rattle.bx_shard.specs.Words.{Setup, filed_among, live_among, is_placed_in, RefinesAtFirst, RefinesLonger, RefinesStill, Refines, State, IsSound, IsConnectOf, connect_in, session_in, filed_with_place}
use Rattle.bx_shard.proofs.Taking.{waits_later}

-- ---- at first, and after a call that changed nothing

pub refines_when_new : RefinesAtFirst
refines_when_new setup shard s setup_is index_is place_is sound none_here none_known = record {
  setup_is = setup_is;
  index_is = index_is;
  place_is = place_is;
  within = omega arith;
  sound = sound;
  sessions = none_here;
  filed = λ p. ap filed_with_place (none_known p);
  known = λ p t. cc;
  gone = λ p t c. absurd (cc);
  owned = λ p m k. absurd (let no : None ≡ Some m = sym (ap session_at (none_known p)) ∙ k in cc);
}

pub refines_same : (setup : Setup) (list : List Listed) (taken : List ℕ) (shard n : ℕ) (old new : State) → Refines setup list taken shard n old →
    (new.setup ≡ old.setup) × (new.index ≡ old.index) × (new.place ≡ old.place) → IsSound new → ((m : ℕ) → session_in new m ≡ session_in old m) →
    ((p : ℕ) → filed_with_place (connect_in new p) ≡ filed_with_place (connect_in old p)) → ((p : ℕ) → connect_in old p ≡ None → connect_in new p ≡ None) →
    ((p : ℕ) → session_at (connect_in new p) ≡ session_at (connect_in old p)) → Refines setup list taken shard n new
refines_same setup list taken shard n old new h same sound sessions filed gone owners = record {
  setup_is = same.0 ∙ h.setup_is;
  index_is = same.1 ∙ h.index_is;
  place_is = same.2 ∙ h.place_is;
  within = h.within;
  sound = sound;
  sessions = λ m. sessions m ∙ h.sessions m;
  filed = λ p. filed p ∙ h.filed p;
  known = h.known;
  gone = λ p t c. let g = h.gone p t c in (g.0, gone p g.1);
  owned = λ p m k. h.owned p m (sym (owners p) ∙ k);
}

pub refines_unchanged : RefinesStill
refines_unchanged setup list taken shard n old new h b sound =
    refines_same setup list taken shard n old new h (b.setup, b.index, b.place) sound b.sessions
    (λ p. ap filed_with_place (b.connects p)) (λ p none. b.connects p ∙ none) (λ p. ap session_at (b.connects p))

-- ---- a longer list

abbrev pub sessions_over : Setup → ℕ → List Listed → List Session
sessions_over setup shard xs =
    let r : Registry = registry setup.config xs in
    map (λ (s : Registered). session setup.config s.number (entries_of r)) (filter (λ (s : Registered). is_placed_in setup shard s.number) r.sessions)

abbrev found_session : Setup → ℕ → List Session → Option Kept
found_session setup m ss = find (λ (k : Kept). k.number == m) (map kept (live_among ss))

abbrev found_answer : List ℕ → ℕ → List Session → Option Filed
found_answer taken p ss = find (λ (f : Filed). f.connect == p) (filed_among taken ss)

pub judged_alike : (config : Config) (xs ys : List Listed) (p : ℕ) → p < length xs → slice_get (registry config (xs ++ ys)).judged p ≡ slice_get (registry config xs).judged p
judged_alike config xs ys p h =
    ap (λ (js : List Judged). slice_get js p) (judged_after config xs ys) ∙ slice_get_less (registry config xs).judged (found_from config (registry config xs) ys) p (omega (arith, h, judged_length config xs))

connect_before : (setup : Setup) (list more : List Listed) (shard p : ℕ) → p < length list → IsConnectOf setup (list ++ more) shard p → IsConnectOf setup list shard p
connect_before setup list more shard p h c = record {
  session = c.session;
  waits = sym (ap (option_map (λ (j : Judged). j.slot)) (judged_alike setup.config list more p h)) ∙ c.waits;
  stands = c.stands;
}

pub refines_longer_list : RefinesLonger
refines_longer_list setup list more taken shard n s h =
    let front : take n list ≡ take n (list ++ more) = sym (take-append-le n list more h.within) in
    record {
      setup_is = h.setup_is;
      index_is = h.index_is;
      place_is = h.place_is;
      within = omega (arith, h.within, length-append list more);
      sound = h.sound;
      sessions = λ m. h.sessions m ∙ ap (λ (xs : List Listed). found_session setup m (sessions_over setup shard xs)) front;
      filed = λ p. h.filed p ∙ ap (λ (xs : List Listed). option_map answer_of (found_answer taken p (sessions_over setup shard xs))) front;
      known = λ p t. omega (arith, h.known p t, length-append list more);
      gone = λ p t c. h.gone p t (connect_before setup list more shard p (h.known p t) c);
      owned = λ p m k. let o = h.owned p m k in record { waits = waits_later setup.config list more m p o.waits; stands = o.stands };
    }
