-- A shard that applies some entries one after another.
use Rattle.std.proofs.Common.{ℕ, ◌+◌, ◌-◌, ◌<◌, ◌≤◌, ◌≡◌, List, length, length-drop, drop, get_or, true, false, refl, ap, sym, subst, arith, ◌∙◌}
use Rattle.std.proofs.lemmas.{List.get_or-drop, Option.same_Some, Option.slice_get_read, Option.slice_get_within}
use Rattle.std.specs.Prelude.{slice_get, Some, Bool}
use Rattle.bx_entry.specs.Words.{Listed, entries}
use Rattle.bx_entry.specs.declared.entry.Entry.{Entry}
use Rattle.bx_shard.specs.Words.{Refines, setup_in, state, Setup, Applied, IsAsBefore, IsSound, takes_no_memory}
use Rattle.bx_shard.specs.declared.shard.Shard.{Shard}
use Rattle.bx_shard.proofs.{Holding.refines_unchanged, Onwards.refines_applied}
use Rattle.bx_shard.specs.Upward.{AreConsecutive, AreOf, IsWithin, WentOn, end_of, first_of}

-- `new` is the shard `old` after it applied `n` more entries of `es`. If `old` agrees with its
-- definition `shard_at` for a list that has the entries, `new` does too.
pub record Goes {P : Type 0} (place_of : P → ℕ → ℕ → ℕ) (es : List Entry) (n : ℕ) (old new : Shard P) : Type 0 where
  pub place : new.place ≡ old.place + n
  pub setup : setup_in place_of new ≡ setup_in place_of old
  pub index : new.index ≡ old.index
  pub shut : new.is_closed_to_wakers ≡ old.is_closed_to_wakers
  pub holds : (setup : Setup) (list : List Listed) (taken : List ℕ) (k : ℕ) → 0 < setup.config.limits.batch → AreOf setup list es →
      Refines setup list taken k old.place (state place_of old) → Refines setup list taken k new.place (state place_of new)

module _ {P : Type 0} (place_of : P → ℕ → ℕ → ℕ) (es : List Entry) where
  pub goes_on : (n : ℕ) (e : Entry) (old mid new : Shard P) → Goes place_of es n old mid → slice_get es (mid.place - first_of es) ≡ Some e → e.place ≡ mid.place →
      Applied (state place_of mid) e (state place_of new) → IsSound (state place_of new) → Goes place_of es (n + 1) old new
  goes_on n e old mid new g there at a sound = record {
    place = omega (arith, g.place, a.place, at);
    setup = a.setup ∙ g.setup;
    index = a.index ∙ g.index;
    shut = a.shut ∙ g.shut;
    holds = λ setup list taken k room of h.
        let next : slice_get (entries setup.config list) mid.place ≡ Some e = subst (λ (p : ℕ). slice_get (entries setup.config list) p ≡ Some e) at (of (mid.place - first_of es) e there) in
        let reached : new.place ≡ mid.place + 1 = omega (arith, a.place, at) in
        subst (λ (p : ℕ). Refines setup list taken k p (state place_of new)) (sym reached)
        (refines_applied setup list taken k mid.place e (state place_of mid) (state place_of new) room next (g.holds setup list taken k room of h) a sound);
  }

  pub goes_still : (n : ℕ) (old mid new : Shard P) → Goes place_of es n old mid → IsAsBefore (state place_of mid) (state place_of new) → IsSound (state place_of new) →
      Goes place_of es n old new
  goes_still n old mid new g same sound = record {
    place = omega (arith, g.place, same.place);
    setup = same.setup ∙ g.setup;
    index = same.index ∙ g.index;
    shut = same.shut ∙ g.shut;
    holds = λ setup list taken k room of h.
        subst (λ (p : ℕ). Refines setup list taken k p (state place_of new)) (sym same.place)
        (refines_unchanged setup list taken k mid.place (state place_of mid) (state place_of new) (g.holds setup list taken k room of h) same sound);
  }

  pub goes_far : (n : ℕ) (old new : Shard P) → Goes place_of es n old new → n ≤ length (drop (old.place - first_of es) es) →
      ((e : Entry) → slice_get es (new.place - first_of es) ≡ Some e → takes_no_memory e ≡ false) → IsWithin es old → WentOn place_of es old new
  goes_far n old new g most stopped inside = record {
    onward = omega (arith, g.place);
    within = λ _ some. let len : length (drop (old.place - first_of es) es) ≡ length es - (old.place - first_of es) = length-drop (old.place - first_of es) es in
        let p : (first_of es ≤ old.place) × (old.place ≤ end_of es) = inside some in (omega (arith, g.place, p.0), omega (arith, g.place, most, len, p.0, p.1));
    none = λ no. let len : length (drop (old.place - first_of es) es) ≡ length es - (old.place - first_of es) = length-drop (old.place - first_of es) es in omega (arith, g.place, most, len, no);
    setup = g.setup;
    index = g.index;
    shut = g.shut;
    holds = g.holds;
    stopped = stopped;
  }

pub next : {P : Type 0} (es : List Entry) (old mid : Shard P) (n : ℕ) (e : Entry) → IsWithin es old → mid.place ≡ old.place + n → n < length (drop (old.place - first_of es) es) →
    e ≡ get_or (drop (old.place - first_of es) es) n e → slice_get es (mid.place - first_of es) ≡ Some e
next es old mid n e inside at within is =
    let len : length (drop (old.place - first_of es) es) ≡ length es - (old.place - first_of es) = length-drop (old.place - first_of es) es in
    let p : (first_of es ≤ old.place) × (old.place ≤ end_of es) = inside (omega (arith, within, len)) in
    let same : (old.place - first_of es) + n ≡ mid.place - first_of es = omega (arith, at, p.0) in
    slice_get_read es (length es) (mid.place - first_of es) e refl (omega (arith, within, len, same))
    (is ∙ get_or-drop (old.place - first_of es) es n e ∙ ap (λ (k : ℕ). get_or es k e) same)

free_at_err : (b : Bool) → (b ≡ true → false ≡ true) → b ≡ false
free_at_err true free = sym (free refl)
free_at_err false free = refl

pub stays : {P : Type 0} (es : List Entry) (mid new : Shard P) (e : Entry) → slice_get es (mid.place - first_of es) ≡ Some e → new.place ≡ mid.place → (takes_no_memory e ≡ true → false ≡ true) →
    (x : Entry) → slice_get es (new.place - first_of es) ≡ Some x → takes_no_memory x ≡ false
stays es mid new e there same free x at =
    let here : slice_get es (mid.place - first_of es) ≡ Some x = subst (λ (p : ℕ). slice_get es (p - first_of es) ≡ Some x) same at in
    let one : e ≡ x = same_Some e x (sym there ∙ here) in
    subst (λ (y : Entry). takes_no_memory y ≡ false) one (free_at_err (takes_no_memory e) free)

pub ended : {P : Type 0} (es : List Entry) (old new : Shard P) (n : ℕ) → IsWithin es old → new.place ≡ old.place + n → length (drop (old.place - first_of es) es) ≤ n →
    (x : Entry) → slice_get es (new.place - first_of es) ≡ Some x → takes_no_memory x ≡ false
ended es old new n inside at past x there =
    let len : length (drop (old.place - first_of es) es) ≡ length es - (old.place - first_of es) = length-drop (old.place - first_of es) es in
    let below : new.place - first_of es < length es = slice_get_within es (new.place - first_of es) x there in
    let p : (first_of es ≤ old.place) × (old.place ≤ end_of es) = inside (omega (arith, below)) in
    absurd (omega (arith, at, past, len, below, p.0))

pub stands : {P : Type 0} (es : List Entry) (old mid : Shard P) (n : ℕ) (e : Entry) → AreConsecutive es → IsWithin es old → mid.place ≡ old.place + n → slice_get es (mid.place - first_of es) ≡ Some e →
    e.place ≡ mid.place
stands es old mid n e apart inside at there =
    let below : mid.place - first_of es < length es = slice_get_within es (mid.place - first_of es) e there in
    let p : (first_of es ≤ old.place) × (old.place ≤ end_of es) = inside (omega (arith, below)) in
    omega (arith, at, p.0, apart (mid.place - first_of es) e there)
