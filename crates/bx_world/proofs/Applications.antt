-- What an application gives, and what the shards hold after it.
use Rattle.std.proofs.Common.{◌≡◌, ℕ, ◌+◌, ◌-◌, ◌<◌, ◌≤◌, ◌&&◌, Bool, true, false, not, Option, Some, None, option_map, List, [], ◌∷◌, length, drop, map, slice_get, slice_set, get_or, refl, sym, ap, ◌∙◌, subst, arith, inl, inr, ⊎_elim}
use Rattle.std.specs.Prelude.{slice_index, ◌⊎◌, IfNone, IfSome}
use Rattle.std.proofs.lemmas.{List.drop-drop, Bool.cases_lt, Bool.cond-true, Bool.cond-false, List.map-set, Option.slice_get-get_or, Option.none-some}
use Rattle.bx_advice.specs.Limits.{greatest_length}
use Rattle.bx_advice.specs.declared.config.Config.{Config}
use Rattle.bx_entry.specs.Words.{Listed, entries}
use Rattle.bx_entry.specs.declared.{entry.Entry.Entry, Placing.Ghosts}
use Rattle.bx_theory.proofs.{Lists.entries_length, Lists.place_within, Verdicts.entry_placed}
use Rattle.bx_shard.specs.Words.{Refines, state, Setup}
use Rattle.bx_shard.specs.declared.shard.Shard.{Shard}
use Rattle.bx_shard.proofs.{Holding.refines_unchanged, Onwards.refines_applied}
use Rattle.bx_world.specs.Words.{setup_of, world_of, StandFrom, EachRefines, WorldHolds, some_stands_at, HasApplied, HasStayed, RefinesFrom, IsApplication, application, WorldState, IsOutput, after, is_level, may_take_memory, next_entry}
use Rattle.bx_world.specs.declared.world.World.{World}
use Rattle.bx_world.specs.declared.step.Applied as applications
use Rattle.bx_world.specs.declared.step.Applied.TheVariants.{Done, Level, Memory}
use Rattle.bx_world.specs.declared.step.Step.TheVariants.{Apply}
use Rattle.bx_world.specs.declared.step.StepOut.TheVariants as outs
use Rattle.bx_world.proofs.Standing.{each_with, holds_there, in_range, place_there, same_places}

-- ---- places of the list

past_end : (es : List Entry) (n m : ℕ) → length es ≡ m → slice_get es n ≡ None → m ≤ n
past_end [] n m l h = omega (arith, l)
past_end (e ∷ es) n m l h = ⊎_elim (λ (k : n < length (e ∷ es)). absurd (none-some (get_or (e ∷ es) n e) (sym h ∙ slice_get-get_or (e ∷ es) n e k))) (λ (k : length (e ∷ es) ≤ n). omega (arith, k, l)) (cases_lt n (length (e ∷ es)))

pub place_past : (config : Config) (list : List Listed) (n : ℕ) → slice_get (entries config list) n ≡ None → length list ≤ n
place_past config list n h = past_end (entries config list) n (length list) (entries_length config list) h

pub none_past : {X : Type 0} (entry_of : X → Entry) (config : Config) (list : List Listed) (n : ℕ) (P : Type 0) (found : Option X) →
    option_map entry_of found ≡ slice_get (entries config list) n → IfNone found ((length list ≤ n) ⊎ P)
none_past entry_of config list n P None e = inl (place_past config list n (sym e))
none_past entry_of config list n P (Some x) e = tt

pub some_there : {X : Type 0} (entry_of : X → Entry) (next : Option Entry) (found : Option X) → option_map entry_of found ≡ next → IfSome found (λ x. next ≡ Some (entry_of x))
some_there entry_of next None e = tt
some_there entry_of next (Some x) e = sym e

pub next_placed : {X : Type 0} (entry_of : X → Entry) (config : Config) (list : List Listed) (n : ℕ) (found : Option X) →
    option_map entry_of found ≡ slice_get (entries config list) n → IfSome found (λ x. (entry_of x).place ≡ n)
next_placed entry_of config list n None e = tt
next_placed entry_of config list n (Some x) e = entry_placed config list n (entry_of x) (sym e)

pub next_before : {X : Type 0} (entry_of : X → Entry) (config : Config) (list : List Listed) (n : ℕ) (found : Option X) → length list ≤ greatest_length →
    option_map entry_of found ≡ slice_get (entries config list) n → IfSome found (λ x. (entry_of x).place < greatest_length)
next_before entry_of config list n None few e = tt
next_before entry_of config list n (Some x) few e =
    let at : (entry_of x).place ≡ n = entry_placed config list n (entry_of x) (sym e) in
    let within : n < length list = place_within config list n (entry_of x) (sym e) in
    omega (arith, at, within, few)

-- ---- the result

level_here : (w : WorldState) (shard : ℕ) → slice_index w.applied shard ≡ length w.list → is_level w shard ≡ true
level_here w shard e = grind arith

behind : (w : WorldState) (shard n : ℕ) → shard < length w.applied → slice_index w.applied shard ≡ n → n < length w.list → is_level w shard ≡ false
behind w shard n h e l = grind arith

pub gives_level : (setup : Setup) (w : WorldState) (shard : ℕ) → is_level w shard ≡ true → IsOutput setup w (Apply shard) outs.Level
gives_level setup w shard h = inl (sym (cond-true (is_level w shard) outs.Level outs.Applied h))

gives_applied : (setup : Setup) (w : WorldState) (shard : ℕ) → is_level w shard ≡ false → IsOutput setup w (Apply shard) outs.Applied
gives_applied setup w shard h = inl (sym (cond-false (is_level w shard) outs.Level outs.Applied h))

gives_refusal : (setup : Setup) (w : WorldState) (shard : ℕ) → is_level w shard ≡ false → may_take_memory (next_entry setup w shard) ≡ true → IsOutput setup w (Apply shard) outs.OutOfMemory
gives_refusal setup w shard h m = inr (ap (λ (b : Bool). not b && may_take_memory (next_entry setup w shard)) h ∙ m, refl)

-- ---- the shard

module _ {P : Type 0} (place_of : P → ℕ → ℕ → ℕ) (setup : Setup) (list : List Listed) (taken : List ℕ) (first k : ℕ) (old new : Shard P) where
  place_after : HasApplied place_of (entries setup.config list) old new → new.place ≡ old.place + 1
  place_after a = a.applied.place ∙ ap (λ (n : ℕ). n + 1) (entry_placed setup.config list old.place a.entry a.next)

  done : 0 < setup.config.limits.batch → RefinesFrom place_of setup list taken first k old → HasApplied place_of (entries setup.config list) old new → RefinesFrom place_of setup list taken first k new
  done room h a = record {
    holds = subst (λ (n : ℕ). Refines setup list taken k n (state place_of new)) (sym (place_after a))
        (refines_applied setup list taken k old.place a.entry (state place_of old) (state place_of new) room a.next h.holds a.applied a.sound);
    past = omega (arith, h.past, place_after a);
  }

  stayed : RefinesFrom place_of setup list taken first k old → HasStayed place_of (entries setup.config list) old new → RefinesFrom place_of setup list taken first k new
  stayed h a = record {
    holds = subst (λ (n : ℕ). Refines setup list taken k n (state place_of new)) (sym a.same.place) (refines_unchanged setup list taken k old.place (state place_of old) (state place_of new) h.holds a.same a.sound);
    past = let same : new.place ≡ old.place = a.same.place in omega (arith, h.past, same);
  }

  pub applied_holds : (a : applications.Applied) → 0 < setup.config.limits.batch → RefinesFrom place_of setup list taken first k old → IsApplication place_of (entries setup.config list) old a new → RefinesFrom place_of setup list taken first k new
  applied_holds Done room h a = done room h a
  applied_holds Level room h a = subst (RefinesFrom place_of setup list taken first k) (sym a.1) h
  applied_holds Memory room h a = stayed h a

-- ---- all shards

module _ {P : Type 0} {g : Ghosts P} (w : World P g) (i : ℕ) (old new : Shard P) (there : slice_get w.shards.items i ≡ Some old) where
  pub each_applied : (a : applications.Applied) → IsApplication g.place_of (entries w.registry.config w.registry.list) old a new →
      EachRefines g.place_of (setup_of w) w.registry.list w.taken w.first (slice_set w.shards.items i new)
  each_applied a is =
      let room : 0 < w.registry.config.limits.batch = omega (arith, w.registry.config.limits.some_batch) in
      each_with w i old there new w.taken (applied_holds g.place_of (setup_of w) w.registry.list w.taken w.first i old new a room (holds_there w i old there) is) (λ k s apart h. h)

  abbrev behind_it : WorldState
  behind_it = record (world_of w) { applied = map (λ (s : Shard P). s.place) (slice_set w.shards.items i new) }

  same_world : new.place ≡ old.place → behind_it ≡ world_of w
  same_world e = ap (λ (ns : List ℕ). record (world_of w) { applied = ns }) (same_places w i old there new e)

  next_place : new.place ≡ old.place + 1 → behind_it ≡ after (world_of w) (Apply i) outs.Applied
  next_place e = ap (λ (ns : List ℕ). record (world_of w) { applied = ns })
      (map-set (λ (s : Shard P). s.place) w.shards.items i new ∙ ap (slice_set (world_of w).applied i) (e ∙ ap (λ (n : ℕ). n + 1) (sym (place_there w i old there))))

  is_behind : (e : Entry) → slice_get (entries w.registry.config w.registry.list) old.place ≡ Some e → is_level (world_of w) i ≡ false
  is_behind e next = behind (world_of w) i old.place (in_range w i old there) (place_there w i old there) (place_within w.registry.config w.registry.list old.place e next)

  pub application_steps : (a : applications.Applied) → IsApplication g.place_of (entries w.registry.config w.registry.list) old a new →
      IsOutput (setup_of w) (world_of w) (Apply i) (application a) × (behind_it ≡ after (world_of w) (Apply i) (application a))
  application_steps Done a = (
    gives_applied (setup_of w) (world_of w) i (is_behind a.entry a.next),
    next_place (place_after g.place_of (setup_of w) w.registry.list w.taken w.first i old new a),
  )
  application_steps Level a =
      let within : old.place ≤ length w.registry.list = (holds_there w i old there).holds.within in
      let level : is_level (world_of w) i ≡ true = level_here (world_of w) i (omega (arith, place_there w i old there, place_past w.registry.config w.registry.list old.place a.0, within)) in
      (gives_level (setup_of w) (world_of w) i level, same_world (ap (λ (s : Shard P). s.place) a.1))
  application_steps Memory a =
      let next : next_entry (setup_of w) (world_of w) i ≡ Some a.entry = ap (slice_get (entries w.registry.config w.registry.list)) (place_there w i old there) ∙ a.next in
      (gives_refusal (setup_of w) (world_of w) i (is_behind a.entry a.next) (ap may_take_memory next ∙ ap not a.takes), same_world a.same.place)

-- The invariant after shards advanced and the entries that all have applied are dropped.
pub dropped : {P : Type 0} {place_of : P → ℕ → ℕ → ℕ} {setup : Setup} {list : List Listed} {taken : List ℕ} {first : ℕ} {kept : List Entry} {xs : List (Shard P)} →
    WorldHolds place_of setup list taken first kept xs → (next : ℕ) (rest : List Entry) (ys : List (Shard P)) → length ys ≡ length xs → EachRefines place_of setup list taken first ys →
    StandFrom next ys → some_stands_at next ys ≡ true → first ≤ next → rest ≡ drop (next - first) kept → WorldHolds place_of setup list taken next rest ys
dropped {P} {place_of} {setup} {list} {taken} {first} h next rest ys same each from some onward left =
    let sum : first + (next - first) ≡ next = omega (arith, onward) in
    record {
      bounded = h.bounded;
      some_shard = h.some_shard;
      shards_in_range = h.shards_in_range;
      counted = same ∙ h.counted;
      holding = λ k s e. record { holds = (each k s e).holds; past = from k s e };
      slowest = some;
      kept_is = left ∙ ap (drop (next - first)) h.kept_is ∙ drop-drop (next - first) first (entries setup.config list) ∙ ap (λ (n : ℕ). drop n (entries setup.config list)) sum;
    }
