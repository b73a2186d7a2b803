-- What a taking gives, and what the shards hold after it.
use Rattle.std.proofs.Common.{◌≡◌, ℕ, ◌<◌, ◌≤◌, ◌==◌, true, Option, Some, None, List, [], ◌∷◌, ◌++◌, length, find, option_map, nat_eq, nat_lt, slice_get, slice_set, sym, ap, ◌∙◌, subst, arith, inl}
use Rattle.std.specs.Prelude.{slice_index, if◌then◌else◌}
use Rattle.std.specs.Option.{IsSome}
use Rattle.std.proofs.lemmas.Bool.{cond-true, lt-ltb, eq-eqb}
use Rattle.bx_entry.specs.Words.{PlacedAnswer, answer_of, Filed}
use Rattle.bx_entry.specs.declared.{Placing.Ghosts, entry.Ticket.Ticket}
use Rattle.bx_message.specs.declared.reply.Answer.{Answer}
use Rattle.bx_connects.specs.Connects.{filed_answer}
use Rattle.bx_shard.specs.Words.{Refines, Took, filed_with_place, given_of, state, shard_at, IsSound, State, connect_in}
use Rattle.bx_connects.specs.declared.connects.ConnectState.{ConnectState}
use Rattle.bx_shard.specs.declared.shard.Shard.{Shard}
use Rattle.bx_shard.proofs.{Given.as_before, Given.given_filed, Holding.refines_unchanged, Taking.refines_other_taken, Taking.refines_taken}
use Rattle.bx_world.specs.Words.{RefinesFrom, WorldHolds, setup_of, world_of, IsOutput, filed_under}
use Rattle.bx_world.specs.declared.world.World.{World}
use Rattle.bx_world.specs.declared.step.Step.TheVariants.{Take}
use Rattle.bx_world.specs.declared.step.StepOut.TheVariants.{Taken}
use Rattle.bx_world.proofs.Standing.{each_with, holds_there, in_range, place_there, still_holds}

-- ---- one connect

some_filed : (o : Option Answer) (a : Answer) → Some a ≡ o → IsSome o
some_filed o a e = grind arith

none_placed : (o : Option ConnectState) → filed_answer o ≡ None → filed_with_place o ≡ None
none_placed o e = grind arith

-- ---- an answer is taken from a shard of the world

module _ {P : Type 0} {g : Ghosts P} (w : World P g) (t : Ticket) (old new : Shard P) (there : slice_get w.shards.items t.shard ≡ Some old) where
  abbrev was : State
  was = state g.place_of old

  abbrev is : State
  is = state g.place_of new

  here : RefinesFrom g.place_of (setup_of w) w.registry.list w.taken w.first t.shard old
  here = holds_there w t.shard old there

  pub own : nat_eq t.shard old.index ≡ true
  own = eq-eqb t.shard old.index (sym here.holds.index_is)

  pub answered : (o : Option Answer) → o ≡ (if nat_eq t.shard old.index then filed_answer (connect_in was t.place) else None) → o ≡ filed_answer (connect_in was t.place)
  answered o e = e ∙ cond-true (nat_eq t.shard old.index) (filed_answer (connect_in was t.place)) None own

  abbrev found_at : ℕ → ℕ → Option PlacedAnswer
  found_at place n = option_map answer_of (find (λ (f : Filed). f.connect == place) (shard_at (setup_of w) w.registry.list w.taken t.shard n).filed)

  filed_here : (place : ℕ) → filed_under (setup_of w) (world_of w) (record t { place = place }) ≡ filed_with_place (connect_in was place)
  filed_here place =
      cond-true (nat_lt t.shard (length (world_of w).applied)) (found_at place (slice_index (world_of w).applied t.shard)) None (lt-ltb t.shard (length (world_of w).applied) (in_range w t.shard old there))
      ∙ ap (found_at place) (place_there w t.shard old there) ∙ sym (here.holds.filed place)

  pub taking_gives : (o : Option Answer) → o ≡ filed_answer (connect_in was t.place) → IsOutput (setup_of w) (world_of w) (Take t) (Taken o)
  taking_gives o e = inl (ap Taken (e ∙ given_filed (connect_in was t.place) ∙ ap (option_map given_of) (sym (filed_here t.place))))

  pub none_filed : ((p : ℕ) → filed_answer (connect_in was p) ≡ None) → (place : ℕ) → filed_under (setup_of w) (world_of w) (record t { place = place }) ≡ None
  none_filed none place = filed_here place ∙ none_placed (connect_in was place) (none place)

  abbrev Now : List ℕ → Type 0
  Now taken = WorldHolds g.place_of (setup_of w) w.registry.list taken w.first w.kept.items (slice_set w.shards.items t.shard new)

  abbrev IsFrom : List ℕ → Type 0
  IsFrom taken = RefinesFrom g.place_of (setup_of w) w.registry.list taken w.first t.shard new

  pub holds_same : new ≡ old → Now w.taken
  holds_same same =
      still_holds w t.shard old there new w.taken (ap (λ (s : Shard P). s.place) same)
      (each_with w t.shard old there new w.taken (subst (RefinesFrom g.place_of (setup_of w) w.registry.list w.taken w.first t.shard) (sym same) here) (λ j x apart h. h))

  from_there : (taken : List ℕ) → Took t.place was is → Refines (setup_of w) w.registry.list taken t.shard old.place is → IsFrom taken
  from_there taken took held = record {
    holds = subst (λ (n : ℕ). Refines (setup_of w) w.registry.list taken t.shard n is) (sym took.place_is) held;
    past = subst (λ (n : ℕ). w.first ≤ n) (sym took.place_is) here.past;
  }

  pub holds_still : None ≡ filed_answer (connect_in was t.place) → Took t.place was is → IsSound is → Now w.taken
  holds_still none took sound =
      still_holds w t.shard old there new w.taken took.place_is (each_with w t.shard old there new w.taken
      (from_there w.taken took (refines_unchanged (setup_of w) w.registry.list w.taken t.shard old.place was is here.holds (as_before t.place was is (sym none) took) sound)) (λ j x apart h. h))

  pub holds_taken : (a : Answer) → Some a ≡ filed_answer (connect_in was t.place) → Took t.place was is → IsSound is → Now (w.taken ++ t.place ∷ [])
  holds_taken a some took sound =
      let room : 0 < w.registry.config.limits.batch = omega (arith, w.registry.config.limits.some_batch) in
      let filed : IsSome (filed_answer (connect_in was t.place)) = some_filed (filed_answer (connect_in was t.place)) a some in
      let taken : List ℕ = w.taken ++ t.place ∷ [] in
      still_holds w t.shard old there new taken took.place_is (each_with w t.shard old there new taken
      (from_there taken took (refines_taken (setup_of w) w.registry.list w.taken t.shard old.place t.place was is room here.holds filed took sound))
      (λ j x apart h. record { holds = refines_other_taken (setup_of w) w.registry.list w.taken t.shard old.place t.place was j x.place (state g.place_of x) room here.holds filed apart h.holds; past = h.past }))
