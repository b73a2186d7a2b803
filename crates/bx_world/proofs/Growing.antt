-- What an admission gives, and what the shards hold over the longer list.
use Rattle.std.proofs.Common.{◌≡◌, ℕ, ◌≤◌, None, List, ◌++◌, length, drop, sym, ap, ◌∙◌, subst, arith}
use Rattle.std.specs.Arc.{arc_value}
use Rattle.std.proofs.lemmas.List.{drop-append-le}
use Rattle.bx_entry.specs.Words.{added_by, entries, read_input, refusal_of}
use Rattle.bx_entry.specs.Placings.{Setup, placed_by}
use Rattle.bx_entry.specs.declared.{Placing.Ghosts, entry.Entry.Entry, input.Input.Input}
use Rattle.bx_theory.proofs.Lists.{entries_length}
use Rattle.bx_registry.specs.Slots.{admitted_slots}
use Rattle.bx_registry.specs.Standings.{Continues, Standing}
use Rattle.bx_registry.specs.declared.plan.Plan.{Plan}
use Rattle.bx_shard.proofs.Holding.{refines_longer_list}
use Rattle.bx_world.specs.Words.{IsOutput, IsPlanned, Steps, WorldHolds, WorldState, after, setup_of, world_of}
use Rattle.bx_world.specs.declared.{step.Step.Step, step.StepOut.StepOut, world.World.World}
use Rattle.bx_world.proofs.Standing.{first_within}

module _ {P : Type 0} {g : Ghosts P} where
  -- A step from `now` is one from `old` if only the reserved record differs.
  pub same_start : (old now new : World P g) (step : Step) (out : StepOut) → setup_of now ≡ setup_of old → world_of now ≡ world_of old → Steps now step out new → Steps old step out new
  same_start old now new step out setup world s = record {
    output = subst (λ (u : Setup). IsOutput u (world_of old) step out) setup (subst (λ (w : WorldState). IsOutput (setup_of now) w step out) world s.output);
    world = s.world ∙ ap (λ (w : WorldState). after w step out) world;
    setup = s.setup ∙ setup;
  }

  module _ (w : World P g) (reg : Standing) where
    abbrev Over : Standing → List Entry → Type 0
    Over r kept = WorldHolds g.place_of (placed_by r.config r.shards (g.place_of (arc_value w.placing))) r.list w.taken w.first kept w.shards.items

    pub same_list : reg ≡ record w.registry { ready = reg.ready } → Over reg w.kept.items
    same_list is = subst (λ (r : Standing). Over r w.kept.items) (sym is) w.holds

    pub planned : (plan : Plan) (input : Input) → reg ≡ record w.registry { ready = reg.ready } → refusal_of (length w.registry.list) (read_input input) ≡ None → plan.elements ≡ added_by (read_input input) →
        plan.slots ≡ admitted_slots (setup_of w) w.registry.list plan.elements → IsPlanned (placed_by reg.config reg.shards (g.place_of (arc_value w.placing))) reg.list input plan
    planned plan input is accepted elements slots =
        subst (λ (r : Standing). IsPlanned (placed_by r.config r.shards (g.place_of (arc_value w.placing))) r.list input plan) (sym is) (record { accepted = accepted; elements = elements; slots = slots })

    pub from_start : (now new : World P g) (step : Step) (out : StepOut) → reg ≡ record w.registry { ready = reg.ready } → setup_of now ≡ placed_by reg.config reg.shards (g.place_of (arc_value w.placing)) →
        world_of now ≡ record (world_of w) { list = reg.list } → Steps now step out new → Steps w step out new
    from_start now new step out is setup world =
        same_start w now new step out (setup ∙ ap (λ (r : Standing). placed_by r.config r.shards (g.place_of (arc_value w.placing))) is) (world ∙ ap (λ (r : Standing). record (world_of w) { list = r.list }) is)

    module _ (plan : Plan) (grown : reg ≡ record w.registry { list = w.registry.list ++ plan.elements; ready = reg.ready }) (next : Continues w.registry plan) where
      pub longer : (kept : List Entry) → kept ≡ w.kept.items ++ plan.batch.entries → Over reg kept
      longer kept more =
          let config = w.registry.config in
          let list = w.registry.list in
          let long : w.first ≤ length (entries config list) = omega (arith, first_within w, entries_length config list) in
          subst (λ (r : Standing). Over r kept) (sym grown) (record {
            bounded = next.change.bounded;
            some_shard = w.holds.some_shard;
            shards_in_range = w.holds.shards_in_range;
            counted = w.holds.counted;
            holding = λ k s e. record {
              holds = refines_longer_list (setup_of w) list plan.elements w.taken k s.place _ (w.holds.holding k s e).holds;
              past = (w.holds.holding k s e).past;
            };
            slowest = w.holds.slowest;
            kept_is = more ∙ ap (λ (es : List Entry). es ++ plan.batch.entries) w.holds.kept_is
                ∙ sym (drop-append-le w.first (entries config list) plan.batch.entries long) ∙ ap (drop w.first) (sym next.entries);
          })
