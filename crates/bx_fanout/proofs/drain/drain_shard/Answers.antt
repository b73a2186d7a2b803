use Rattle.std.proofs.Common.{◌≡◌, ◌<◌, ◌+◌, ◌∙◌, ℕ, None, Some, ap, arith, length, subst, sym}
use Rattle.std.proofs.lemmas.List.{length-map}
use Rattle.std.specs.Arc.{arc_value}
use Rattle.bx_entry.specs.Placings.{Setup}
use Rattle.bx_shard.specs.declared.shard.Shard.{Shard}
use Rattle.bx_world.specs.Words.{setup_of, world_of, IsOutput, WorldState, filed_under}
use Rattle.bx_world.specs.declared.step.Step.TheVariants.{Take}
use Rattle.bx_world.specs.declared.step.StepOut.TheVariants.{Taken}
use Rattle.bx_fanout.specs.Draining.{Draining}
use Rattle.bx_fanout.proofs.{Collecting.AllPlaced, Draining.at-none, Draining.draining-more, Draining.draining-next, Draining.fewer-count}
use Rattle.bx_fanout.proofs.drain.drain_shard.Goals as goal

pub loop-filing-preserved : goal.loop-filing-preserved
loop-filing-preserved g c =
    let inv = c.loop-filing.invariant in
    let steps = c.in-Some.ensures.some in
    let w = c.loop-filing.world in
    let v = c.take_any.new.self in
    record {
      draining = λ before d.
          draining-more (setup_of c.args.world.now) before (world_of w) (world_of v) c.loop-filing.held c.answer.new.self c.args.shard (record { place = c.in-Some.filing.connect; shard = c.args.shard }) c.in-Some.filing.answer
          c.args.world.now.registry.config.limits.some_batch
          (subst (λ (s : Setup). IsOutput s (world_of w) (Take (record { place = c.in-Some.filing.connect; shard = c.args.shard })) (Taken (Some c.in-Some.filing.answer))) inv.setup steps.output)
          steps.world c.answer.ensures (inv.draining before d);
      list = ap (λ (x : WorldState). x.list) steps.world ∙ inv.list;
      applied = ap (λ (x : WorldState). x.applied) steps.world ∙ inv.applied;
      setup = steps.setup ∙ inv.setup;
    }

pub loop-filing-smaller : goal.loop-filing-smaller
loop-filing-smaller g c =
    let steps = c.in-Some.ensures.some in
    fewer-count (setup_of c.take_any.new.self) (setup_of c.loop-filing.world) (world_of c.loop-filing.world) (world_of c.take_any.new.self) c.args.shard c.in-Some.filing.connect c.in-Some.filing.answer steps.setup steps.output steps.world

pub returns-clause-draining : goal.returns-clause-draining
returns-clause-draining g c = λ before d.
    let inv = c.loop-filing.invariant in
    let none = at-none c.take_any.result c.in_default.is c.take_any.ensures.none in
    let w = c.loop-filing.world in
    let many : length (world_of w).applied ≡ w.registry.shards = length-map w.shards.items (λ (s : Shard g.row.P.Denot). s.place) ∙ w.holds.counted in
    let placed : AllPlaced (setup_of w) (world_of w) = λ session.
    let below : g.P.Placing.place_of (arc_value w.placing) session w.registry.shards < w.registry.shards = g.met.P.Placing.is_below (arc_value w.placing) session w.registry.shards w.holds.some_shard w.holds.shards_in_range in
    omega arith in
    let next = draining-next (setup_of c.args.world.now) before (world_of w) c.loop-filing.held c.args.shard c.args.world.now.registry.config.limits.some_batch
    (subst (λ (s : Setup). AllPlaced s (world_of w)) inv.setup placed)
    (subst (λ (s : Setup). (place : ℕ) → filed_under s (world_of w) (record { place = place; shard = c.args.shard }) ≡ None) inv.setup none.0)
    (inv.draining before d) in
    subst (λ (x : WorldState). Draining (setup_of c.args.world.now) before x c.loop-filing.held (c.args.shard + 1)) (sym none.1) next
