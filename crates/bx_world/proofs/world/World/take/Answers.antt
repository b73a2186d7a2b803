use Rattle.std.proofs.Common.{◌≡◌, ◌<◌, ℕ, List, Option, Some, None, true, slice_get, slice_set, refl, sym, ap, ◌∙◌, subst, arith}
use Rattle.std.proofs.lemmas.Option.{slice_get_read}
use Rattle.bx_shard.specs.Words.{Took, state}
use Rattle.bx_message.specs.declared.reply.Answer.{Answer}
use Rattle.bx_world.specs.Words.{WorldHolds, setup_of, world_of, IsOutput, after}
use Rattle.bx_world.specs.declared.step.Step.TheVariants.{Take}
use Rattle.bx_world.specs.declared.step.StepOut.TheVariants.{Taken}
use Rattle.bx_world.proofs.Standing.{same_places}
use Rattle.bx_world.proofs.Takings.{answered, holds_still, holds_taken, own, taking_gives}
use Rattle.bx_world.proofs.world.World.take.Goals as goal
use Rattle.bx_world.proofs.world.World.take.Goals.{After-take}

there : (g : _) (c : After-take g) → slice_get c.args.self.now.shards.items c.args.ticket.shard ≡ Some c.in_ok-get_mut.field-0.now
there g c =
    let row = c.args.self.now.shards in
    let here : c.args.ticket.shard < row.len = c.in_ok-get_mut.ensures.variant.0 (refl {a = true}) in
    slice_get_read row.items row.len c.args.ticket.shard c.in_ok-get_mut.field-0.now (omega (arith, row.ok.0)) here c.in_ok-get_mut.ensures.value

took : (g : _) (c : After-take g) → Took c.args.ticket.place (state g.P.Placing.place_of c.in_ok-get_mut.field-0.now) (state g.P.Placing.place_of c.take.new.self)
took g c = c.take.ensures.taken (own c.args.self.now c.args.ticket c.in_ok-get_mut.field-0.now c.take.new.self (there g c))

pub invariant_of-self-in-Break-branch-2 : goal.invariant_of-self-in-Break-branch-2
invariant_of-self-in-Break-branch-2 g c =
    let w = c.args.self.now in
    let t = c.args.ticket in
    let old = c.in_ok-get_mut.field-0.now in
    let new = c.take.new.self in
    let k = (goal.at.invariant_of-self-in-Break-branch-2 g c).After-take in
    record { holds = holds_still w t old new (there g k) (answered w t old new (there g k) None c.in_err-answer.ensures.answer) (took g k) c.take.ensures.sound }

pub returns-in_err-answer : goal.returns-in_err-answer
returns-in_err-answer g c =
    let w = c.args.self.now in
    let t = c.args.ticket in
    let old = c.in_ok-get_mut.field-0.now in
    let new = c.take.new.self in
    let k = (goal.at.returns-in_err-answer g c).After-take in
    let gone = c.from_residual-in_err-answer.ensures in
    record {
      output = subst (λ (o : Option Answer). IsOutput (setup_of w) (world_of w) (Take t) (Taken o)) (sym gone) (taking_gives w t old new (there g k) None (answered w t old new (there g k) None c.in_err-answer.ensures.answer));
      world = ap (λ (ns : List ℕ). record (world_of w) { applied = ns }) (same_places w t.shard old (there g k) new (took g k).place_is) ∙ ap (λ (o : Option Answer). after (world_of w) (Take t) (Taken o)) (sym gone);
      setup = refl;
    }

pub invariant_of-self-2 : goal.invariant_of-self-2
invariant_of-self-2 g c =
    let w = c.args.self.now in
    let t = c.args.ticket in
    let old = c.in_ok-get_mut.field-0.now in
    let new = c.take.new.self in
    let k = (goal.at.invariant_of-self-2 g c).After-take in
    let a = c.in_ok-answer.answer in
    record {
      holds = subst (λ (taken : List ℕ). WorldHolds g.P.Placing.place_of (setup_of w) w.registry.list taken w.first w.kept.items (slice_set w.shards.items t.shard new)) (sym c.push.ensures)
          (holds_taken w t old new (there g k) a (answered w t old new (there g k) (Some a) c.in_ok-answer.ensures.answer) (took g k) c.take.ensures.sound);
    }

pub returns : goal.returns
returns g c =
    let w = c.args.self.now in
    let t = c.args.ticket in
    let old = c.in_ok-get_mut.field-0.now in
    let new = c.take.new.self in
    let k = (goal.at.returns g c).After-take in
    let a = c.in_ok-answer.answer in
    record {
      output = taking_gives w t old new (there g k) (Some a) (answered w t old new (there g k) (Some a) c.in_ok-answer.ensures.answer);
      world = ap (λ (ns : List ℕ). record (world_of w) { applied = ns; taken = c.push.new.self }) (same_places w t.shard old (there g k) new (took g k).place_is)
          ∙ ap (λ (taken : List ℕ). record (world_of w) { taken = taken }) c.push.ensures;
      setup = refl;
    }
