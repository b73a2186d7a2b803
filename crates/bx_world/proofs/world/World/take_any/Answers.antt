use Rattle.std.proofs.Common.{◌≡◌, ◌<◌, ℕ, List, Option, Some, None, true, map, slice_get, slice_set, refl, sym, ap, ◌∙◌, subst, arith}
use Rattle.std.specs.Prelude.{IfNone}
use Rattle.std.proofs.lemmas.Option.{slice_get_read}
use Rattle.bx_entry.specs.declared.entry.Ticket.{Ticket}
use Rattle.bx_connects.specs.Connects.{filed_answer}
use Rattle.bx_connects.specs.declared.filing.TakenAnswer.{TakenAnswer}
use Rattle.bx_shard.specs.declared.shard.Shard.{Shard}
use Rattle.bx_world.specs.Words.{WorldHolds, setup_of, world_of, WorldState, filed_under}
use Rattle.bx_world.proofs.{Standing.same_places, Takings.holds_same, Takings.holds_taken, Takings.none_filed, Takings.taking_gives}
use Rattle.bx_world.proofs.world.World.take_any.Goals as goal
use Rattle.bx_world.proofs.world.World.take_any.Goals.{After-take_any}

there : (g : _) (c : After-take_any g) → slice_get c.args.self.now.shards.items c.args.shard ≡ Some c.in_ok-get_mut.field-0.now
there g c =
    let row = c.args.self.now.shards in
    let here : c.args.shard < row.len = c.in_ok-get_mut.ensures.variant.0 (refl {a = true}) in
    slice_get_read row.items row.len c.args.shard c.in_ok-get_mut.field-0.now (omega (arith, row.ok.0)) here c.in_ok-get_mut.ensures.value

pub invariant_of-self-in-Break-branch-2 : goal.invariant_of-self-in-Break-branch-2
invariant_of-self-in-Break-branch-2 g c =
    let w = c.args.self.now in
    let t : Ticket = record { place = 0; shard = c.args.shard } in
    let old = c.in_ok-get_mut.field-0.now in
    let new = c.take_any.new.self in
    let k = (goal.at.invariant_of-self-in-Break-branch-2 g c).After-take_any in
    record { holds = holds_same w t old new (there g k) c.in_err-filing.ensures.same }

pub returns-in_err-filing-clause-none : goal.returns-in_err-filing-clause-none
returns-in_err-filing-clause-none g c =
    let w = c.args.self.now in
    let t : Ticket = record { place = 0; shard = c.args.shard } in
    let old = c.in_ok-get_mut.field-0.now in
    let new = c.take_any.new.self in
    let k = (goal.at.returns-in_err-filing-clause-none g c).After-take_any in
    let after : WorldState = record (world_of w) { applied = map (λ (s : Shard g.row.P.Denot). s.place) (slice_set w.shards.items t.shard new) } in
    let facts : ((place : ℕ) → filed_under (setup_of w) (world_of w) (record { place = place; shard = t.shard }) ≡ None) × (after ≡ world_of w) × (setup_of w ≡ setup_of w) = (
      none_filed w t old new (there g k) c.in_err-filing.ensures.none,
      ap (λ (ns : List ℕ). record (world_of w) { applied = ns }) (same_places w t.shard old (there g k) new (ap (λ (s : Shard g.row.P.Denot). s.place) c.in_err-filing.ensures.same)),
      refl,
    ) in
    subst (λ (o : Option TakenAnswer). IfNone o (((place : ℕ) → filed_under (setup_of w) (world_of w) (record { place = place; shard = t.shard }) ≡ None) × (after ≡ world_of w) × (setup_of w ≡ setup_of w)))
    (sym c.from_residual-in_err-filing.ensures) facts

pub invariant_of-self-2 : goal.invariant_of-self-2
invariant_of-self-2 g c =
    let w = c.args.self.now in
    let filing = c.in_ok-filing.filing in
    let t : Ticket = record { place = filing.connect; shard = c.args.shard } in
    let old = c.in_ok-get_mut.field-0.now in
    let new = c.take_any.new.self in
    let k = (goal.at.invariant_of-self-2 g c).After-take_any in
    record {
      holds = subst (λ (taken : List ℕ). WorldHolds g.P.Placing.place_of (setup_of w) w.registry.list taken w.first w.kept.items (slice_set w.shards.items t.shard new)) (sym c.push.ensures)
          (holds_taken w t old new (there g k) filing.answer (sym (ap filed_answer c.in_ok-filing.ensures.filed.1)) c.in_ok-filing.ensures.taken c.take_any.ensures.sound);
    }

pub returns-clause-some : goal.returns-clause-some
returns-clause-some g c =
    let w = c.args.self.now in
    let filing = c.in_ok-filing.filing in
    let t : Ticket = record { place = filing.connect; shard = c.args.shard } in
    let old = c.in_ok-get_mut.field-0.now in
    let new = c.take_any.new.self in
    let k = (goal.at.returns-clause-some g c).After-take_any in
    record {
      output = taking_gives w t old new (there g k) (Some filing.answer) (sym (ap filed_answer c.in_ok-filing.ensures.filed.1));
      world = ap (λ (ns : List ℕ). record (world_of w) { applied = ns; taken = c.push.new.self }) (same_places w t.shard old (there g k) new c.in_ok-filing.ensures.taken.place_is)
          ∙ ap (λ (taken : List ℕ). record (world_of w) { taken = taken }) c.push.ensures;
      setup = refl;
    }
