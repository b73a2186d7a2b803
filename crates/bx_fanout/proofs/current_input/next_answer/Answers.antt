use Rattle.std.proofs.Common.{◌≡◌, ◌<◌, ◌∙◌, Option, arith, drop, length, sym, subst}
use Rattle.std.proofs.lemmas.List.{length-map}
use Rattle.std.specs.Arc.{arc_value}
use Rattle.bx_entry.specs.declared.entry.Slot.TheVariants.{Waiting}
use Rattle.bx_message.specs.declared.reply.Answer.{Answer}
use Rattle.bx_world.specs.Seen.{setup_of, world_of}
use Rattle.bx_fanout.specs.CurrentInputs.{Next}
use Rattle.bx_shard.specs.declared.shard.Shard.{Shard}
use Rattle.bx_fanout.proofs.Collecting.{front-of, next-missing, next-taken}
use Rattle.bx_fanout.proofs.current_input.next_answer.Goals as goal

pub returns-in_err-answer-clause-next : goal.returns-in_err-answer-clause-next
returns-in_err-answer-clause-next g c =
    let w = c.args.world.now in
    let steps = c.in_err-answer.ensures in
    let next = next-missing (setup_of w) (world_of w) (world_of c.take.new.self) c.in-Some-Waiting.ticket (drop 1 c.args.slots.now.items) c.args.slots.now.items w.registry.config.limits.some_batch
    (λ session. let many : length (world_of w).applied ≡ w.registry.shards = length-map w.shards.items (λ (s : Shard g.row.P.Denot). s.place) ∙ w.holds.counted in
    let below : g.P.Placing.place_of (arc_value w.placing) session w.registry.shards < w.registry.shards = g.met.P.Placing.is_below (arc_value w.placing) session w.registry.shards w.holds.some_shard w.holds.shards_in_range in
    omega arith)
    (front-of c.args.slots.now.items (Waiting c.in-Some-Waiting.ticket) c.in-Some-Waiting.field-0.now c.in-Some-Waiting.ensures.item.0 c.in-Some-Waiting.ensures.lookup c.in-Some-Waiting.field-0-is)
    steps.output steps.world in
    subst (λ (o : Option Answer). Next (setup_of w) (world_of w) c.args.slots.now.items c.args.slots.now.items (world_of c.take.new.self) o) (sym c.from_residual.ensures) next

pub returns-in-Some-Waiting-clause-next : goal.returns-in-Some-Waiting-clause-next
returns-in-Some-Waiting-clause-next g c =
    let w = c.args.world.now in
    let steps = c.in_ok-answer.ensures in
    next-taken (setup_of w) (world_of w) (world_of c.take.new.self) c.in-Some-Waiting.ticket c.in_ok-answer.answer (drop 1 c.args.slots.now.items) c.args.slots.now.items c.pop_front.new.self.items w.registry.config.limits.some_batch
    (λ session. let many : length (world_of w).applied ≡ w.registry.shards = length-map w.shards.items (λ (s : Shard g.row.P.Denot). s.place) ∙ w.holds.counted in
    let below : g.P.Placing.place_of (arc_value w.placing) session w.registry.shards < w.registry.shards = g.met.P.Placing.is_below (arc_value w.placing) session w.registry.shards w.holds.some_shard w.holds.shards_in_range in
    omega arith)
    (front-of c.args.slots.now.items (Waiting c.in-Some-Waiting.ticket) c.in-Some-Waiting.field-0.now c.in-Some-Waiting.ensures.item.0 c.in-Some-Waiting.ensures.lookup c.in-Some-Waiting.field-0-is)
    c.pop_front.ensures.rest steps.output steps.world
