use Rattle.std.proofs.Common.{◌≡◌, ◌<◌, ◌+◌, ◌++◌, ◌∷◌, [], ◌∙◌, arith, ap, length, List, refl, subst, sym}
use Rattle.std.proofs.lemmas.{Grind.common_steps, List.length_push}
use Rattle.bx_message.specs.declared.reply.Answer.{Answer}
use Rattle.bx_entry.specs.Placings.{Setup}
use Rattle.bx_world.specs.Seen.{setup_of, world_of}
use Rattle.bx_fanout.specs.CurrentInputs.{IsCollected, next_place}
use Rattle.bx_fanout.proofs.Collecting.{collected-more, keeps-more, level-next}
use Rattle.bx_fanout.proofs.current_input.CurrentInput.collect.Goals as goal

pub loop-alloc-preserved : goal.loop-alloc-preserved
loop-alloc-preserved g c =
    let n = c.loop-alloc.self in
    let w = c.loop-alloc.world in
    let v = c.next_answer.new.world in
    let inv = c.loop-alloc.invariant in
    let k1 = c.is_empty.ensures in let k2 = c.loop-alloc-test.true in let some : 0 < length n.slots.items = grind (arith, common_steps) in
    let next = c.in-Some.ensures.next (next_place n) inv.level inv.so_far.slots inv.so_far.fresh some in
    let answers : c.push_back_reserved.new.self.items ≡ n.answers.items ++ c.in-Some.answer ∷ [] = c.push_back_reserved.ensures.items in
    let more : length c.push_back_reserved.new.self.items ≡ length n.answers.items + 1 = ap (λ (items : List Answer). length items) answers ∙ length_push n.answers.items c.in-Some.answer in
    record {
      room = let fewer = next.2 in let same = c.push_back_reserved.ensures.capacity in omega (arith, inv.room);
      level = level-next (setup_of w) (world_of w) (world_of v) (next_place n) n.slots.items c.next_answer.new.slots.items c.in-Some.answer next inv.level;
      so_far = subst (λ (s : Setup). IsCollected s (world_of v) (record n { answers = c.push_back_reserved.new.self; slots = c.next_answer.new.slots })) (sym c.next_answer.ensures.setup) (collected-more (setup_of w) (world_of w) (world_of v) n (record n { answers = c.push_back_reserved.new.self; slots = c.next_answer.new.slots }) c.in-Some.answer inv.so_far next refl answers);
      setup = c.next_answer.ensures.setup ∙ inv.setup;
      world = keeps-more c.args.self.now.first (next_place n) (world_of c.args.world.now) (world_of w) (world_of v) (let same = inv.collects.first in omega arith) inv.world next.4;
      collects = record {
        number = inv.collects.number;
        first = inv.collects.first;
        refusal = inv.collects.refusal;
        items = inv.collects.items;
        many = let fewer = next.2 in let before = inv.collects.many in omega arith;
      };
    }
