use Rattle.std.proofs.Common.{◌≡◌, ◌+◌, ◌++◌, ◌∷◌, [], ◌∙◌, List, add-one, ap, arith, length, refl, sym}
use Rattle.std.proofs.lemmas.List.{length_push}
use Rattle.bx_entry.specs.declared.entry.Slot.{Slot}
use Rattle.bx_message.specs.declared.reply.Answer.{Answer}
use Rattle.bx_fanout.proofs.Passing.{collected-ready}
use Rattle.bx_fanout.proofs.ready.collect_ready.Goals as goal

pub loop-alloc-preserved : goal.loop-alloc-preserved
loop-alloc-preserved c =
    let n = c.loop-alloc.current in
    let m = record n { answers = c.push_back_reserved.new.self; slots = c.next_ready.new.slots } in
    let inv = c.loop-alloc.invariant in
    let next = c.in-Some.ensures in
    let answers : m.answers.items ≡ n.answers.items ++ c.in-Some.answer ∷ [] = c.push_back_reserved.ensures.items ∙ ap (λ (items : List Answer). items ++ c.in-Some.answer ∷ []) c.in_ok-reserve.ensures.items in
    let more : length m.answers.items ≡ length n.answers.items + 1 = ap (λ (items : List Answer). length items) answers ∙ length_push n.answers.items c.in-Some.answer in
    let fewer : length n.slots.items ≡ length m.slots.items + 1 = ap (λ (ss : List Slot). length ss) next.0 ∙ sym (add-one (length m.slots.items)) in
    record {
      so_far = λ setup w so_far. collected-ready setup w n m c.in-Some.answer (inv.so_far setup w so_far) next refl answers;
      collects = record {
        number = inv.collects.number;
        first = inv.collects.first;
        refusal = inv.collects.refusal;
        items = inv.collects.items;
        many = let before = inv.collects.many in omega arith;
      };
    }
