use Rattle.std.proofs.Common.{◌≡◌, ◌+◌, ◌<◌, ◌++◌, ◌∷◌, [], Bool, List, vec_capacity, vec_len, heap_items, heap_len, IsPermutation, ap, cond, sym, subst, ◌∙◌, arith, ℕ, append_assoc, append-nil}
use Rattle.std.proofs.lemmas.{List.Sorted.IsPermutation-pop_more, Grind.common_steps}
use Rattle.bx_roster.specs.Queues.{IsLateBy}
use Rattle.bx_roster.specs.declared.due_queue.Due.{Due}
use Rattle.bx_roster.proofs.due_queue.move_before.Goals as goal

late-more : (moment : ℕ) (first late new : List Due) (due : Due) → new ≡ late ++ due ∷ [] → due.moment.0 < moment → IsLateBy moment first late → IsLateBy moment first new
late-more moment first late new due is before by = grind (arith, common_steps, append_assoc)

pub loop-due-init : goal.loop-due-init
loop-due-init c = grind (arith, common_steps, append-nil)

pub loop-due-preserved : goal.loop-due-preserved
loop-due-preserved c =
    let i = c.loop-due.invariant in
    let late : List Due = c.loop-due.late.items in
    let due = c.in-Some.due in
    let less : heap_len c.pop_before.new.waiting + 1 ≡ heap_len c.loop-due.waiting = c.in-Some.ensures.len in
    let free : vec_len c.loop-due.late < vec_capacity c.loop-due.late = omega (arith, less, i.3) in
    let pushed = c.push.ensures.succeeds free in
    let items : c.push.new.self.items ≡ late ++ due ∷ [] = c.push.ensures.items ∙ ap (λ (b : Bool). cond b (late ++ due ∷ []) late) pushed in
    let len : vec_len c.push.new.self ≡ vec_len c.loop-due.late + 1 = c.push.ensures.len ∙ ap (λ (b : Bool). cond b (vec_len c.loop-due.late + 1) (vec_len c.loop-due.late)) pushed in (
      c.in-Some.ensures.heap,
      c.in-Some.ensures.capacity ∙ i.1,
      omega (arith, i.2, c.push.ensures.capacity),
      omega (arith, i.3, len, less, c.push.ensures.capacity),
      subst (λ (ds : List Due). IsPermutation (c.args.late.now.items ++ heap_items c.args.waiting.now) (ds ++ heap_items c.pop_before.new.waiting)) (sym items)
          (IsPermutation-pop_more (c.args.late.now.items ++ heap_items c.args.waiting.now) late (heap_items c.loop-due.waiting) (heap_items c.pop_before.new.waiting) due i.4 c.in-Some.ensures.popped),
      late-more c.args.moment c.args.late.now.items late c.push.new.self.items due items c.in-Some.ensures.before i.5,
    )
