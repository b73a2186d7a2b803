use Rattle.std.proofs.Common.{arith, subst, ◌∙◌}
use Rattle.bx_tree.specs.Words.{IsIndexAt}
use Rattle.bx_tree.proofs.ChangeLemmas.{index_less, others_less, shorter}
use Rattle.bx_tree.proofs.changes.shorten.Goals as goal

pub loop-arrivals-preserved : goal.loop-arrivals-preserved
loop-arrivals-preserved c =
    let nodes = c.loop-arrivals.nodes in
    let p = c.in-Some.pattern in
    let number = c.args.number in
    let left = c.pop.new.self in
    let is = c.in-Some.ensures.some in
    record {
      index = index_less nodes c.remove.new.self p number c.remove.ensures.gone left c.in-Some.ensures.once (subst (IsIndexAt nodes number) is c.loop-arrivals.invariant.index);
      others = λ q whole n other. others_less nodes c.remove.new.self p number c.remove.ensures.gone q whole n other ∙ c.loop-arrivals.invariant.others q whole n other;
      first = shorter c.loop-arrivals.arrivals left p c.args.len is (omega arith) ∙ c.loop-arrivals.invariant.first;
    }
