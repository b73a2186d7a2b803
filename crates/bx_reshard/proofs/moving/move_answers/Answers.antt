use Rattle.std.proofs.Common.{sym, ap, ◌∙◌}
use Rattle.bx_connects.specs.Connects.{filing_at}
use Rattle.bx_reshard.specs.Heirs.{answered_with, connect_of}
use Rattle.bx_reshard.proofs.MoveLemmas.{filing_moved}
use Rattle.bx_reshard.proofs.moving.move_answers.Goals as goal

pub loop-connect-preserved : goal.loop-connect-preserved
loop-connect-preserved g c =
    let place_of = g.P.Placing.place_of c.args.placing.now in
    let loop = c.loop-connect in
    let es = c.pop_filed.new.self.filed in
    let one = c.file.ensures in
    record {
      connects = λ k p.
          filing_moved place_of c.args.count k p es c.in-Some.connect c.place.result c.in-Some.filed (connect_of loop.heirs.shards.items k p) (connect_of c.file.new.self.shards.items k p)
          (c.place.ensures.same ∙ ap (λ n. place_of c.in-Some.filed.session n) c.get.ensures.same) c.in-Some.ensures.once (one.connects k p)
          ∙ ap (λ xs. answered_with place_of c.args.count k (filing_at xs p) (connect_of loop.heirs.shards.items k p)) (sym c.in-Some.ensures.filed)
          ∙ loop.invariant.connects k p;
      sessions = record {
        many = one.sessions.many ∙ loop.invariant.sessions.many;
        configs = λ k. one.sessions.configs k ∙ loop.invariant.sessions.configs k;
        sessions = λ k n. one.sessions.sessions k n ∙ loop.invariant.sessions.sessions k n;
        patterns = λ k n. one.sessions.patterns k n ∙ loop.invariant.sessions.patterns k n;
      };
    }
