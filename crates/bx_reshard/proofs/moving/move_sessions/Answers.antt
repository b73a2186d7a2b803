use Rattle.std.proofs.Common.{sym, ap, ◌∙◌}
use Rattle.bx_reshard.specs.Heirs.{kept_by, kept_of, settled}
use Rattle.bx_reshard.proofs.MoveLemmas.{session_moved}
use Rattle.bx_reshard.proofs.moving.move_sessions.Goals as goal

pub loop-number-preserved : goal.loop-number-preserved
loop-number-preserved g c =
    let place_of = g.P.Placing.place_of c.args.placing.now in
    let loop = c.loop-number in
    let es = c.pop.new.self.entries in
    let one = c.settle.ensures in
    record {
      sessions = λ k n.
          session_moved place_of c.args.count k n es c.in-Some.number c.place.result c.in-Some.session (kept_of loop.heirs.shards.items k n) (kept_of c.settle.new.self.shards.items k n)
          (c.place.ensures.same ∙ ap (λ m. place_of c.in-Some.number m) c.get.ensures.same) (one.sessions k n)
          ∙ ap (λ xs. settled place_of c.args.count k n (kept_by xs n) (kept_of loop.heirs.shards.items k n)) (sym c.in-Some.ensures.entries)
          ∙ loop.invariant.sessions k n;
      patterns = λ k n. one.patterns k n ∙ loop.invariant.patterns k n;
      connects = record {
        many = one.connects.many ∙ loop.invariant.connects.many;
        configs = λ k. one.connects.configs k ∙ loop.invariant.connects.configs k;
        connects = λ k p. one.connects.connects k p ∙ loop.invariant.connects.connects k p;
      };
    }
