use Rattle.std.proofs.Common.{◌≡◌, List, [], ◌∷◌, length, arith, refl, map, sym, ap, subst, ◌∙◌}
use Rattle.bx_connects.specs.Connects.{filing_at}
use Rattle.bx_shard.specs.declared.shard.Shard.{Shard}
use Rattle.bx_reshard.specs.Heirs.{AreMoved, answered_with, connect_of, kept_by, kept_of, settled}
use Rattle.bx_reshard.proofs.MoveLemmas.{moved_more, moved_none}
use Rattle.bx_reshard.proofs.moving.move_all.Goals as goal

none_left : {X : Type 0} (xs : List X) → length xs ≡ 0 → xs ≡ []
none_left [] h = refl
none_left (x ∷ xs) h = absurd (omega (arith, h))

pub loop-shard-preserved : goal.loop-shard-preserved
loop-shard-preserved g c =
    let place_of = g.P.Placing.place_of c.args.placing.now in
    let heirs = c.loop-shard.heirs.shards.items in
    let rest = c.next.new.self.rest.items in
    let x = c.in-Some.shard in
    record {
      many = c.move_answers.ensures.sessions.many ∙ c.move_sessions.ensures.connects.many ∙ c.loop-shard.invariant.many;
      along = λ last after. c.loop-shard.invariant.along last
          (subst (λ (xs : List (Shard g.row.P.Denot)). AreMoved place_of c.args.count (map (λ s. s.sessions) xs) heirs last) (sym c.in-Some.ensures.steps.0)
          (moved_more place_of c.args.count x.sessions (map (λ s. s.sessions) rest) heirs c.move_sessions.new.heirs.shards.items c.move_answers.new.heirs.shards.items last
          (λ k n. c.move_sessions.ensures.sessions k n ∙ ap (λ m. settled place_of c.args.count k n (kept_by m.entries n) (kept_of heirs k n)) c.into_parts-by_number.ensures.sessions)
          c.move_sessions.ensures.patterns c.move_sessions.ensures.connects
          (λ k p. c.move_answers.ensures.connects k p
          ∙ ap (λ cs. answered_with place_of c.args.count k (filing_at cs.filed p) (connect_of c.move_sessions.new.heirs.shards.items k p)) c.into_parts-by_number.ensures.connects)
          c.move_answers.ensures.sessions after));
    }

pub returns : goal.returns
returns g c =
    let place_of = g.P.Placing.place_of c.args.placing.now in
    let heirs = c.loop-shard.heirs.shards.items in
    let none : c.loop-shard.shard-iterator.rest.items ≡ [] = (let e : length c.loop-shard.shard-iterator.rest.items ≡ 0 = omega (arith, c.in-None.ensures.steps.0, c.loop-shard.shard-iterator.rest.ok.0) in none_left c.loop-shard.shard-iterator.rest.items e) in
    c.loop-shard.invariant.along heirs
    (subst (λ (xs : List (Shard g.row.P.Denot)). AreMoved place_of c.args.count (map (λ s. s.sessions) xs) heirs heirs) (sym none) (moved_none place_of c.args.count heirs))
