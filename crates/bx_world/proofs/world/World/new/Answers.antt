use Rattle.std.proofs.Common.{◌≡◌, ◌+◌, ℕ, List, [], ◌∷◌, ◌++◌, length, sym, ap, ◌∙◌, subst, arith}
use Rattle.std.specs.Arc.{arc_value}
use Rattle.std.proofs.lemmas.List.{length_push}
use Rattle.bx_shard.specs.declared.shard.Shard.{Shard}
use Rattle.bx_world.proofs.Starting.{AreFirst, IsFirst, first_places, holds_first, one_more_first, world_first}
use Rattle.bx_world.proofs.world.World.new.Goals as goal

pub loop-index-preserved : goal.loop-index-preserved
loop-index-preserved g c =
    let place_of = g.P.Placing.place_of in
    let config = c.args.config in
    let placing = arc_value c.args.placing in
    let loop = c.loop-index in
    let shard = c.new-shard.result in
    let made = c.new-shard.ensures in
    let here : IsFirst place_of config placing loop.index shard = record {
      config_is = made.config;
      shards_is = made.shards;
      placing_is = made.placing ∙ c.in_ok-clone.ensures.cases;
      index_is = made.index;
      place_is = made.place.0;
      sessions = made.sessions;
      connects = made.connects;
      sound = made.sound;
    } in
    let pushed : c.push.new.self.items ≡ loop.shards.items ++ shard ∷ [] = c.in_ok-push.ensures.items in
    record {
      many = ap (λ (xs : List (Shard g.row.P.Denot)). length xs) pushed ∙ length_push loop.shards.items shard ∙ ap (λ (n : ℕ). n + 1) loop.invariant.many;
      first = subst (AreFirst place_of config placing) (sym pushed) (one_more_first place_of config placing loop.shards.items loop.index shard loop.invariant.many loop.invariant.first here);
    }

pub invariant_of-result : goal.invariant_of-result
invariant_of-result g c =
    let config = c.args.config in
    let xs = c.loop-index.shards.items in
    let end : c.loop-index.index ≡ config.shards = omega (arith, c.loop-index.auto.index-end, c.loop-index-test.false) in
    record { holds = holds_first g.P.Placing.place_of config (arc_value c.args.placing) c.in_ok-new.field-0 c.in_ok-new.ensures xs _ _ c.new-2.ensures.items c.new-3.ensures (c.loop-index.invariant.many ∙ end) c.loop-index.invariant.first }

pub returns-clause-world : goal.returns-clause-world
returns-clause-world g c =
    let place_of = g.P.Placing.place_of in
    let config = c.args.config in
    let placing = arc_value c.args.placing in
    let end : c.loop-index.index ≡ config.shards = omega (arith, c.loop-index.auto.index-end, c.loop-index-test.false) in
    world_first place_of config placing c.in_ok-new.field-0 c.in_ok-new.ensures _ _
    (first_places place_of config placing c.loop-index.shards.items config.shards (c.loop-index.invariant.many ∙ end) c.loop-index.invariant.first) c.new-3.ensures
