use Rattle.std.proofs.Common.{◌≡◌, ◌+◌, [], ◌∷◌, ◌++◌, map, take, sym, subst, ap, ◌∙◌}
use Rattle.std.proofs.lemmas.List.{map-append, take_more}
use Rattle.bx_reshard.specs.Heirs.{AreLent}
use Rattle.bx_reshard.proofs.MoveLemmas.{clean_none, lent_more, lent_none}
use Rattle.bx_reshard.proofs.lending.lend_all.Goals as goal

pub loop-shard-init : goal.loop-shard-init
loop-shard-init g c = record {
  lent = lent_none (g.P.Placing.place_of c.args.placing.now) c.args.count c.args.config c.in_ok-heirs.heirs.shards.items (c.in_ok-heirs.ensures.many ∙ c.get.ensures.same) c.in_ok-heirs.ensures.empty;
  clean = clean_none c.args.config c.in_ok-heirs.heirs.shards.items c.in_ok-heirs.ensures.empty;
}

pub loop-shard-preserved : goal.loop-shard-preserved
loop-shard-preserved g c =
    let place_of = g.P.Placing.place_of c.args.placing.now in
    let i = c.loop-shard.shard-index in
    let xs = c.args.shards.now in
    let item = c.shard-item.result in
    let more : take (i + 1) xs ≡ take i xs ++ item ∷ [] = take_more xs i item c.loop-shard-test.true ∙ ap (λ s. take i xs ++ s ∷ []) (sym c.shard-item.is) in
    let one = c.in_ok-lend_from.ensures in
    record {
      lent = subst (λ ss. AreLent place_of c.args.count ss c.args.config c.lend_from.new.heirs.shards.items)
          (sym (ap (map (λ s. s.sessions)) more ∙ map-append (λ s. s.sessions) (take i xs) (item ∷ []) ∙ ap (λ s. map (λ s. s.sessions) (take i xs) ++ s ∷ []) (sym c.sessions.ensures)))
          (lent_more place_of c.args.count c.args.config (map (λ s. s.sessions) (take i xs)) c.sessions.result.now c.loop-shard.heirs.shards.items c.lend_from.new.heirs.shards.items
          c.loop-shard.invariant.lent one.sessions one.patterns one.connects one.many one.configs one.apart);
      clean = one.clean;
    }
