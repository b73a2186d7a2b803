use Rattle.std.proofs.Common.{map, Some, sym, ap, ◌∙◌, subst, arith}
use Rattle.std.proofs.lemmas.Option.{slice_get-get_or}
use Rattle.std.specs.Arc.{arc_value}
use Rattle.bx_reshard.specs.Heirs.{AreLent}
use Rattle.bx_reshard.proofs.redistribution.make_room.Goals as goal

pub returns : goal.returns
returns g c =
    let olds = c.args.shards.now in
    let first = c.index-shards-0.result in
    record {
      first = first;
      there = slice_get-get_or olds 0 first (omega (arith, c.requires.some)) ∙ ap Some (sym c.index-shards-0.is);
      lent = subst (λ config. AreLent (g.P.Placing.place_of (arc_value c.args.placing.now)) c.args.count (map (λ s. s.sessions) olds) config c.in_ok-heirs.heirs.shards.items)
          (c.config.ensures ∙ ap (λ s. s.config) c.sessions.ensures)
          (subst (λ placing. AreLent (g.P.Placing.place_of placing) c.args.count (map (λ s. s.sessions) olds) c.config.result c.in_ok-heirs.heirs.shards.items) c.deref.ensures c.in_ok-heirs.ensures);
      handles = c.in_ok-handles.ensures.same;
      many = c.in_ok-handles.ensures.many ∙ c.get.ensures.same;
      empty = c.in_ok-made.ensures.items;
      capacity = omega (arith, c.in_ok-made.ensures.capacity, c.get-2.ensures.same);
      place_is = c.place.ensures.place;
      shut_is = c.is_closed_to_wakers.ensures;
    }
