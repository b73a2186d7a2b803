use Rattle.std.proofs.Common.{ℕ, sym, ◌∙◌, subst, arith}
use Rattle.std.specs.List.{All}
use Rattle.bx_shard.specs.Sessions.{Fits}
use Rattle.bx_reshard.specs.Making.{AreMade}
use Rattle.bx_reshard.proofs.Redistributed.{all_redistributed, all_fit}
use Rattle.bx_reshard.proofs.redistribution.move_in.Goals as goal

pub move_all-requires : goal.move_all-requires
move_all-requires g c = record {
  many = c.requires.ready.lent.many;
}

pub finish-requires : goal.finish-requires
finish-requires g c =
    let r = c.requires.ready in
    let last = c.move_all.new.heirs.shards.items in
    let moved = c.move_all.ensures in
    record {
      empty = r.empty;
      capacity = omega (arith, moved.many, r.lent.many, r.capacity);
      many = r.many ∙ sym (moved.many ∙ r.lent.many);
      fit = subst (λ place. All (Fits place) last) (sym r.place_is)
          (all_fit g.P.Placing.place_of c.args.placing.now c.args.count c.args.shards.items r.first r.there c.requires.alike c.requires.apart c.args.room.heirs.shards.items last r.lent moved);
    }

pub returns : goal.returns
returns g c =
    let r = c.requires.ready in
    let last = c.move_all.new.heirs.shards.items in
    all_redistributed g.P.Placing.place_of c.args.placing.now c.args.count c.args.shards.items r.first r.there c.requires.alike c.requires.apart c.args.room.heirs.shards.items last r.lent c.move_all.ensures
    c.args.room.is_closed_to_wakers c.finish.result.items r.shut_is
    (subst (λ (place : ℕ). AreMade c.args.placing.now c.args.count place c.args.room.is_closed_to_wakers c.finish.result.items) r.place_is (c.finish.ensures.made c.args.placing.now r.handles))
    c.finish.ensures.sessions
