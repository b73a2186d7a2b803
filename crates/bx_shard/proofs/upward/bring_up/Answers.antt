use Rattle.std.proofs.Common.{get_or}
use Rattle.bx_shard.proofs.Parts.{brought_each, went_in_part}
use Rattle.bx_shard.proofs.upward.bring_up.Goals as goal

pub returns-clause-brought : goal.returns-clause-brought
returns-clause-brought g c = brought_each g.P.Placing.place_of c.args.entries.now c.args.shards.now c.for_each_chunk_mut.new.s c.for_each_chunk_mut.auto.s
    (λ i d inside. let at = (c.for_each_chunk_mut.ensures.by_index i d inside).1 in
    went_in_part g.P.Placing.place_of c.args.entries.now at.argument.now at.after_call.now at.offset d (get_or c.args.shards.now i d) (get_or c.for_each_chunk_mut.new.s i d) at.call at.offset_in_chunk at.old_element at.new_element)
