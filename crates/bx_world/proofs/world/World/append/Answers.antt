use Rattle.std.proofs.Common.{List, ap, ◌∙◌, ◌++◌}
use Rattle.bx_entry.specs.declared.entry.Entry.{Entry}
use Rattle.bx_world.proofs.Growing.{longer}
use Rattle.bx_world.proofs.world.World.append.Goals as goal

pub invariant_of-self-2 : goal.invariant_of-self-2
invariant_of-self-2 g c = record { holds = longer c.args.self.now c.commit.new.self c.args.plan c.commit.ensures c.requires c.push_all.new.kept.items (c.push_all.ensures ∙ ap (λ (es : List Entry). es ++ c.args.plan.batch.entries) c.reserve.ensures.items) }
