use Rattle.bx_roster.specs.Queues.{entries}
use Rattle.bx_roster.proofs.Dues.{filed-permuted}
use Rattle.bx_roster.proofs.table.Table.expire.Goals as goal

pub settle_late-requires-clause-filed : goal.settle_late-requires-clause-filed
settle_late-requires-clause-filed c = filed-permuted (entries c.self.inside.queue) (entries c.expire.new.self) c.self.inside.roster.members.live c.expire.ensures.same c.self.invariant.filed
