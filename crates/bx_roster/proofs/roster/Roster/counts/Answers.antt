use Rattle.bx_roster.proofs.Sessions.{table-to, live-to}
use Rattle.bx_roster.proofs.roster.Roster.counts.Goals as goal

pub returns-clause-table : goal.returns-clause-table
returns-clause-table c = rw (← c.self.view_is) (table-to _ c.self.invariant.stand c.self.inside.opened)

pub returns-clause-all : goal.returns-clause-all
returns-clause-all c = rw (← c.self.view_is) (live-to _ c.self.invariant.stand c.self.inside.opened)

pub returns-clause-limit : goal.returns-clause-limit
returns-clause-limit c = rw (← c.self.view_is) (c.self.invariant.small)
