use Rattle.std.proofs.Common.{◌≤◌, subst, arith}
use Rattle.bx_roster.specs.Edits.{opened_by, room_of}
use Rattle.bx_roster.specs.declared.edit.Edit.{Edit}
use Rattle.bx_roster.proofs.Kept.{ready-room}
use Rattle.bx_roster.proofs.table.Table.edit_once.Goals as goal
use Rattle.std.proofs.lemmas.Grind.{common_steps}

pub open-requires-clause-ready : goal.open-requires-clause-ready
open-requires-clause-ready c = ready-room c.args.self.now.ready (subst (λ (e : Edit). opened_by e ≤ room_of c.args.self.now.ready) c.in-Open.is c.requires.room)

pub returns-in-Open-clause-room : goal.returns-in-Open-clause-room
returns-in-Open-clause-room c = grind (arith, common_steps, ready-room)
