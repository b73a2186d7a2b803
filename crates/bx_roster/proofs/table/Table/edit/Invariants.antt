use Rattle.std.proofs.Common.{◌≡◌, ◌≤◌, fold}
use Rattle.bx_roster.specs.Edits.{CanEditEach, edited, opened_by_each, room_of}
use Rattle.bx_roster.proofs.table.Table.edit.Given as goal

abbrev pub invariant-loop-edit : goal.invariant-loop-edit
invariant-loop-edit l = CanEditEach l.self.members l.edit-iterator.rest.items × (opened_by_each l.edit-iterator.rest.items ≤ room_of l.self.ready) × (fold edited l.self.members l.edit-iterator.rest.items ≡ fold edited l.fn.self.members l.fn.edits)
