use Rattle.std.proofs.Common.{◌≡◌, ap, arith}
use Rattle.bx_entry.specs.Registry.{Registered}
use Rattle.bx_roster.specs.declared.due_queue.Due.{Due}
use Rattle.bx_roster.proofs.Dues.{filed-push}
use Rattle.bx_roster.proofs.table.Table.open.Goals as goal

pub invariant_of-self : goal.invariant_of-self
invariant_of-self c =
    let q = c.make_room.new.queue in
    let new = c.file.new.self in
    let s = c.session.inside in
    let d : Due = record { moment = record { 0 = s.due }; number = s.number } in
    let number : s.number ≡ c.args.session.number = ap (λ (r : Registered). r.number) c.session.view_is in
    let due : s.due ≡ c.args.session.due = ap (λ (r : Registered). r.due) c.session.view_is in record {
      roster = c.open.ensures.roster;
      filed = rw c.open.ensures.opened
          (filed-push d q.late q.waiting new.late new.waiting c.self.inside.roster.members.live c.args.session c.file.ensures.late c.file.ensures.waiting number due c.make_room.ensures.filed);
      room = rw c.open.ensures.opened (omega (arith, c.file.ensures.room, c.make_room.ensures.room, c.self.invariant.room));
    }
