use Rattle.std.proofs.Common.{ap, ◌∙◌, arith}
use Rattle.std.proofs.lemmas.List.Filters.{dedup_is}
use Rattle.bx_entry.specs.Registry.{overdue}
use Rattle.bx_roster.specs.Words.{Members, Prepared, entries, past_numbers}
use Rattle.bx_roster.proofs.{Dues.filed-permuted, Past.past-overdue}
use Rattle.bx_roster.proofs.table.Table.overdue.Goals as goal

pub invariant_of-self : goal.invariant_of-self
invariant_of-self c = record {
  roster = c.self.invariant.roster;
  filed = filed-permuted (entries c.self.inside.queue) (entries c.expire.new.self) c.self.inside.roster.members.live c.expire.ensures.same c.self.invariant.filed;
  room = omega (arith, c.self.invariant.room, c.expire.ensures.room);
}

pub invariant_of-self-2 : goal.invariant_of-self-2
invariant_of-self-2 c = record {
  roster = c.self.invariant.roster;
  filed = filed-permuted (entries c.self.inside.queue) (entries c.expire.new.self) c.self.inside.roster.members.live c.expire.ensures.same c.self.invariant.filed;
  room = omega (arith, c.self.invariant.room, c.expire.ensures.room);
}

pub returns-clause-overdue : goal.returns-clause-overdue
returns-clause-overdue c =
    let ms : Members = c.self.inside.roster.members in
    let q = c.expire.new.self in
    let filed = filed-permuted (entries c.self.inside.queue) (entries q) ms.live c.expire.ensures.same c.self.invariant.filed in
    c.from_vec.ensures
    ∙ past-overdue c.args.moment 0 ms.opened ms.live q.late q.waiting c.in_ok-numbers.numbers.items c.sort_unstable.new.self.items c.dedup.new.self.items
    c.expire.ensures.from filed c.self.invariant.roster.table c.self.invariant.roster.all
    (c.in_ok-numbers.ensures ∙ ap (past_numbers c.args.moment ms.live) c.late.ensures)
    c.sort_unstable.ensures.permutation c.sort_unstable.ensures.sorted (dedup_is _ _ _ c.dedup.ensures.filtered)
    ∙ ap (λ (v : Prepared). overdue c.args.moment v.members.live) c.self.view_is
