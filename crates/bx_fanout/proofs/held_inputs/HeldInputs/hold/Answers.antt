use Rattle.std.proofs.Common.{ℕ, ap, refl, sym, ◌∙◌, arith, ◌≡◌, ◌≤◌, ◌+◌, length, List, ◌++◌, ◌∷◌, [], None, count_by, subst}
use Rattle.bx_fanout.specs.HeldInputs.{AllBelow, Row, waits}
use Rattle.bx_fanout.proofs.HeldInputs.{count-behind, held-behind, marked-behind}
use Rattle.bx_fanout.proofs.held_inputs.HeldInputs.hold.Goals as goal

behind : (c : goal.Joined-branch-3) → c.insert.new.self.entries ≡ c.self.inside.held.entries ++ (c.args.place, record { number = c.args.number; answer = None }) ∷ []
behind c = c.in_ok-insert.ensures.entries ∙ held-behind c.args.place _ c.self.inside.held.entries (subst (AllBelow c.args.place) (sym c.self.view_is) c.requires)

pub invariant_of-self-2 : goal.invariant_of-self-2
invariant_of-self-2 c = record {
  ordered = c.in_ok-insert.ensures.ordered;
  marked = marked-behind c.args.place c.args.number 0 _ _ _ c.self.inside.held.entries _ refl c.in_ok-reserve.ensures.items (behind c) c.self.invariant.marked;
  room =
      let count : count_by waits c.insert.new.self.entries ≤ length c.self.inside.held.entries + 1 = subst (λ (rows : List Row). count_by waits rows ≤ length c.self.inside.held.entries + 1) (sym (behind c)) (count-behind c.args.place c.args.number c.self.inside.held.entries) in
      let same = ap (λ (ns : List ℕ). length ns) c.in_ok-reserve.ensures.items in
      omega (arith, c.in_ok-reserve.ensures.ok, c.in_ok-reserve.ensures.capacity, c.len.ensures.len);
}

pub returns-clause-ok : goal.returns-clause-ok
returns-clause-ok c = behind c ∙ ap (λ (rows : List Row). rows ++ (c.args.place, record { number = c.args.number; answer = None }) ∷ []) c.self.view_is
