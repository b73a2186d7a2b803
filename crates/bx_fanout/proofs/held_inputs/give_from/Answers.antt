use Rattle.std.proofs.Common.{◌≡◌, ◌-◌, ◌++◌, ◌∷◌, [], ℕ, ap, arith, reverse, length, refl, slice_get, take, vec_len, subst, sym, ◌∙◌, List}
use Rattle.bx_fanout.specs.declared.out.Out.{Out}
use Rattle.bx_fanout.specs.HeldInputs.{Gives, Row, answered_places}
use Rattle.bx_fanout.proofs.Giving.{First, Last, first-given, gives-none, gives-on, last-first}
use Rattle.bx_fanout.proofs.held_inputs.give_from.Goals as goal
use Rattle.bx_fanout.proofs.held_inputs.give_from.Goals.{in-Some-2, in_default-2}

last : (c : goal.After-pop) → Last (answered_places c.loop-place.held.entries) c.in-Some.place c.pop.new.self.items
last c = last-first c.loop-place.answered.items c.pop.new.self.items (answered_places c.loop-place.held.entries) c.in-Some.place c.loop-place.invariant.marked
    (ap (λ (ns : List ℕ). slice_get ns (length ns - 1)) (sym c.deref.ensures.value) ∙ sym c.last.ensures.value ∙ sym c.in-Some.ensures)
    (let v = c.loop-place.answered in
    let len : vec_len v - 1 ≡ length v.items - 1 = omega (arith, v.ok.0) in
    c.pop.ensures.rest ∙ ap (λ (n : ℕ). take n v.items) len)

first : (c : goal.After-pop) → First c.loop-place.held.entries c.in-Some.place (last c).rest
first c = first-given c.loop-place.held.entries c.in-Some.place (last c).rest c.loop-place.invariant.ordered (last c).is

outs : (c : goal.After-pop) → c.match-branch-3.outs.items ≡ c.loop-place.outs.items ++ (first c).out ∷ []
outs c =
    let given = sym (first c).found ∙ sym c.in_ok-out.ensures.out in
    elim c.match-branch-3.branch [
      | in-Some-2 w ↦
          let some = given ∙ w.in-Some-2.is in
          let same : (first c).out ≡ w.in-Some-2.out = cc in
          ap (λ v. v.items) w.outs-is ∙ w.push_reserved.ensures.items ∙ ap (λ (os : List Out). os ++ w.in-Some-2.out ∷ []) c.in_ok-reserve.ensures.items ∙ ap (λ (o : Out). c.loop-place.outs.items ++ o ∷ []) (sym same)
      | in_default-2 w ↦ let none = given ∙ w.in_default-2.is in cc
    ]

pub loop-place-preserved : goal.loop-place-preserved
loop-place-preserved c =
    let taken = c.in_ok-out.ensures.taken in
    record {
      marked = (last c).before-is ∙ ap (λ (ns : List ℕ). reverse ns) (sym (first c).rest) ∙ ap (λ (rows : List Row). reverse (answered_places rows)) (sym taken);
      ordered = c.in_ok-out.ensures.ordered c.loop-place.invariant.ordered;
      gives = subst (Gives c.args.held.now.entries c.args.outs.now.items c.match-branch-3.outs.items) (sym taken) (gives-on c.args.held.now.entries c.loop-place.held.entries c.args.outs.now.items c.loop-place.outs.items c.match-branch-3.outs.items c.in-Some.place (last c).rest (first c) c.loop-place.invariant.gives (outs c));
      fewer = omega (arith, c.pop.ensures.len, c.loop-place.invariant.fewer);
      capacity = c.pop.ensures.capacity ∙ c.loop-place.invariant.capacity;
    }

pub loop-place-init : goal.loop-place-init
loop-place-init c = record {
  marked = c.requires.marked;
  ordered = c.requires.ordered;
  gives = gives-none c.args.held.now.entries c.args.outs.now.items;
  fewer = omega arith;
  capacity = refl;
}
