use Rattle.std.proofs.Common.{refl, sym, not, ◌&&◌}
use Rattle.bx_tree.proofs.{NodeLemmas.but_exact, NodeLemmas.but_one, NodeLemmas.but_many, NodeLemmas.changed_for, StandsLemmas.not_idle}
use Rattle.bx_names.specs.declared.tail.Tail.TheVariants.{Exact, One, Many}
use Rattle.bx_tree.specs.declared.nodes.Nodes.{Nodes}
use Rattle.bx_tree.proofs.nodes.Nodes.remove.Goals as goal

pub returns-in-Exact-clause-gone : goal.returns-in-Exact-clause-gone
returns-in-Exact-clause-gone c =
    let new : Nodes = record { exact = c.remove.new.self; one = c.args.self.now.one; many = c.args.self.now.many } in
    changed_for (λ a b. a && not b) not_idle c.args.self.now new c.args.pattern.now Exact c.own_path-path.result.now c.args.number (sym c.in-Exact.ensures) c.own_path-path.ensures.path c.own_path-path.ensures.whole c.remove.ensures.gone (but_exact c.args.self.now new refl refl)

pub returns-in-One-clause-gone : goal.returns-in-One-clause-gone
returns-in-One-clause-gone c =
    let new : Nodes = record { exact = c.args.self.now.exact; one = c.remove-in-One.new.self; many = c.args.self.now.many } in
    changed_for (λ a b. a && not b) not_idle c.args.self.now new c.args.pattern.now One c.own_path-path.result.now c.args.number (sym c.in-One.ensures) c.own_path-path.ensures.path c.own_path-path.ensures.whole c.remove-in-One.ensures.gone (but_one c.args.self.now new refl refl)

pub returns-in-Many-clause-gone : goal.returns-in-Many-clause-gone
returns-in-Many-clause-gone c =
    let new : Nodes = record { exact = c.args.self.now.exact; one = c.args.self.now.one; many = c.remove-in-Many.new.self } in
    changed_for (λ a b. a && not b) not_idle c.args.self.now new c.args.pattern.now Many c.own_path-path.result.now c.args.number (sym c.in-Many.ensures) c.own_path-path.ensures.path c.own_path-path.ensures.whole c.remove-in-Many.ensures.gone (but_many c.args.self.now new refl refl)
