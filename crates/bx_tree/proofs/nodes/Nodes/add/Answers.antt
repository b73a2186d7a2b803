use Rattle.std.proofs.Common.{refl, sym, ◌||◌}
use Rattle.std.proofs.lemmas.Result.{on_ok_weaker}
use Rattle.bx_tree.proofs.{NodeLemmas.but_exact, NodeLemmas.but_one, NodeLemmas.but_many, NodeLemmas.changed_for, StandsLemmas.or_idle}
use Rattle.bx_names.specs.declared.tail.Tail.TheVariants.{Exact, One, Many}
use Rattle.bx_tree.specs.declared.nodes.Nodes.{Nodes}
use Rattle.bx_tree.proofs.nodes.Nodes.add.Goals as goal

pub returns-in-Exact-clause-ok : goal.returns-in-Exact-clause-ok
returns-in-Exact-clause-ok c =
    let new : Nodes = record { exact = c.add.new.self; one = c.args.self.now.one; many = c.args.self.now.many } in
    on_ok_weaker c.add.result
    (λ here. changed_for (λ a b. a || b) or_idle c.args.self.now new c.args.pattern.now Exact c.own_path-path.result.now c.args.number (sym c.in-Exact.ensures) c.own_path-path.ensures.path c.own_path-path.ensures.whole here (but_exact c.args.self.now new refl refl))
    c.add.ensures.ok

pub returns-in-One-clause-ok : goal.returns-in-One-clause-ok
returns-in-One-clause-ok c =
    let new : Nodes = record { exact = c.args.self.now.exact; one = c.add-in-One.new.self; many = c.args.self.now.many } in
    on_ok_weaker c.add-in-One.result
    (λ here. changed_for (λ a b. a || b) or_idle c.args.self.now new c.args.pattern.now One c.own_path-path.result.now c.args.number (sym c.in-One.ensures) c.own_path-path.ensures.path c.own_path-path.ensures.whole here (but_one c.args.self.now new refl refl))
    c.add-in-One.ensures.ok

pub returns-in-Many-clause-ok : goal.returns-in-Many-clause-ok
returns-in-Many-clause-ok c =
    let new : Nodes = record { exact = c.args.self.now.exact; one = c.args.self.now.one; many = c.add-in-Many.new.self } in
    on_ok_weaker c.add-in-Many.result
    (λ here. changed_for (λ a b. a || b) or_idle c.args.self.now new c.args.pattern.now Many c.own_path-path.result.now c.args.number (sym c.in-Many.ensures) c.own_path-path.ensures.path c.own_path-path.ensures.whole here (but_many c.args.self.now new refl refl))
    c.add-in-Many.ensures.ok
