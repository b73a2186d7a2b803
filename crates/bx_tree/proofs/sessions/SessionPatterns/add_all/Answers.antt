use Rattle.std.proofs.Common.{nat_eq, sym, ap, ◌∙◌}
use Rattle.std.specs.Map.{set_value}
use Rattle.std.proofs.lemmas.{Map.Steps.set_value_same, Result.on_err_weaker}
use Rattle.bx_tree.proofs.sessions.SessionPatterns.add_all.Goals as goal

pub returns-in-Some-clause-err : goal.returns-in-Some-clause-err
returns-in-Some-clause-err c =
    let entries = c.self.inside.by_number.entries in
    on_err_weaker c.add_all.result
    (λ same. (c.get_mut.follows.holds c.add_all.new.arrivals).0
    ∙ ap (λ ps. set_value (nat_eq c.args.number) entries ps) same
    ∙ set_value_same (nat_eq c.args.number) entries c.in-Some.arrivals.now (sym c.in-Some.ensures.value)
    ∙ c.self.view_is)
    c.add_all.ensures.err
