use Rattle.std.proofs.Common.{[]}
use Rattle.bx_names.specs.Globs.{any_matches}
use Rattle.bx_tree.specs.declared.nodes.found.Found.{Found}
use Rattle.bx_tree.specs.Words.{patterns_of, is_met, AreWhole}
use Rattle.bx_tree.proofs.{MeetLemmas.met_is, AmongLemmas.exact_if_met}
use Rattle.bx_tree.proofs.nodes.Nodes.find.Goals as goal

pub returns-clause-exact : goal.returns-clause-exact
returns-clause-exact c = λ all index.
    let nodes = c.args.self.now in
    let name = c.args.name.now in
    exact_if_met c.settled.result (λ (found : Found). found.numbers.items) (is_met nodes [] name) (λ n. any_matches (patterns_of all n) name) (AreWhole name)
    (λ whole n. met_is nodes all n index name whole)
    c.settled.ensures.numbers c.settled.ensures.whole
