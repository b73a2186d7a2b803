use Rattle.std.proofs.Common.{rules, ap, ◌∙◌}
use Rattle.std.specs.Option.{option_to_list}
use Rattle.bx_entry.specs.Words.{Kept, after, admitted}
use Rattle.bx_session.proofs.ConnectLemmas.{connected_answers, connected_kept}
use Rattle.bx_session.proofs.session.Session.connect.Goals as goal

pub returns-clause-ok : goal.returns-clause-ok
returns-clause-ok c =
    let old = c.args.self.now.kept in
    connected_answers c.args.config.now c.args.connect c.args.acked old (option_to_list c.release-superseded.result) (option_to_list c.admit-answered.result)
    (c.release-superseded.ensures.answer c.args.connect.place) (search rules)

pub returns-clause-kept : goal.returns-clause-kept
returns-clause-kept c =
    let config = c.args.config.now in
    c.admit-answered.ensures.kept
    ∙ ap (λ (k : Kept). after (admitted config c.args.connect c.args.acked k.overflow) k) c.release-superseded.ensures.kept
    ∙ connected_kept config c.args.connect c.args.acked c.args.self.now.kept
