use Rattle.std.proofs.Common.{rules}
use Rattle.bx_shard.proofs.Surveying.{survey_at}
use Rattle.bx_shard.proofs.sessions.Sessions.survey.Goals as goal

pub returns-clause-shown : goal.returns-clause-shown
returns-clause-shown c =
    survey_at c.args.self.now c.args.index c.in-Some.number.now c.in-Some.session.now c.of.result
    (search rules) (search rules) (search rules) (search rules) (search rules) (search rules)
