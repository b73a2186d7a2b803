use Rattle.std.proofs.Common.{◌∙◌, sym}
use Rattle.bx_advice.proofs.Configs.{maximum_set}
use Rattle.bx_advice.proofs.config.Config.with_maximum.Goals as goal

pub returns : goal.returns
returns c = maximum_set c.args.limit c.args.n c.args.self _ _ _ (sym c.accepts.ensures ∙ c.if-not-accepts.false) c.set.ensures
