use Rattle.std.proofs.Common.{◌∙◌}
use Rattle.bx_advice.proofs.Configs.{new_some}
use Rattle.bx_advice.proofs.config.Config.new.Goals as goal

pub returns : goal.returns
returns c = new_some _ _ _ _ _ _ _ _ (c.get.ensures.same ∙ c.in_ok-shards.ensures.number)
