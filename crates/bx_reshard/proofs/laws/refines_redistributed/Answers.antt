use Rattle.bx_reshard.proofs.RedistributionLaws.{refines_redistributed}
use Rattle.bx_reshard.proofs.laws.refines_redistributed.Goals as goal

pub returns : goal.returns
returns c = refines_redistributed
