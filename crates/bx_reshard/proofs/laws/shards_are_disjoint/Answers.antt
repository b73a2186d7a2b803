use Rattle.bx_reshard.proofs.RedistributionLaws.{shards_are_disjoint}
use Rattle.bx_reshard.proofs.laws.shards_are_disjoint.Goals as goal

pub returns : goal.returns
returns c = shards_are_disjoint
