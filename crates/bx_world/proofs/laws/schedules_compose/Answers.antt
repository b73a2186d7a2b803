use Rattle.bx_world.proofs.Files.{schedules_compose}
use Rattle.bx_world.proofs.laws.schedules_compose.Goals as goal

pub returns : goal.returns
returns c = schedules_compose
