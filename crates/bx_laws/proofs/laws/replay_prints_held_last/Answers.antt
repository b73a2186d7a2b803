use Rattle.bx_theory.proofs.Lines.{replay_prints_held_last}
use Rattle.bx_laws.proofs.laws.replay_prints_held_last.Goals as goal

pub returns : goal.returns
returns c = replay_prints_held_last
