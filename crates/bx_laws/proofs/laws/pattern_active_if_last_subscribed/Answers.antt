use Rattle.bx_theory.proofs.Forces.{pattern_active_if_last_subscribed}
use Rattle.bx_laws.proofs.laws.pattern_active_if_last_subscribed.Goals as goal

pub returns : goal.returns
returns c = pattern_active_if_last_subscribed
