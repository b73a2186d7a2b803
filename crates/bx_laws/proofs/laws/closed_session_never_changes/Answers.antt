use Rattle.bx_theory.proofs.Closings.{closed_session_never_changes}
use Rattle.bx_laws.proofs.laws.closed_session_never_changes.Goals as goal

pub returns : goal.returns
returns c = closed_session_never_changes
