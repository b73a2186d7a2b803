use Rattle.bx_theory.proofs.Sessionless.{publish_without_client_has_no_session}
use Rattle.bx_laws.proofs.laws.publish_without_client_has_no_session.Goals as goal

pub returns : goal.returns
returns c = publish_without_client_has_no_session
