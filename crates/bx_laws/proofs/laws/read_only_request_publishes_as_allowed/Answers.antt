use Rattle.bx_laws.proofs.Readers.{read_only_request_publishes_as_allowed}
use Rattle.bx_laws.proofs.laws.read_only_request_publishes_as_allowed.Goals as goal

pub returns : goal.returns
returns c = read_only_request_publishes_as_allowed
