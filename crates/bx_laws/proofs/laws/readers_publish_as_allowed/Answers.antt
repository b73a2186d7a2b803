use Rattle.bx_laws.proofs.Readers.{readers_publish_as_allowed}
use Rattle.bx_laws.proofs.laws.readers_publish_as_allowed.Goals as goal

pub returns : goal.returns
returns c = readers_publish_as_allowed
