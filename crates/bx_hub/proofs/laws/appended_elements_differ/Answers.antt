use Rattle.bx_hub.proofs.Sequences.{moments_differ, nonces_differ}
use Rattle.bx_hub.proofs.laws.appended_elements_differ.Goals as goal

pub returns-clause-nonces : goal.returns-clause-nonces
returns-clause-nonces c = nonces_differ

pub returns-clause-moments : goal.returns-clause-moments
returns-clause-moments c = moments_differ
